use Rattle.std.proofs.Common.{◌≡◌, length, drop}
use Rattle.lists.specs.Line.{line}
use Rattle.rules.specs.State.{running, current_of}
use Rattle.rules.specs.Whole.{view_core}
use Rattle.table.specs.Best.{best_of, last_of}
use Rattle.table.proofs.dispatch.running.Given as goal

-- The best of the rest of the line, from the best so far, is the running task.
abbrev pub invariant-loop-t : goal.invariant-loop-t
invariant-loop-t l =
    (length l.fn.s.tasks ≡ 31) × (length l.fn.s.ready ≡ 31) × (l.n ≡ last_of l.fn.s.created) × (running (view_core l.fn.s) ≡ (best_of (current_of (view_core l.fn.s)) l.b (line (drop l.t-index l.fn.s.ready))).task)
