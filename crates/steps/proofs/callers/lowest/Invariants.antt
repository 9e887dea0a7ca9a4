use Rattle.std.proofs.Common.{◌≡◌, ◌≤◌, length, drop}
use Rattle.lists.specs.Line.{line}
use Rattle.rules.specs.Whole.{view_core}
use Rattle.steps.specs.Lowest.{call_of, nobody, lowest_of}
use Rattle.steps.proofs.callers.lowest.Given as goal

-- The lowest of the rest of the line, from the lowest so far, is that of the line.
abbrev pub invariant-loop-c : goal.invariant-loop-c
invariant-loop-c l =
    (l.c-index ≤ 31) × (length l.s.tasks ≡ 31) × (length l.c-items ≡ 31) × (lowest_of (call_of (view_core l.s) l.t l.o) nobody (line l.c-items) ≡ lowest_of (call_of (view_core l.s) l.t l.o) l.b (line (drop l.c-index l.c-items)))
