use Rattle.std.proofs.Common.{◌≡◌, length, drop}
use Rattle.lists.specs.Line.{line}
use Rattle.table.specs.Moved.{readied_of}
use Rattle.table.proofs.moves.readied.Given as goal

-- The invariant: what is left to do gives the whole.
abbrev pub invariant-loop-t : goal.invariant-loop-t
invariant-loop-t at = (length at.n.tasks ≡ 31) × (readied_of at.initial.n (line at.fn.l) ≡ readied_of at.n (line (drop at.t-index at.fn.l)))
