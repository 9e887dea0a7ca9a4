use Rattle.std.proofs.Common.{◌≡◌, length, drop}
use Rattle.lists.specs.Line.{line}
use Rattle.soundness.specs.TreeCheck.{all_climbed}
use Rattle.soundness.proofs.tree.all_climb.Given as goal

-- The invariant: the climbs from the rest of the line give what all climbs give.
abbrev pub invariant-loop-t : goal.invariant-loop-t
invariant-loop-t l = (length l.fn.held ≡ 31) × (all_climbed l.holders l.word (line l.fn.held) ≡ all_climbed l.holders l.rest (line (drop l.t-index l.fn.held)))
