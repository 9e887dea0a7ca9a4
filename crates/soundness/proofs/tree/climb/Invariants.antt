use Rattle.std.proofs.Common.{◌≡◌, ◌-◌}
use Rattle.soundness.specs.TreeCheck.{climbed}
use Rattle.soundness.proofs.tree.climb.Given as goal

-- The invariant: what is left of the climb gives what the whole climb gives.
abbrev pub invariant-loop-turn : goal.invariant-loop-turn
invariant-loop-turn l = climbed l.holders l.word 31 l.word l.t ≡ climbed l.holders l.word (31 - l._turn) l.rest l.u
