use Rattle.std.proofs.Common.{◌≡◌, length, drop}
use Rattle.soundness.specs.Check.{holds_in, walked}
use Rattle.soundness.proofs.stand.holds.Given as goal

-- The invariant: what is left of the answer is the answer for the rest of the array.
abbrev pub invariant-loop-i : goal.invariant-loop-i
invariant-loop-i l = (length l.a ≡ 31) × (holds_in l.word l.a ≡ walked l.rest (drop l.i l.a))
