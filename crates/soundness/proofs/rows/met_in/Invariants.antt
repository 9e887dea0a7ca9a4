use Rattle.std.proofs.Common.{◌≡◌, length, drop}
use Rattle.soundness.specs.Rows.{met_in}
use Rattle.soundness.proofs.rows.met_in.Given as goal

abbrev pub invariant-loop-i : goal.invariant-loop-i
invariant-loop-i at = (length at.fn.l ≡ 31) × (met_in at.targets at.g at.word at.fn.l ≡ met_in at.targets at.g at.rest (drop at.i at.fn.l))
