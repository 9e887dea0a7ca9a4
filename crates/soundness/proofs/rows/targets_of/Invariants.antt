use Rattle.std.proofs.Common.{◌≡◌, length}
use Rattle.soundness.proofs.RowLaws.{TargetsTo}
use Rattle.soundness.proofs.rows.targets_of.Given as goal

abbrev pub invariant-loop-i : goal.invariant-loop-i
invariant-loop-i l = (length l.fn.s.tasks ≡ 31) × TargetsTo l.fn.s l.targets l.i
