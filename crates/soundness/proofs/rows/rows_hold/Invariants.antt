use Rattle.std.proofs.Common.{◌≡◌, ◌+◌, false, length, drop}
use Rattle.soundness.specs.Marks.{next_mark}
use Rattle.soundness.specs.Rows.{met_all}
use Rattle.soundness.proofs.rows.rows_hold.Given as goal

abbrev pub invariant-loop-i : goal.invariant-loop-i
invariant-loop-i l = (length l.fn.rows ≡ 31) × (met_all l.targets 1 (next_mark l.word false) l.fn.rows ≡ met_all l.targets (l.i + 1) l.rest (drop l.i l.fn.rows))
