use Rattle.std.proofs.Common.{sym, arith, rules}
use Rattle.soundness.specs.Marks.{has_mark}
use Rattle.soundness.proofs.MarkLaws.{has_high}
use Rattle.soundness.proofs.marks.has.Goals as goal

pub returns-then-t-lt32 : goal.returns-then-t-lt32
unfolding has_mark
returns-then-t-lt32 c = search rules

pub returns-else-t-lt32 : goal.returns-else-t-lt32
returns-else-t-lt32 c = sym (has_high c.args.word c.args.t (omega arith) (omega arith))
