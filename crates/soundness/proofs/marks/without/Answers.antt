use Rattle.std.proofs.Common.{ap, arith, le-ltb, lt-ltb}
use lib.Bits.{bit_xor}
use Rattle.soundness.specs.Marks.{without_mark}
use Rattle.soundness.proofs.MarkLaws.{shifted}
use Rattle.soundness.proofs.marks.without.Goals as goal

pub returns-then-t-lt32 : goal.returns-then-t-lt32
unfolding without_mark
returns-then-t-lt32 c = rw (lt-ltb c.args.t 32 (omega arith)) (ap (bit_xor c.args.word) (shifted c.args.t (omega arith)))

pub returns-else-t-lt32 : goal.returns-else-t-lt32
unfolding without_mark
returns-else-t-lt32 c = rw (le-ltb c.args.t 32 (omega arith))
