use Rattle.std.proofs.Common.{arith}
use Rattle.table.proofs.Bits.{set_high, set_test}
use Rattle.table.proofs.place.is_too_wide.Goals as goal

pub returns-then-n-gt7 : goal.returns-then-n-gt7
returns-then-n-gt7 c = set_high c.args.o c.args.n (omega arith) c.if-n-gt7.true

pub returns : goal.returns
returns c = set_test c.args.o c.args.n
