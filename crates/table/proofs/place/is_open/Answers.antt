use Rattle.std.proofs.Common.{arith}
use Rattle.table.proofs.Bits.{open_none, open_bit, open_high}
use Rattle.table.proofs.place.is_open.Goals as goal

pub returns-then-e-eq0 : goal.returns-then-e-eq0
returns-then-e-eq0 c = open_none c.args.o c.args.e c.if-e-eq0.true

pub returns-then-e-gt8 : goal.returns-then-e-gt8
returns-then-e-gt8 c = open_high c.args.o c.args.e (omega arith) c.if-e-gt8.true

pub returns : goal.returns
returns c = open_bit c.args.o c.args.e (omega arith)
