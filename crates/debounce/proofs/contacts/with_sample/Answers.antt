use Rattle.std.proofs.Common.{◌+◌, arith, le-ltb, lt-ltb}
use Rattle.debounce.proofs.CodeLaws.{differs_is}
use Rattle.debounce.proofs.contacts.with_sample.Goals as goal

pub returns-then-from : goal.returns-then-from
returns-then-from c = rw (differs_is c.args.x c.args.c.closed, c.if-x-c.true) (rw (lt-ltb (c.args.c.against + 1) c.args.c.n (omega arith)) c.with_report.ensures)

pub returns-then-x-c : goal.returns-then-x-c
returns-then-x-c c = rw (differs_is c.args.x c.args.c.closed, c.if-x-c.true) (rw (le-ltb (c.args.c.against + 1) c.args.c.n (omega arith)) c.with_report-then-x-c.ensures)

pub returns : goal.returns
returns c = rw (differs_is c.args.x c.args.c.closed, c.if-x-c.false) c.with_report-2.ensures
