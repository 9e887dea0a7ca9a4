use Rattle.std.proofs.Common.{rules}
use Rattle.script.proofs.Growing.{none_grown, then_grown}
use Rattle.script.proofs.print.with_entry.Goals as goal

pub returns-then-is_open : goal.returns-then-is_open
returns-then-is_open c = rw c.if-is_open.true (then_grown c.with_byte.ensures c.with_byte-then-is_open.ensures)

pub returns : goal.returns
returns c = rw c.if-is_open.false (none_grown c.args.row (search rules))
