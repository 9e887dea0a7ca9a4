use Rattle.std.proofs.Common.{rules}
use Rattle.script.proofs.Growing.{none_grown, then_grown}
use Rattle.script.proofs.reader.with_part.Goals as goal

pub returns-then-is_blank : goal.returns-then-is_blank
returns-then-is_blank c = rw (← c.is_blank.ensures, c.if-is_blank.true) (none_grown c.args.row (search rules))

pub returns : goal.returns
returns c = rw (← c.is_blank.ensures, c.if-is_blank.false, c.if-inside.false) (then_grown c.with_byte-2.ensures c.with_byte-3.ensures)
