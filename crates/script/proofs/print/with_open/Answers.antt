use Rattle.script.specs.CallText.{open_text}
use borrow.Author.Tests.{eq-eqb, ne_eqb}
use Rattle.script.proofs.print.with_open.Goals as goal

pub returns-then-set-eq0 : goal.returns-then-set-eq0
unfolding open_text
returns-then-set-eq0 c = rw (eq-eqb c.args.set 0 c.if-set-eq0.true) c.with_text.ensures

pub returns : goal.returns
unfolding open_text
returns c = rw (ne_eqb c.args.set 0 c.if-set-eq0.false) c.with_entries.ensures
