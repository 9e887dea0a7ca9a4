use mathlib.Core.Path.{sym, ◌∙◌}
use borrow.Author.Tests.{eq-eqb, ne_eqb}
use Rattle.lists.proofs.Tests.{if-true, if-false}
use Rattle.card.proofs.contacts.keep.Goals as goal

pub returns-then-refusal-eq0 : goal.returns-then-refusal-eq0
returns-then-refusal-eq0 c = c.store_card.ensures ∙ sym (if-true _ _ _ (eq-eqb c.args.refusal 0 c.if-refusal-eq0.true))

pub returns-else-refusal-eq0 : goal.returns-else-refusal-eq0
returns-else-refusal-eq0 c = sym (if-false _ _ _ (ne_eqb c.args.refusal 0 c.if-refusal-eq0.false))
