use Prim.Native.Nat.{◌+◌}
use mathlib.Core.Path.{sym, ◌∙◌}
use lib.ListN.{length}
use borrow.Author.Tests.{le-leb, lt-leb}
use Rattle.lists.proofs.Tests.{if-true, if-false}
use Rattle.card.specs.Contacts.{contact_size, contact_place}
use Rattle.card.proofs.ContactsLaws.{is_none}
use Rattle.card.proofs.contacts.contact_at.Goals as goal

pub returns-then-end-b : goal.returns-then-end-b
returns-then-end-b c = c.contact_from.ensures ∙ sym (if-true _ _ _ (le-leb (contact_place c.args.i + contact_size) (length c.args.b.now) c.if-end-b.true))

pub returns : goal.returns
returns c = let e = c.default.ensures in is_none c.default.result e.0 e.1.0 e.1.1.0 e.1.1.1 ∙ sym (if-false _ _ _ (lt-leb (contact_place c.args.i + contact_size) (length c.args.b.now) c.if-end-b.false))
