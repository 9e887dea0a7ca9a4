use Rattle.std.proofs.Common.{ap, ◌∙◌, arith, rules}
use borrow.Author.Tests.{tests}
use Rattle.lists.proofs.FromFn.{from_fn_each}
use Rattle.debounce.specs.Card.{no_contact}
use Rattle.card.specs.Contacts.{contact_at}
use Rattle.card.proofs.ContactsLaws.{contacts_are}
use Rattle.card.proofs.contacts.contacts_in.Goals as goal

pub returns : goal.returns
returns c =
    let b = c.args.b.now in
    contacts_are b 8 0 c.from_fn.result c.from_fn.ensures.items.long
    (λ k h. from_fn_each _ _ (contact_at b) c.from_fn.result (λ i y q z. search (rules, tests)) 8 0 c.from_fn.ensures.items.each k no_contact (omega arith) (omega arith) ∙ ap (contact_at b) (omega arith))
