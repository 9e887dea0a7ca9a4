use Rattle.std.proofs.Common.{◌≡◌, sym, ◌∙◌, eqb, rules}
use borrow.Author.Tests.{lt-leb}
use Rattle.lists.proofs.Tests.{if-false}
use Rattle.debounce.specs.Settings.{two}
use Rattle.card.proofs.ContactsLaws.{five_are, is_none}
use Rattle.card.proofs.contacts.contact_from.Goals as goal

pub returns-then-closed-le1 : goal.returns-then-closed-le1
returns-then-closed-le1 c =
    let a = c.args in
    let p : c.from_be_bytes.result ≡ two a.high a.low = search rules in
    (λ i. record { n = a.n; p = p i; closed = eqb a.closed 1; against = a.against }) ∙ sym (five_are a.n a.high a.low a.closed a.against c.if-closed-le1.true)

pub returns : goal.returns
returns c = let e = c.default.ensures in is_none c.default.result e.0 e.1.0 e.1.1.0 e.1.1.1 ∙ sym (if-false _ _ _ (lt-leb c.args.closed 1 c.if-closed-le1.false))
