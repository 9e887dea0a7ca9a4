use native.Mathlib.Omega.{arith}
use Prim.Native.Nat.{◌≤◌}
use mathlib.Core.Path.{sym, ap, ◌∙◌}
use lib.ListN.{length}
use borrow.Author.Tests.{le-ltb}
use Rattle.lists.proofs.Tests.{if-false}
use Rattle.debounce.specs.declared.Made.{Made}
use Rattle.debounce.specs.Settings.{fresh_of}
use Rattle.card.specs.Contacts.{card_size, card_after}
use Rattle.card.proofs.ContactsLaws.{after_short}
use Rattle.card.proofs.contacts.debounce_fresh.Goals as goal

pub returns-then-card-lt-CARD_SIZE-clause-card_after : goal.returns-then-card-lt-CARD_SIZE-clause-card_after
returns-then-card-lt-CARD_SIZE-clause-card_after c =
    let m = fresh_of c.args.settings.now in
    after_short c.args.card.now m.refusal m.card c.if-card-lt-CARD_SIZE.true

pub returns-clause-value : goal.returns-clause-value
returns-clause-value c =
    let b = c.args.card.now in
    let long : card_size ≤ length b = omega arith in
    ap (λ (m : Made). m.refusal) c.fresh-made.ensures ∙ sym (if-false _ _ _ (le-ltb (length b) card_size long))

-- what is made is put there, unless it is refused
pub returns-clause-card_after : goal.returns-clause-card_after
returns-clause-card_after c = c.keep.ensures ∙ ap (λ (m : Made). card_after c.args.card.now m.refusal m.card) c.fresh-made.ensures
