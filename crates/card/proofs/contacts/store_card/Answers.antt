use native.Mathlib.Omega.{arith}
use borrow.Author.Rules.{rules}
use Prim.Native.Nat.{◌≤◌}
use mathlib.Core.Path.{◌≡◌}
use lib.ListN.{length}
use Rattle.lists.proofs.ListLaws.{mapped_long}
use Rattle.codec.proofs.Kept.{Sized}
use Rattle.card.specs.Contacts.{card_size}
use Rattle.card.proofs.ContactsLaws.{card_short, card_long}
use Rattle.card.proofs.contacts.store_card.Goals as goal

pub returns-then-room-lt-CARD_SIZE : goal.returns-then-room-lt-CARD_SIZE
returns-then-room-lt-CARD_SIZE c = card_short c.args.room.now c.args.c c.if-room-lt-CARD_SIZE.true

pub returns : goal.returns
returns c =
    let s = c.args.c.supervisor in
    let room = c.args.room.now in
    let long : card_size ≤ length room = omega arith in
    let tasks : length s.core.tasks ≡ 31 = search (rules, mapped_long) in
    let ready : length s.core.ready ≡ 31 = search rules in
    let callers : length s.callers ≡ 31 = search rules in
    let held : length s.core.held ≡ 31 = search rules in
    let delays : length s.core.delays ≡ 31 = search rules in
    let contacts : length c.args.c.contacts ≡ 8 = search (rules, mapped_long) in
    let sized : Sized s = record { tasks = tasks; ready = ready; callers = callers; held = held; delays = delays } in
    card_long room c.args.c _ _ long sized contacts c.store.ensures c.put_contacts.ensures
