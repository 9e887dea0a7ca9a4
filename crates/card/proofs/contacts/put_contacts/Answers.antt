use native.Mathlib.Omega.{arith}
use borrow.Author.Rules.{rules}
use Prim.Native.Nat.{ℕ, ◌+◌, ◌≤◌, ◌<◌}
use mathlib.Core.Path.{◌≡◌, refl, sym, ap, ◌∙◌}
use mathlib.Core.List.{List}
use lib.ListN.{length, get_or, drop}
use Rattle.lists.proofs.ListLaws.{mapped_long}
use Rattle.lists.proofs.Turns.{rest_cons}
use Rattle.codec.specs.Layout.{put_at, placed_at}
use Rattle.codec.proofs.CodecLaws.{put_length, placed_fits}
use Rattle.debounce.specs.Card.{no_contact}
use Rattle.card.specs.Contacts.{contact_place, contact_bytes, contacts_bytes}
use Rattle.card.proofs.ContactsLaws.{put_next_contact, put_no_contact}
use Rattle.card.proofs.contacts.put_contacts.Goals as goal

pub loop-i-init : goal.loop-i-init
loop-i-init c = (c.requires, refl, refl)

pub loop-i-preserved : goal.loop-i-preserved
loop-i-preserved c =
    let l = c.loop-i in
    let cs = c.args.cs in
    let long : length cs ≡ 8 = search (rules, mapped_long) in
    let more : l.i < length cs = omega arith in
    let x = get_or cs l.i no_contact in
    let at = contact_place l.i in
    let fits : at + length (contact_bytes x) ≤ length l.room = omega arith in
    let e = c.put_at.ensures ∙ ap (λ (x : List ℕ). placed_at l.room at x) c.contact_bytes.ensures ∙ placed_fits l.room at (contact_bytes x) fits in
    let t = put_next_contact l.i (omega arith) l.room cs x (omega arith) (rest_cons cs l.i no_contact more) in (
      l.invariant.0,
      ap length e ∙ put_length l.room at (contact_bytes x) fits ∙ l.invariant.1,
      ap (λ (r : List ℕ). put_at r (contact_place (l.i + 1)) (contacts_bytes (drop (l.i + 1) cs))) e ∙ sym t ∙ l.invariant.2,
    )

pub returns : goal.returns
returns c =
    let l = c.loop-i in
    let long : length c.args.cs ≡ 8 = search (rules, mapped_long) in
    sym (put_no_contact l.i (omega arith) l.room c.args.cs long) ∙ l.invariant.2
