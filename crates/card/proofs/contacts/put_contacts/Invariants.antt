use Prim.Native.Nat.{◌≤◌}
use mathlib.Core.Path.{◌≡◌}
use lib.ListN.{length, drop}
use Rattle.codec.specs.Layout.{state_size, put_at}
use Rattle.card.specs.Contacts.{card_size, contact_place, contacts_bytes}
use Rattle.card.proofs.contacts.put_contacts.Given as goal

abbrev pub invariant-loop-i : goal.invariant-loop-i
invariant-loop-i l = (card_size ≤ length l.initial.room) × (length l.room ≡ length l.initial.room) × (put_at l.room (contact_place l.i) (contacts_bytes (drop l.i l.fn.cs)) ≡ put_at l.initial.room state_size (contacts_bytes l.fn.cs))
