-- A debouncer's card in lent bytes: the supervisor's bytes, then five for each contact. And what the functions on it answer and leave there.
use Rattle.std.specs.Prelude.{ℕ, zero, suc, ◌+◌, ◌*◌, ◌/◌, ◌%◌, List, [], ◌∷◌, ◌++◌, eqb, ltb, leb, length, drop}
use Rattle.lists.specs.Lists.{when◌then◌else◌, bit}
use Rattle.calls.specs.Record.{byte}
use Rattle.codec.specs.Layout.{state_size, encode, state_in}
use Rattle.debounce.specs.declared.Card.{Card}
use Rattle.debounce.specs.declared.Contact.{Contact}
use Rattle.debounce.specs.Card.{no_contact}
use Rattle.debounce.specs.Settings.{two}

-- the bytes of a contact, and of a card
abbrev pub contact_size : ℕ
contact_size = 5

abbrev pub card_size : ℕ
card_size = state_size + 8 * contact_size

-- ── the bytes of a card ──

-- a contact: n, p with its high byte first, closed (1 for yes), against
abbrev pub contact_bytes : Contact → List ℕ
contact_bytes c = c.n ∷ c.p / 256 ∷ c.p % 256 ∷ bit c.closed ∷ c.against ∷ []

-- the contacts one behind the other
abbrev pub contacts_bytes : List Contact → List ℕ
contacts_bytes [] = []
contacts_bytes (c ∷ cs) = contact_bytes c ++ contacts_bytes cs

-- the supervisor, and the contacts behind it
abbrev pub card_bytes : Card → List ℕ
card_bytes c = encode c.supervisor ++ contacts_bytes c.contacts

-- lent bytes with a card put into them; bytes behind it stay, and so do all where there are too few
unfoldable pub stored_card : Card → List ℕ → List ℕ
stored_card c b = when ltb (length b) card_size then b else card_bytes c ++ drop card_size b

-- ── the card of bytes ──

-- the contact of five bytes; no contact where closed is neither 0 nor 1
abbrev pub contact_from : ℕ → ℕ → ℕ → ℕ → ℕ → Contact
contact_from n high low closed against =
    when leb closed 1 then record { n = n; p = two high low; closed = eqb closed 1; against = against } else no_contact

-- where the contact at index i stands: that of contact i + 1
abbrev pub contact_place : ℕ → ℕ
contact_place i = state_size + i * contact_size

-- the contact at index i; no contact where the bytes are too few
abbrev pub contact_at : List ℕ → ℕ → Contact
contact_at b i =
    let at = contact_place i in
    when leb (at + contact_size) (length b) then contact_from (byte b at) (byte b (at + 1)) (byte b (at + 2)) (byte b (at + 3)) (byte b (at + 4)) else no_contact

-- so many contacts from index i on
abbrev pub contacts_from : ℕ → ℕ → List ℕ → List Contact
contacts_from zero i b = []
contacts_from (suc k) i b = contact_at b i ∷ contacts_from k (i + 1) b

-- the card of lent bytes: one that is damaged where they are no card, since no contact has a setting in range
unfoldable pub card_in : List ℕ → Card
card_in b = record { supervisor = state_in b; contacts = contacts_from 8 0 b }

-- ── what is left in lent bytes ──

-- the lent card afterwards: every refusal leaves it untouched
abbrev pub card_after : List ℕ → ℕ → Card → List ℕ
card_after b refusal c = when eqb refusal 0 then stored_card c b else b
