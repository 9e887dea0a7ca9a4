-- A debouncer's card in lent bytes: what is put there is read back, and bytes that are no card are a damaged one. Assumes nothing.
use Prim.Native.Nat.{ℕ, zero, suc, ◌+◌, ◌*◌, ◌/◌, ◌%◌, ◌≤◌, ◌<◌}
use mathlib.Core.Path.{◌≡◌, refl, sym, ap, ◌∙◌}
use mathlib.Core.Bool.{Bool, true, false}
use mathlib.Core.List.{List, [], ◌∷◌, ◌++◌, append_assoc}
use native.Mathlib.Omega.{arith}
use borrow.Author.Tests.{lt-ltb, le-ltb, le-leb, lt-leb}
use lib.Dec.{eqb, leb}
use lib.ListN.{length, get_or, drop, length-drop, drop_of_length-le}
use lib.Seq.{take_at, drop_at, drop-drop, get_or-drop}
use Rattle.lists.specs.Lists.{when◌then◌else◌, bit}
use Rattle.lists.proofs.ListLaws.{by_bool}
use Rattle.lists.proofs.Tests.{if-true, if-false}
use Rattle.calls.specs.Record.{byte}
use Rattle.codec.specs.Layout.{state_size, encode, state_in, put_at, stored}
use Rattle.codec.proofs.CodecLaws.{put_put, put_none}
use Rattle.codec.proofs.Kept as codec
use Rattle.debounce.specs.declared.Card.{Card}
use Rattle.debounce.specs.declared.Contact.{Contact}
use Rattle.debounce.specs.Card.{no_contact, whole}
use Rattle.debounce.specs.Settings.{two}
use Rattle.debounce.proofs.CheckLaws.{out_of_range}
use Rattle.card.specs.Contacts.{contact_size, card_size, contact_bytes, contacts_bytes, card_bytes, stored_card, contact_from, contact_place, contact_at, contacts_from, card_in, card_after}

-- ── a card is put into bytes ──

pub contacts_long : (cs : List Contact) → length (contacts_bytes cs) ≡ length cs * contact_size
contacts_long [] = refl
contacts_long (c ∷ cs) = let ih = contacts_long cs in omega arith

-- the next contact, and the end
pub put_next_contact : (i : ℕ) → i < 8 → (room : List ℕ) (cs : List Contact) (x : Contact) → card_size ≤ length room → drop i cs ≡ x ∷ drop (i + 1) cs
    → put_at room (contact_place i) (contacts_bytes (drop i cs)) ≡ put_at (put_at room (contact_place i) (contact_bytes x)) (contact_place (i + 1)) (contacts_bytes (drop (i + 1) cs))
put_next_contact i h room cs x r e =
    let next : contact_place (i + 1) ≡ contact_place i + contact_size = omega arith in
    rw (e, next) (put_put room (contact_place i) (contact_bytes x) (omega arith) (contacts_bytes (drop (i + 1) cs)))

pub put_no_contact : (i : ℕ) → 8 ≤ i → (room : List ℕ) (cs : List Contact) → length cs ≡ 8 → put_at room (contact_place i) (contacts_bytes (drop i cs)) ≡ room
put_no_contact i h room cs l = rw (drop_of_length-le cs {i = i} (omega arith)) (put_none room (contact_place i))

pub card_short : (b : List ℕ) (c : Card) → length b < card_size → b ≡ stored_card c b
unfolding stored_card
card_short b c h = sym (if-true _ _ _ (lt-ltb (length b) card_size h))

pub card_long : (b : List ℕ) (c : Card) (headed r : List ℕ) → card_size ≤ length b → codec.Sized c.supervisor → length c.contacts ≡ 8
    → headed ≡ stored c.supervisor b → r ≡ put_at headed state_size (contacts_bytes c.contacts) → r ≡ stored_card c b
unfolding stored_card stored
card_long b c headed r h z l e p =
    let s = encode c.supervisor in
    let x = contacts_bytes c.contacts in
    let d = drop state_size b in
    let long = codec.encode_long c.supervisor z in
    let many : length x ≡ 40 = omega (arith, contacts_long c.contacts, l) in
    let first : headed ≡ s ++ d = e ∙ if-false _ _ _ (le-ltb (length b) state_size (omega arith)) in
    let behind : drop (state_size + length x) (s ++ d) ≡ drop card_size b =
    sym (drop-drop (length x) state_size (s ++ d)) ∙ ap (drop (length x)) (drop_at s d state_size long) ∙ drop-drop (length x) state_size b ∙ ap (λ (n : ℕ). drop n b) {x = state_size + length x} {y = card_size} (omega (arith, many)) in
    p ∙ ap (λ (l : List ℕ). put_at l state_size x) first
    ∙ (λ i. take_at s d state_size long i ++ (x ++ behind i))
    ∙ sym (append_assoc s x (drop card_size b))
    ∙ sym (if-false _ _ _ (le-ltb (length b) card_size h))

-- where the bytes are too few, nothing is put
pub after_short : (b : List ℕ) (r : ℕ) (c : Card) → length b < card_size → b ≡ card_after b r c
after_short b r c h = by_bool (eqb r 0) (λ e. card_short b c h ∙ sym (if-true _ _ _ e)) (λ e. sym (if-false _ _ _ e))

-- ── and read back ──

-- the contact of five bytes
pub five_are : (n high low closed against : ℕ) → closed ≤ 1 → contact_from n high low closed against ≡ record { n = n; p = two high low; closed = eqb closed 1; against = against }
five_are n high low closed against h = if-true (leb closed 1) (record { n = n; p = two high low; closed = eqb closed 1; against = against }) no_contact (le-leb closed 1 h)

-- a contact whose fields are all 0 is none
pub is_none : (c : Contact) → c.n ≡ 0 → c.p ≡ 0 → c.closed ≡ false → c.against ≡ 0 → c ≡ no_contact
is_none c n p closed against = λ i. record { n = n i; p = p i; closed = closed i; against = against i }

contact_back : (c : Contact) → contact_from c.n (c.p / 256) (c.p % 256) (bit c.closed) c.against ≡ c
contact_back c = go c.closed refl
  where
    p_back : two (c.p / 256) (c.p % 256) ≡ c.p
    p_back = omega arith

    go : (v : Bool) → c.closed ≡ v → contact_from c.n (c.p / 256) (c.p % 256) (bit c.closed) c.against ≡ c
    go true e = ap (λ (v : Bool). contact_from c.n (c.p / 256) (c.p % 256) (bit v) c.against) e ∙ (λ i. record { n = c.n; p = p_back i; closed = sym e i; against = c.against })
    go false e = ap (λ (v : Bool). contact_from c.n (c.p / 256) (c.p % 256) (bit v) c.against) e ∙ (λ i. record { n = c.n; p = p_back i; closed = sym e i; against = c.against })

-- the contacts from a place on
contacts_back : (cs : List Contact) (i : ℕ) (b rest : List ℕ) → drop (contact_place i) b ≡ contacts_bytes cs ++ rest → contacts_from (length cs) i b ≡ cs
contacts_back [] i b rest e = refl
contacts_back (c ∷ cs) i b rest e =
    let at = contact_place i in
    let byte_at : (j : ℕ) → byte b (at + j) ≡ byte (contacts_bytes (c ∷ cs) ++ rest) j = λ j. sym (get_or-drop at b j 0) ∙ ap (λ (l : List ℕ). byte l j) e in
    let byte_0 : byte b at ≡ c.n = ap (byte b) {x = at} {y = at + 0} (omega arith) ∙ byte_at 0 in
    let long : at + contact_size ≤ length b = omega (arith, length-drop at b, ap length e) in
    let here : contact_at b i ≡ c =
    if-true (leb (at + contact_size) (length b)) (contact_from (byte b at) (byte b (at + 1)) (byte b (at + 2)) (byte b (at + 3)) (byte b (at + 4))) no_contact (le-leb (at + contact_size) (length b) long)
    ∙ (λ k. contact_from (byte_0 k) (byte_at 1 k) (byte_at 2 k) (byte_at 3 k) (byte_at 4 k)) ∙ contact_back c in
    let next : drop (contact_place (i + 1)) b ≡ contacts_bytes cs ++ rest =
    ap (λ (k : ℕ). drop k b) {x = contact_place (i + 1)} {y = at + contact_size} (omega arith) ∙ sym (drop-drop contact_size at b) ∙ ap (drop contact_size) e in
    λ k. here k ∷ contacts_back cs (i + 1) b rest next k

-- what was put into lent bytes is found there, whatever bytes follow
pub card_kept : (c : Card) (rest : List ℕ) → codec.Sized c.supervisor → length c.contacts ≡ 8 → card_in (card_bytes c ++ rest) ≡ c
unfolding card_in
card_kept c rest z l =
    let s = encode c.supervisor in
    let x = contacts_bytes c.contacts in
    let b = card_bytes c ++ rest in
    let split : b ≡ s ++ (x ++ rest) = append_assoc s x rest in
    let state : state_in b ≡ c.supervisor = ap state_in split ∙ codec.kept c.supervisor z (x ++ rest) in
    let behind : drop (contact_place 0) b ≡ x ++ rest = ap (drop state_size) split ∙ drop_at s (x ++ rest) state_size (codec.encode_long c.supervisor z) in
    let contacts : contacts_from 8 0 b ≡ c.contacts = ap (λ (n : ℕ). contacts_from n 0 b) (sym l) ∙ contacts_back c.contacts 0 b rest behind in
    λ i. record { supervisor = state i; contacts = contacts i }

-- ── bytes that are no card ──

length_contacts : (k i : ℕ) (b : List ℕ) → length (contacts_from k i b) ≡ k
length_contacts zero i b = refl
length_contacts (suc k) i b = ap suc (length_contacts k (i + 1) b)

at_from : (k i j : ℕ) (b : List ℕ) → j < k → get_or (contacts_from k i b) j no_contact ≡ contact_at b (i + j)
at_from zero i j b h = absurd (omega arith)
at_from (suc k) i zero b h = ap (contact_at b) (omega arith)
at_from (suc k) i (suc j) b h = at_from k (i + 1) j b (omega arith) ∙ ap (contact_at b) (omega arith)

-- contacts each of which is the one of its place are those from index i on
pub contacts_are : (b : List ℕ) (k i : ℕ) (cs : List Contact) → length cs ≡ k → ((j : ℕ) → j < k → get_or cs j no_contact ≡ contact_at b (i + j)) → cs ≡ contacts_from k i b
contacts_are b zero i [] e h = refl
contacts_are b zero i (c ∷ cs) e h = absurd (omega arith)
contacts_are b (suc k) i [] e h = absurd (omega arith)
contacts_are b (suc k) i (c ∷ cs) e h =
    let first : c ≡ contact_at b i = h 0 (omega arith) ∙ ap (contact_at b) (omega arith) in
    let rest : cs ≡ contacts_from k (i + 1) b = contacts_are b k (i + 1) cs (omega arith) (λ j l. h (suc j) (omega arith) ∙ ap (contact_at b) (omega arith)) in
    λ j. first j ∷ rest j

-- a contact that is not there is a damaged card
lacking : (b : List ℕ) (i : ℕ) → i < 8 → contact_at b i ≡ no_contact → whole (card_in b) ≡ false
unfolding card_in
lacking b i h e = out_of_range (card_in b) i (omega (arith, h, length_contacts 8 0 b)) (at_from 8 0 i b h ∙ ap (contact_at b) (omega arith) ∙ e)

-- fewer bytes than those of a card
pub too_few : (b : List ℕ) → length b < card_size → whole (card_in b) ≡ false
too_few b h =
    let at = contact_place 7 in
    lacking b 7 (omega arith) (if-false (leb (at + contact_size) (length b)) (contact_from (byte b at) (byte b (at + 1)) (byte b (at + 2)) (byte b (at + 3)) (byte b (at + 4))) no_contact (lt-leb (at + contact_size) (length b) (omega arith)))

-- a contact whose `closed` is neither 0 nor 1
pub not-closed : (b : List ℕ) (i : ℕ) → i < 8 → 1 < byte b (contact_place i + 3) → whole (card_in b) ≡ false
not-closed b i h n =
    let at = contact_place i in
    let none : contact_from (byte b at) (byte b (at + 1)) (byte b (at + 2)) (byte b (at + 3)) (byte b (at + 4)) ≡ no_contact = if-false _ _ _ (lt_leb_1 (byte b (at + 3)) n) in
    lacking b i h (ap (λ (c : Contact). when leb (at + contact_size) (length b) then c else no_contact) none ∙ same (leb (at + contact_size) (length b)))
  where
    lt_leb_1 : (k : ℕ) → 1 < k → leb k 1 ≡ false
    lt_leb_1 k h = lt-leb k 1 h

    same : (t : Bool) → (when t then no_contact else no_contact) ≡ no_contact
    same true = refl
    same false = refl
