-- What a card knows after a history, tick by tick; then its report is the rule's.
-- Assumes nothing.
use Rattle.std.proofs.Common.{◌≡◌, ℕ, suc, ◌+◌, ◌-◌, ◌%◌, ◌<◌, ◌≤◌, Bool, true, eqb, List, [], ◌∷◌, map, length, get_or, sym, refl, ap, ◌∙◌, subst, mod-lt, mod-eq_of_lt, arith, eq-eqb, ne_eqb}
use native.Mathlib.Nat.{mod_self, mod-add-mod}
use Rattle.lists.proofs.ListLaws.{by_eq}
use Rattle.lists.proofs.Tests.{if-true, if-false}
use Rattle.rules.specs.State.{State, timer_of, ticks_left}
use Rattle.debounce.specs.declared.Card.{Card}
use Rattle.debounce.specs.declared.Contact.{Contact}
use Rattle.debounce.specs.Rule.{Setting, closed_in, samples_of, report_of, reports_from, report_byte, byte_of}
use Rattle.debounce.specs.Card.{no_setting, no_contact, nth_of, sampled, is_closed, whole, ticked_card, answered}
use Rattle.debounce.specs.Facts.{Undamaged}
use Rattle.debounce.proofs.ContactLaws.{InRange, sampled_n, sampled_p, Knows, knows_sampled}
use Rattle.debounce.proofs.ServeLaws.{Idle, card_of}
use Rattle.debounce.proofs.TickLaws.{TickDone, tick_done}
use Rattle.debounce.proofs.CheckLaws.{idle_whole, idle_undamaged}

-- ── the ticks of a contact ──

-- one tick more than a multiple of p less one is a multiple of p
tick_due : (m p : ℕ) → suc (m % p) ≡ p → suc m % p ≡ 0
tick_due m p e =
    ap (λ (k : ℕ). k % p) (omega arith) ∙ sym (mod-add-mod m p 1) ∙ ap (λ (k : ℕ). k % p) (omega (arith, e)) ∙ mod_self p

tick_on : (m p : ℕ) → suc (m % p) < p → suc m % p ≡ suc (m % p)
tick_on m p h =
    ap (λ (k : ℕ). k % p) (omega arith) ∙ sym (mod-add-mod m p 1) ∙ ap (λ (k : ℕ). k % p) (omega arith) ∙ mod-eq_of_lt h

-- ── the card after a history ──

module _ (xs : List Setting) where
  -- what is known of contact k after a history
  pub record Tells (history : List ℕ) (v : State) (c : Contact) (k : ℕ) : Type 0 where
    pub n : c.n ≡ (get_or xs (k - 1) no_setting).n
    pub p : c.p ≡ (get_or xs (k - 1) no_setting).p
    pub left : ticks_left v.clock (timer_of v k) ≡ c.p - length history % c.p
    pub knows : Knows c.n (samples_of c.p k history) c

  pub record After (history : List ℕ) (c : Card) : Type 0 where
    pub state : State
    pub contacts : List Contact
    pub is : c ≡ card_of state contacts
    pub idle : Idle state contacts
    pub tells : (k : ℕ) → 0 < k → k ≤ 8 → Tells history state (nth_of contacts k) k

  pub after_whole : (history : List ℕ) (c : Card) → After history c → whole c ≡ true
  after_whole history c a = subst (λ (x : Card). whole x ≡ true) (sym a.is) (idle_whole a.state a.contacts a.idle)

  pub after_undamaged : (history : List ℕ) (c : Card) → After history c → Undamaged c
  after_undamaged history c a = subst Undamaged (sym a.is) (idle_undamaged a.state a.contacts a.idle)

  -- one tick
  module _ (history : List ℕ) (bits : ℕ) (v : State) (cs : List Contact) (d : Idle v cs) (tells : (k : ℕ) → 0 < k → k ≤ 8 → Tells history v (nth_of cs k) k) where
    module _ (w : TickDone bits v cs d (ticked_card (card_of v cs) bits)) (k : ℕ) (lo : 0 < k) (hi : k ≤ 8) where
      abbrev c : Contact
      c = nth_of cs k

      abbrev p : ℕ
      p = c.p

      t : Tells history v c k
      t = tells k lo hi

      r : InRange c.n c.p
      r = d.settings k lo hi

      below : length history % p < p
      below = mod-lt (length history) (omega (arith, r.later))

      samples_due : suc (length history) % p ≡ 0 → samples_of p k (bits ∷ history) ≡ closed_in bits k ∷ samples_of p k history
      samples_due e =
          if-true (eqb (suc (length history) % p) 0) (closed_in bits k ∷ samples_of p k history) (samples_of p k history) (eq-eqb (suc (length history) % p) 0 e)

      samples_on : (suc (length history) % p ≡ 0 → ⊥) → samples_of p k (bits ∷ history) ≡ samples_of p k history
      samples_on e =
          if-false (eqb (suc (length history) % p) 0) (closed_in bits k ∷ samples_of p k history) (samples_of p k history) (ne_eqb (suc (length history) % p) 0 e)

      tells_due : ticks_left v.clock (timer_of v k) ≡ 1 → Tells (bits ∷ history) w.state (nth_of w.contacts k) k
      tells_due e =
          let q = w.due k lo hi e in
          let x = closed_in bits k in
          let z = tick_due (length history) p (omega (arith, below, e, t.left)) in
          let kn : Knows c.n (samples_of p k (bits ∷ history)) (sampled c x) =
          subst (λ (l : List Bool). Knows c.n l (sampled c x)) (sym (samples_due z)) (knows_sampled c.n (samples_of p k history) c r.some refl t.knows x) in
          subst (λ (y : Contact). Tells (bits ∷ history) w.state y k) (sym q.0) (record {
            n = sampled_n c x ∙ t.n;
            p = sampled_p c x ∙ t.p;
            left = rw (sampled_p c x) (q.1 ∙ rw z (omega arith));
            knows =
                subst (λ (m : ℕ). Knows m (samples_of (sampled c x).p k (bits ∷ history)) (sampled c x)) (sym (sampled_n c x))
                (subst (λ (q : ℕ). Knows c.n (samples_of q k (bits ∷ history)) (sampled c x)) (sym (sampled_p c x)) kn);
          })

      tells_on : 1 < ticks_left v.clock (timer_of v k) → Tells (bits ∷ history) w.state (nth_of w.contacts k) k
      tells_on e =
          let q = w.later k lo hi e in
          let z = tick_on (length history) p (omega (arith, below, e, t.left)) in
          subst (λ (y : Contact). Tells (bits ∷ history) w.state y k) (sym q.0) (record {
            n = t.n;
            p = t.p;
            left = rw z (omega (arith, q.1, t.left, below));
            knows = subst (λ (l : List Bool). Knows c.n l c) (sym (samples_on (λ y. omega (arith, z, y)))) t.knows;
          })

      tells_next : Tells (bits ∷ history) w.state (nth_of w.contacts k) k
      tells_next = by_eq (ticks_left v.clock (timer_of v k)) 1 tells_due (λ n. tells_on (omega (arith, n, (d.each k lo hi).low)))

    next_card : After (bits ∷ history) (ticked_card (card_of v cs) bits)
    next_card =
        let w = tick_done bits v cs d in
        record { state = w.state; contacts = w.contacts; is = w.is; idle = w.idle; tells = λ k lo hi. tells_next w k lo hi }

  pub after_tick : (history : List ℕ) (c : Card) (bits : ℕ) → After history c → After (bits ∷ history) (ticked_card c bits)
  after_tick history c bits a =
      subst (λ (x : Card). After (bits ∷ history) (ticked_card x bits)) (sym a.is) (next_card history bits a.state a.contacts a.idle a.tells)

  -- the card behind a history, that of the latest tick first
  abbrev pub reach : Card → List ℕ → Card
  reach c [] = c
  reach c (bits ∷ before) = ticked_card (reach c before) bits

  pub after_reach : (c : Card) → After [] c → (history : List ℕ) → After history (reach c history)
  after_reach c a [] = a
  after_reach c a (bits ∷ before) = after_tick before (reach c before) bits (after_reach c a before)

-- ── the report ──

-- what the rule says of contact suc (i + j), whose setting is x
abbrev says : List ℕ → ℕ → Setting → Bool
says history k x = report_of x.n (samples_of x.p k history)

reports_are : (xs : List Setting) (i : ℕ) (cs : List Contact) (history : List ℕ) → length cs ≡ length xs
    → ((j : ℕ) → j < length xs → (get_or cs j no_contact).closed ≡ says history (suc (i + j)) (get_or xs j no_setting))
    → map is_closed cs ≡ reports_from (suc i) xs history
reports_are [] i [] history l h = refl
reports_are [] i (c ∷ cs) history l h = absurd (omega arith)
reports_are (x ∷ xs) i [] history l h = absurd (omega arith)
reports_are (x ∷ xs) i (c ∷ cs) history l h =
    let first : c.closed ≡ says history (suc i) x = h 0 (omega arith) ∙ ap (λ (k : ℕ). says history k x) (omega arith) in
    let rest = reports_are xs (suc i) cs history (omega (arith, l))
    (λ j k. h (suc j) (omega arith) ∙ ap (λ (k : ℕ). says history k (get_or xs j no_setting)) (omega arith)) in
    λ k. first k ∷ rest k

pub report_is : (xs : List Setting) → length xs ≡ 8 → (history : List ℕ) (c : Card) → After xs history c → (answered c).reported ≡ report_byte xs history
report_is xs many history c a =
    ap (λ (x : Card). byte_of (map is_closed x.contacts)) a.is
    ∙ ap byte_of (reports_are xs 0 a.contacts history (a.idle.contacts ∙ sym many)
    (λ j h. let t = a.tells (suc j) (omega arith) (omega (arith, h, many)) in
    let e : suc j - 1 ≡ j = omega arith in
    ap (λ (i : ℕ). (get_or a.contacts i no_contact).closed) (sym e) ∙ t.knows.closed
    ∙ (λ i. report_of (t.n i) (samples_of (t.p i) (suc j) history))
    ∙ (λ i. says history (suc j) (get_or xs (e i) no_setting))
    ∙ ap (λ (k : ℕ). says history (suc k) (get_or xs j no_setting)) (omega arith)))
