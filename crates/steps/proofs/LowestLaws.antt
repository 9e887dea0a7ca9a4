-- One pass that keeps the first caller of the lowest open entry finds the entry and the caller that SELECT takes.
-- Assumes nothing.
use Rattle.std.proofs.Common.{◌≡◌, ℕ, zero, suc, ◌+◌, ◌<◌, ◌≤◌, Bool, true, false, ◌&&◌, eqb, ltb, leb, List, [], ◌∷◌, length, sym, refl, ap, ◌∙◌, subst, arith, ltb-false, ltb-true, lt-ltb, eq-eqb, ne_eqb, eqb-true, le-leb}
use Rattle.lists.specs.Lists.{when◌then◌else◌, filter, first}
use Rattle.lists.proofs.MarkLaws.{filter_same}
use Rattle.lists.proofs.ListLaws.{by_bool, by_eq}
use Rattle.lists.proofs.Tests.{and_first, and_second}
use Rattle.rules.specs.State.{State, place_of, is_queued, partner_of, entry_of, opens, waits_on, queue}
use Rattle.rules.specs.Step.{open_from, open_entry}
use Rattle.steps.specs.Lowest.{open_call, call_of, nobody, lower_of, lowest_of}
use Rattle.rules.specs.declared.Place.{Place}
use Rattle.steps.specs.declared.callers.Caller.{Caller}

-- ---- the lowest of a list

module _ (f : ℕ → ℕ) where
  -- those of the list with key e
  abbrev at : ℕ → List ℕ → List ℕ
  at e l = filter (λ c. eqb (f c) e) l

  -- b is the first of the lowest key in the list, or a, if none is lower
  record Lowest (a b : Caller) (l : List ℕ) : Type 0 where
    low : b.entry ≤ a.entry
    same : b.entry ≡ a.entry → b.task ≡ a.task
    none : (e : ℕ) → e < b.entry → at e l ≡ []
    one : b.entry < a.entry → (b.task ≡ first (at b.entry l)) × (0 < length (at b.entry l))

  skips : (e c : ℕ) (l : List ℕ) → (f c ≡ e → ⊥) → at e (c ∷ l) ≡ at e l
  skips e c l n = rw (ne_eqb (f c) e n)

  hits : (e c : ℕ) (l : List ℕ) → f c ≡ e → at e (c ∷ l) ≡ c ∷ at e l
  hits e c l q = rw (eq-eqb (f c) e q)

  module _ (a b : Caller) (c : ℕ) (l : List ℕ) where
    lower : f c < a.entry → Lowest (record { task = c; entry = f c }) b l → Lowest a b (c ∷ l)
    lower h k = record {
      low = omega (arith, k.low);
      same = λ q. absurd (omega (arith, k.low));
      none = λ e j. skips e c l (λ q. omega (arith, k.low)) ∙ k.none e j;
      one = λ j. by_bool (ltb b.entry (f c))
          (λ q. let lt = ltb-true b.entry (f c) q in let s = skips b.entry c l (λ z. omega arith) in let w = k.one lt in (w.0 ∙ ap first (sym s), subst (λ (x : List ℕ). 0 < length x) (sym s) w.1))
          (λ q. let z : f c ≡ b.entry = omega (arith, k.low, ltb-false b.entry (f c) q) in let s = hits b.entry c l z in (k.same (sym z) ∙ ap first (sym s), subst (λ (x : List ℕ). 0 < length x) (sym s) (omega arith)));
    }

    higher : a.entry ≤ f c → Lowest a b l → Lowest a b (c ∷ l)
    higher h k = record {
      low = k.low;
      same = k.same;
      none = λ e j. skips e c l (λ q. omega (arith, k.low)) ∙ k.none e j;
      one = λ j. let s = skips b.entry c l (λ z. omega arith) in let w = k.one j in (w.0 ∙ ap first (sym s), subst (λ (x : List ℕ). 0 < length x) (sym s) w.1);
    }

  lowest_is : (a : Caller) (l : List ℕ) → Lowest a (lowest_of f a l) l
  lowest_is a [] = record { low = omega arith; same = λ q. refl; none = λ e h. refl; one = λ h. absurd (omega arith) }
  lowest_is a (c ∷ l) =
      by_bool (ltb (f c) a.entry)
      (λ q. rw q (lower a (lowest_of f (record { task = c; entry = f c }) l) c l (ltb-true (f c) a.entry q) (lowest_is (record { task = c; entry = f c }) l)))
      (λ q. rw q (higher a (lowest_of f a l) c l (ltb-false (f c) a.entry q) (lowest_is a l)))

  never : (e : ℕ) (l : List ℕ) → ((c : ℕ) → f c ≡ e → ⊥) → at e l ≡ []
  never e [] h = refl
  never e (c ∷ l) h = skips e c l (h c) ∙ never e l h

-- ---- the callers of open entries

filter_none : (l : List ℕ) → filter (λ c. false) l ≡ []
filter_none [] = refl
filter_none (c ∷ l) = filter_none l

-- x: the caller is queued on the task; n: the entry that it has called
call_is : (x : Bool) (o n e : ℕ) → 1 ≤ e → e ≤ 8 → eqb (when x && (ltb 0 n && leb n 8) && opens o n then n else 9) e ≡ (opens o e && (x && eqb n e))
call_is x o n e lo hi =
    by_bool (eqb n e)
    (λ q. rw (eqb-true n e q, lt-ltb 0 e lo, le-leb e 8 hi, eq-eqb e e refl) (go x (opens o e)))
    (λ q. by_bool (x && (ltb 0 n && leb n 8) && opens o n) (λ h. rw (h, q) (no (opens o e) x)) (λ h. rw (h, q, ne_eqb 9 e (λ z. omega arith)) (no (opens o e) x)))
  where
    go : (x y : Bool) → eqb (when x && true && y then e else 9) e ≡ (y && (x && true))
    go true true = eq-eqb e e refl
    go true false = ne_eqb 9 e (λ z. omega arith)
    go false true = ne_eqb 9 e (λ z. omega arith)
    go false false = ne_eqb 9 e (λ z. omega arith)

    no : (y x : Bool) → false ≡ (y && (x && false))
    no true true = refl
    no true false = refl
    no false x = refl

call_above : (x : Bool) (o n : ℕ) → (when x && (ltb 0 n && leb n 8) && opens o n then n else 9) ≡ 0 → ⊥
call_above x o n q =
    by_bool (x && (ltb 0 n && leb n 8) && opens o n)
    (λ h. omega (arith, rw h at q, ltb-true 0 n (and_first (ltb 0 n) (leb n 8) (and_second x (ltb 0 n && leb n 8) (and_first (x && (ltb 0 n && leb n 8)) (opens o n) h)))))
    (λ h. omega (arith, rw h at q))

module _ (v : State) (t o : ℕ) where
  abbrev test : ℕ → Bool
  test e = opens o e && ltb 0 (length (queue v t e))

  pub at_open : (e : ℕ) → 1 ≤ e → e ≤ 8 → opens o e ≡ true → at (call_of v t o) e v.callers ≡ queue v t e
  at_open e lo hi q = filter_same (λ c. eqb (call_of v t o c) e) (waits_on v t e) v.callers (λ c k. call_is (is_queued (place_of v c) && eqb (partner_of (place_of v c)) t) o (entry_of (place_of v c)) e lo hi ∙ rw q)

  at_shut : (e : ℕ) → 1 ≤ e → e ≤ 8 → opens o e ≡ false → at (call_of v t o) e v.callers ≡ []
  at_shut e lo hi q =
      filter_same (λ c. eqb (call_of v t o c) e) (λ c. false) v.callers (λ c k. call_is (is_queued (place_of v c) && eqb (partner_of (place_of v c)) t) o (entry_of (place_of v c)) e lo hi ∙ rw q)
      ∙ filter_none v.callers

  test_no : (e : ℕ) → 1 ≤ e → e ≤ 8 → at (call_of v t o) e v.callers ≡ [] → test e ≡ false
  test_no e lo hi z = by_bool (opens o e) (λ q. rw (q, ← at_open e lo hi q, z)) (λ q. rw q)

  test_yes : (e : ℕ) → 1 ≤ e → e ≤ 8 → 0 < length (at (call_of v t o) e v.callers) → (opens o e ≡ true) × (test e ≡ true)
  test_yes e lo hi k =
      by_bool (opens o e)
      (λ q. (q, rw (q, ← at_open e lo hi q) (lt-ltb 0 (length (at (call_of v t o) e v.callers)) k)))
      (λ q. absurd (omega (arith, k, ap length (at_shut e lo hi q))))

  -- ---- the search for an open entry

  look : ℕ → ℕ → Bool → ℕ
  look k e b = elim b as (λ _. ℕ) [ true ↦ e | false ↦ open_from v t o k (suc e) ]

  open_here : (k e m : ℕ) → e ≤ m → m < e + k → ((j : ℕ) → e ≤ j → j < m → test j ≡ false) → test m ≡ true → open_from v t o k e ≡ m
  unfolding look
  open_here zero e m a b h y = absurd (omega arith)
  open_here (suc k) e m a b h y =
      by_eq e m
      (λ q. ap (look k e) (ap test q ∙ y) ∙ q)
      (λ n. ap (look k e) (h e (omega arith) (omega arith)) ∙ open_here k (suc e) m (omega arith) (omega arith) (λ j i. h j (omega arith)) y)

  open_nowhere : (k e : ℕ) → ((j : ℕ) → e ≤ j → j < e + k → test j ≡ false) → open_from v t o k e ≡ 0
  unfolding look
  open_nowhere zero e h = refl
  open_nowhere (suc k) e h = ap (look k e) (h e (omega arith) (omega arith)) ∙ open_nowhere k (suc e) (λ j i l. h j (omega arith) (omega arith))

  -- ---- what SELECT takes

  module _ (b : Caller) (is : b ≡ lowest_of (call_of v t o) nobody v.callers) where
    lowest_here : Lowest (call_of v t o) nobody b v.callers
    lowest_here = subst (λ (x : Caller). Lowest (call_of v t o) nobody x v.callers) (sym is) (lowest_is (call_of v t o) nobody v.callers)

    pub lowest_none : b.entry ≡ 9 → open_entry v t o ≡ 0
    unfolding open_entry
    lowest_none z = open_nowhere 8 1 (λ j i l. test_no j i (omega arith) (lowest_here.none j (omega arith)))

    pub lowest_one : (b.entry ≡ 9 → ⊥) → (b.entry ≡ open_entry v t o) × (b.entry ≡ 0 → ⊥) × (b.task ≡ first (queue v t b.entry))
    unfolding open_entry
    lowest_one n =
        let k = lowest_here in
        let high : b.entry < 9 = omega (arith, k.low) in
        let w = k.one high in
        let some : b.entry ≡ 0 → ⊥ = λ z. omega (arith, w.1, ap length (ap (λ (e : ℕ). at (call_of v t o) e v.callers) z ∙ never (call_of v t o) 0 v.callers (λ c. call_above (is_queued (place_of v c) && eqb (partner_of (place_of v c)) t) o (entry_of (place_of v c))))) in
        let low : 1 ≤ b.entry = omega (arith, some) in
        let y = test_yes b.entry low (omega arith) w.1 in (
          sym (open_here 8 1 b.entry low (omega arith) (λ j i l. test_no j i (omega arith) (k.none j l)) y.1),
          some,
          w.0 ∙ ap first (at_open b.entry low (omega arith) y.0),
        )

-- ---- every entry is in the open set 255

pub all_open : (e : ℕ) → 1 ≤ e → e ≤ 8 → opens 255 e ≡ true
all_open zero lo hi = absurd (omega arith)
all_open (suc zero) lo hi = refl
all_open (suc (suc zero)) lo hi = refl
all_open (suc (suc (suc zero))) lo hi = refl
all_open (suc (suc (suc (suc zero)))) lo hi = refl
all_open (suc (suc (suc (suc (suc zero))))) lo hi = refl
all_open (suc (suc (suc (suc (suc (suc zero)))))) lo hi = refl
all_open (suc (suc (suc (suc (suc (suc (suc zero))))))) lo hi = refl
all_open (suc (suc (suc (suc (suc (suc (suc (suc zero)))))))) lo hi = refl
all_open (suc (suc (suc (suc (suc (suc (suc (suc (suc e))))))))) lo hi = absurd (omega arith)

-- ---- for the code: the test of one caller, and a turn of the pass

pub open_call_is : (t o : ℕ) (p : Place) (e g : ℕ) (q i j : Bool) → e ≡ entry_of p → q ≡ is_queued p → g ≡ partner_of p → i ≡ (ltb 0 e && leb e 8) → j ≡ opens o e → (when q && eqb g t && i && j then e else 9) ≡ open_call t o p
open_call_is t o p e g q i j ee eq eg ei ej = rw (ei, ej, ee, eq, eg)

pub lower_turn : (f : ℕ → ℕ) (b n : Caller) (c e : ℕ) (xs ys : List ℕ) → xs ≡ c ∷ ys → e ≡ f c → n ≡ lower_of b c e → lowest_of f b xs ≡ lowest_of f n ys
lower_turn f b n c e xs ys q ee en = rw (q, en, ee)
