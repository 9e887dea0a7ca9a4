-- ADVANCE wakes all those whose time comes within its ticks at once: by induction on the ticks.
-- Assumes nothing.
use Prim.Native.Nat.{ℕ, zero, suc, ◌+◌, ◌≤◌, ◌<◌}
use mathlib.Core.Path.{◌≡◌, refl, sym, ◌∙◌, ap}
use mathlib.Core.Bool.{Bool, true, false, ◌&&◌}
use mathlib.Core.List.{List, [], ◌∷◌, ◌++◌, map}
use native.Mathlib.Omega.{arith}
use lib.ListN.{length, length-map}
use lib.Dec.{ltb, leb}
use borrow.Author.Tests.{eqb-false, eq-eqb, ne_eqb, lt-ltb, le-leb, lt-leb, leb-true, leb-false}
use Rattle.lists.specs.Lists.{bit, filter, count}
use Rattle.rules.specs.State.{State, task_of, timer_of, entry_of, partner_of, ticks_left, left, after, wake, wake_all, set_clock}
use Rattle.rules.specs.Step.{item, is_due, expired, expiry, due_at, tick_to, ends_at}
use Rattle.rules.specs.Advance.{comes_in, due_within, changes, due_moments, AtOnce}
use Rattle.rules.specs.declared.Item.{Item}
use Rattle.rules.specs.declared.Task.{Task}
use Rattle.rules.specs.declared.Timer.{Timer}
use Rattle.rules.specs.declared.Timer.TheVariants.{Off, Due}
use Rattle.lists.proofs.ListLaws.{by_eq, by_bool, clash, not_in, count_filter_yes, count_filter_no, Ordered}
use Rattle.lists.proofs.MarkLaws.{filter_same, filter_none, filter_remove}
use Rattle.lists.proofs.Tests.{between}
use Rattle.rules.proofs.Invariant.{Sound}
use Rattle.rules.proofs.Members.{in_filter, timed_there}
use Rattle.rules.proofs.StepSound.{tick_kept, due_is, wake_all_in, wake_all_out}
use Rattle.rules.proofs.Passes.{left_later, in_time}

-- ── lists ──

-- x stands in a list that begins with it
here : (x : ℕ) (xs : List ℕ) → 0 < count x (x ∷ xs)
here x xs = rw (eq-eqb x x refl) (omega arith)

map_same : (f g : ℕ → Item) (l : List ℕ) → ((x : ℕ) → 0 < count x l → f x ≡ g x) → map f l ≡ map g l
map_same f g [] h = refl
map_same f g (x ∷ xs) h = rw (h x (here x xs), map_same f g xs (λ y k. h y (omega arith)))

map_append : (f : ℕ → Item) (l m : List ℕ) → map f (l ++ m) ≡ map f l ++ map f m
map_append f [] m = refl
map_append f (x ∷ xs) m = rw (map_append f xs m)

-- those who pass p stand in front of all others: then r, which is p or g, picks those of p and then those of g
split : (p g r : ℕ → Bool) (k : ℕ → ℕ) (l : List ℕ) → Ordered k l
    → ((x : ℕ) → 0 < count x l → p x ≡ true → (r x ≡ true) × (g x ≡ false))
    → ((x : ℕ) → 0 < count x l → p x ≡ false → r x ≡ g x)
    → ((x y : ℕ) → 0 < count x l → 0 < count y l → k x ≤ k y → p x ≡ false → p y ≡ false)
    → filter r l ≡ filter p l ++ filter g l
split p g r k [] o in_p out-p behind = refl
split p g r k (x ∷ xs) o in_p out-p behind =
    by_bool (p x)
    (λ e.
    let y = in_p x (here x xs) e in
    let ih = split p g r k xs o.1 (λ z i. in_p z (omega arith)) (λ z i. out-p z (omega arith)) (λ z w i j. behind z w (omega arith) (omega arith)) in
    rw (e, y.0, y.1, ih))
    (λ e.
    let off : (y : ℕ) → 0 < count y (x ∷ xs) → p y ≡ false =
    λ y i. by_eq x y (λ z. ap p (sym z) ∙ e) (λ z. behind x y (here x xs) i (o.0 y (omega (arith, rw (ne_eqb x y z) at i))) e) in
    filter_same r g (x ∷ xs) (λ y i. out-p y i (off y i)) ∙ ap (λ (m : List ℕ). m ++ filter g (x ∷ xs)) (sym (filter_none p (x ∷ xs) off)))

-- ── changes ──

changes_skip : (f : ℕ → ℕ) (k : ℕ) (l m : List ℕ) → ((x : ℕ) → 0 < count x l → f x ≡ k) → changes f k (l ++ m) ≡ changes f k m
changes_skip f k [] m h = refl
changes_skip f k (x ∷ xs) m h =
    let e = h x (here x xs) in
    let ih = changes_skip f k xs m (λ y i. h y (omega arith)) in
    rw (eq-eqb (f x) k e) (omega (arith, ap (λ (j : ℕ). changes f j (xs ++ m)) e, ih))

-- all numbers one higher
changes_higher : (f g : ℕ → ℕ) (k : ℕ) (l : List ℕ) → ((x : ℕ) → 0 < count x l → f x ≡ suc (g x)) → changes f (suc k) l ≡ changes g k l
changes_higher f g k [] h = refl
changes_higher f g k (x ∷ xs) h =
    let e = h x (here x xs) in
    let ih = ap (λ (j : ℕ). changes f j xs) e ∙ changes_higher f g (g x) xs (λ y i. h y (omega arith)) in
    by_eq (g x) k
    (λ z. rw (eq-eqb (g x) k z, eq-eqb (f x) (suc k) (omega (arith, e, z))) (omega (arith, ih)))
    (λ z. rw (ne_eqb (g x) k z, ne_eqb (f x) (suc k) (λ w. z (omega (arith, e, w)))) (omega (arith, ih)))

changes_join : (f g : ℕ → ℕ) (l m : List ℕ) → ((x : ℕ) → 0 < count x l → f x ≡ 1) → ((x : ℕ) → 0 < count x m → (f x ≡ suc (g x)) × (0 < g x))
    → changes f 0 (l ++ m) ≡ bit (ltb 0 (length l)) + changes g 0 m
changes_join f g [] [] h k = refl
changes_join f g [] (x ∷ xs) h k =
    let e = k x (here x xs) in
    let rest = ap (λ (j : ℕ). changes f j xs) e.0 ∙ changes_higher f g (g x) xs (λ y i. (k y (omega arith)).0) in
    rw (ne_eqb (f x) 0 (λ z. omega (arith, e.0, z)), ne_eqb (g x) 0 (λ z. omega (arith, e.1, z))) (omega (arith, rest))
changes_join f g (x ∷ xs) m h k =
    let e = h x (here x xs) in
    let rest = ap (λ (j : ℕ). changes f j (xs ++ m)) e ∙ changes_skip f 1 xs m (λ y i. h y (omega arith)) ∙ changes_higher f g 0 m (λ y i. (k y i).0) in
    rw (ne_eqb (f x) 0 (λ z. omega (arith, e, z)), lt-ltb 0 (suc (length xs)) (omega arith)) (omega (arith, rest))

-- ── waking ──

wake_all_append : (l m : List ℕ) (s : State) → wake_all s (l ++ m) ≡ wake_all (wake_all s l) m
wake_all_append [] m s = refl
wake_all_append (x ∷ xs) m s = wake_all_append xs m (wake s x)

wake_all_set : (l : List ℕ) (s : State) (n : ℕ) → wake_all (set_clock s n) l ≡ set_clock (wake_all s l) n
wake_all_set [] s n = refl
wake_all_set (x ∷ xs) s n = wake_all_set xs (wake s x) n

-- who does not pass may leave the delay queue
filter_woken : (f : ℕ → Bool) (l : List ℕ) (s : State) → ((x : ℕ) → 0 < count x l → f x ≡ false) → filter f (wake_all s l).delays ≡ filter f s.delays
filter_woken f [] s h = refl
filter_woken f (x ∷ xs) s h = filter_woken f xs (wake s x) (λ y k. h y (omega arith)) ∙ filter_remove f x s.delays (h x (here x xs))

-- ── numbers of ticks ──

within : (a n : ℕ) → 0 < a → a ≤ n → (ltb 0 a && leb a n) ≡ true
within a n p q = rw (lt-ltb 0 a p, le-leb a n q)

-- one tick less of one tick less
within_less : (a b n : ℕ) → b + 1 ≡ a → 0 < b → (ltb 0 a && leb a (suc n)) ≡ (ltb 0 b && leb b n)
within_less a b n e p =
    rw (lt-ltb 0 a (omega arith), lt-ltb 0 b p)
    (by_bool (leb b n) (λ q. rw (q, le-leb a (suc n) (omega (arith, e, leb-true b n q)))) (λ q. rw (q, lt-leb a (suc n) (omega (arith, e, leb-false b n q)))))

within_none : (a : ℕ) → (ltb 0 a && leb a 0) ≡ false
within_none zero = refl
within_none (suc a) = rw (lt-ltb 0 (suc a) (omega arith), lt-leb (suc a) 0 (omega arith))

not-due : (now : ℕ) (w : Timer) → ((d : ℕ) → w ≡ Due d → d ≡ now → ⊥) → is_due now w ≡ false
not-due now Off h = refl
not-due now (Due d) h = ne_eqb d now (h d refl)

-- ── one tick, and then the rest ──

module _ (s : State) (n : ℕ) (h : Sound s) where
  abbrev now1 : ℕ
  now1 = after s.clock 1

  abbrev due : List ℕ
  due = due_at s now1

  abbrev s1 : State
  s1 = tick_to s now1

  -- due at the tick
  abbrev first : ℕ → Bool
  first t = is_due now1 (timer_of s t)

  -- in the n ticks behind it
  abbrev soon : ℕ → Bool
  soon t = comes_in now1 n (timer_of s1 t)

  -- in all of them
  abbrev all : ℕ → Bool
  all t = comes_in s.clock (suc n) (timer_of s t)

  -- ticks left before the tick, and behind it
  abbrev ticks : ℕ → ℕ
  ticks t = ticks_left s.clock (timer_of s t)

  abbrev ticks1 : ℕ → ℕ
  ticks1 t = ticks_left now1 (timer_of s1 t)

  timed : (t : ℕ) → 0 < count t s.delays → (d : ℕ) × (timer_of s t ≡ Due d)
  timed t k = go (timer_of s t) refl
    where
      go : (w : Timer) → timer_of s t ≡ w → (d : ℕ) × (timer_of s t ≡ Due d)
      go Off q = absurd (omega (arith, k, rw q at (h.delays t)))
      go (Due d) q = (d, q)

  -- who is woken has no time any more
  woken_off : (t : ℕ) → 0 < count t due → soon t ≡ false
  woken_off t k =
      let d = due_is now1 (timer_of s t) (in_filter first t s.delays k).0 in
      let i = timed_there s t (rw d) in
      ap (comes_in now1 n) (wake_all_in due s t i.0 i.1 k).1

  -- the others stay as they are
  stays : (t : ℕ) → count t due ≡ 0 → task_of s1 t ≡ task_of s t
  stays t z = wake_all_out due s t z

  soon_out : (t : ℕ) → soon t ≡ true → count t due ≡ 0
  soon_out t e = not_in t due (λ k. clash e (woken_off t k))

  further : (t : ℕ) → 0 < count t s.delays → first t ≡ false → 1 < ticks t
  further t k e =
      let q = timed t k in
      let i = in_time s t q.0 h q.1 in
      let m : q.0 ≡ now1 → ⊥ = eqb-false q.0 now1 (rw q.1 at e) in
      rw q.1 (omega (arith, h.clock, i.0, i.2, m))

  is_first : (t : ℕ) → 0 < count t s.delays → first t ≡ true → (all t ≡ true) × (soon t ≡ false)
  is_first t k e =
      let d = due_is now1 (timer_of s t) e in
      (rw d (within (left s.clock now1) (suc n) (omega (arith, h.clock)) (omega (arith, h.clock))), woken_off t (omega (arith, k, count_filter_yes first t s.delays e)))

  not_first : (t : ℕ) → 0 < count t s.delays → first t ≡ false → all t ≡ soon t
  not_first t k e =
      let q = timed t k in
      let i = in_time s t q.0 h q.1 in
      let o = stays t (count_filter_no first t s.delays e) in
      let f : 1 < left s.clock q.0 = rw q.1 at (further t k e) in
      let l = left_later s.clock q.0 1 h.clock i.2 i.0 in
      ap (comes_in s.clock (suc n)) q.1 ∙ within_less (left s.clock q.0) (left now1 q.0) n l (omega (arith, l, f)) ∙ sym (ap (λ (x : Task). comes_in now1 n x.timer) o ∙ ap (comes_in now1 n) q.1)

  in_front : (t u : ℕ) → 0 < count t s.delays → 0 < count u s.delays → ticks t ≤ ticks u → first t ≡ false → first u ≡ false
  in_front t u i j k e =
      not-due now1 (timer_of s u) (λ d q z. let m : ticks u ≡ left s.clock d = ap (ticks_left s.clock) q in omega (arith, h.clock, k, m, z, further t i e))

  pub due_split : due_within s (suc n) ≡ due ++ due_within s1 n
  due_split = split first soon all ticks s.delays h.order is_first not_first in_front ∙ ap (λ (l : List ℕ). due ++ l) (sym (filter_woken soon due s woken_off))

  -- the items of the rest are those of s
  pub same_items : map (expired s1) (due_within s1 n) ≡ map (expired s) (due_within s1 n)
  same_items =
      map_same (expired s1) (expired s) (due_within s1 n)
      (λ t k. ap (λ (x : Task). item t (expiry x.place) (entry_of x.place) (partner_of x.place)) (stays t (soon_out t (in_filter soon t s1.delays k).0)))

  now_one : (t : ℕ) → 0 < count t due → ticks t ≡ 1
  now_one t k = let d = due_is now1 (timer_of s t) (in_filter first t s.delays k).0 in rw d (omega (arith, h.clock))

  then_less : (t : ℕ) → 0 < count t (due_within s1 n) → (ticks t ≡ suc (ticks1 t)) × (0 < ticks1 t)
  then_less t k =
      let e = (in_filter soon t s1.delays k).0 in
      let o : timer_of s1 t ≡ timer_of s t = ap (λ (x : Task). x.timer) (stays t (soon_out t e)) in
      let p : 0 < ticks1 t = (between (ticks1 t) n e).0 in
      let m : ticks1 t ≡ ticks_left now1 (timer_of s t) = ap (ticks_left now1) o in
      (go (timer_of s t) refl (omega (arith, p, m)) ∙ ap suc (sym m), p)
    where
      go : (w : Timer) → timer_of s t ≡ w → 0 < ticks_left now1 w → ticks_left s.clock w ≡ suc (ticks_left now1 w)
      go Off q z = absurd (omega (arith, z))
      go (Due d) q z = let i = in_time s t d h q in omega (arith, left_later s.clock d 1 h.clock i.2 i.0)

  pub moments_split : due_moments s (suc n) ≡ bit (ltb 0 (length (ends_at s now1))) + due_moments s1 n
  moments_split =
      ap (changes ticks 0) due_split ∙ changes_join ticks ticks1 due (due_within s1 n) now_one then_less
      ∙ ap (λ (k : ℕ). bit (ltb 0 k) + due_moments s1 n) (sym (length-map due (expired s)))

-- ── all ticks ──

pub at_once : (n : ℕ) (s : State) → Sound s → AtOnce s n
at_once zero s h =
    let none : due_within s 0 ≡ [] = filter_none (λ t. comes_in s.clock 0 (timer_of s t)) s.delays (λ t k. within_none (ticks_left s.clock (timer_of s t))) in
    let e : s.clock ≡ after s.clock 0 = omega (arith, h.clock) in
    record {
      state = ap (set_clock s) e ∙ ap (λ (l : List ℕ). set_clock (wake_all s l) (after s.clock 0)) (sym none);
      ends = ap (map (expired s)) (sym none);
      readings = ap (changes (λ t. ticks_left s.clock (timer_of s t)) 0) (sym none);
    }
at_once (suc n) s h =
    let now = after s.clock 1 in
    let t1 = tick_to s now in
    let l = due_at s now in
    let m = due_within t1 n in
    let ih = at_once n t1 (tick_kept s h) in
    let e : after now n ≡ after s.clock (suc n) = omega arith in
    record {
      state = ih.state ∙ ap (λ (x : State). set_clock x (after now n)) (wake_all_set m (wake_all s l) now ∙ ap (λ (x : State). set_clock x now) (sym (wake_all_append l m s)))
          ∙ ap (set_clock (wake_all s (l ++ m))) e ∙ ap (λ (k : List ℕ). set_clock (wake_all s k) (after s.clock (suc n))) (sym (due_split s n h));
      ends = ap (λ (k : List Item). ends_at s now ++ k) (ih.ends ∙ same_items s n h) ∙ sym (map_append (expired s) l m) ∙ ap (map (expired s)) (sym (due_split s n h));
      readings = ap (λ (k : ℕ). bit (ltb 0 (length (ends_at s now))) + k) ih.readings ∙ sym (moments_split s n h);
    }
