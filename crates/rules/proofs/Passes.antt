-- What ticks do to each task; the lists of items made from lists of tasks.
-- Assumes nothing.
use Prim.Native.Nat.{ℕ, zero, suc, ◌+◌, ◌≤◌, ◌<◌}
use mathlib.Core.Path.{◌≡◌, refl, sym, ◌∙◌, ap}
use mathlib.Core.List.{List, [], ◌∷◌, ◌++◌, map}
use native.Mathlib.Omega.{arith}
use lib.Dec.{eqb}
use borrow.Author.Tests.{eqb-false, eq-eqb, ne_eqb}
use Rattle.lists.specs.Lists.{count}
use Rattle.rules.specs.State.{State, task_of, place_of, timer_of, has_time, left, after}
use Rattle.rules.specs.Step.{due_at, is_due, expired, expiry, tick_to, ends_at, advanced, advance_ends}
use Rattle.rules.specs.Runs.{reasons}
use Rattle.rules.specs.declared.Item.{Item}
use Rattle.rules.specs.declared.Task.{Task}
use Rattle.rules.specs.declared.Timer.TheVariants.{Off, Due}
use Rattle.rules.specs.declared.Place.TheVariants.{Ready}
use Rattle.lists.proofs.Tests.{no, bit_le}
use Rattle.lists.proofs.ListLaws.{by_eq, by_bool, by_member, count_filter_yes, count_filter_le}
use Rattle.rules.proofs.Invariant.{InTime, Sound}
use Rattle.rules.proofs.Members.{in_filter, timed_there}
use Rattle.rules.proofs.StepSound.{tick_kept, due_is, wake_all_in, wake_all_out}

-- ── lists of items ──

module _ (f : ℕ → Item) (own : (x : ℕ) → (f x).task ≡ x) (u : ℕ) where
  pub reasons_none : (l : List ℕ) → count u l ≡ 0 → reasons u (map f l) ≡ []
  reasons_none [] h = refl
  reasons_none (x ∷ xs) h = by_eq x u (λ e. absurd (omega (arith, rw (eq-eqb x u e) at h))) (λ n. rw (own x, ne_eqb x u n) (reasons_none xs (omega arith)))

  pub reasons_one : (l : List ℕ) → count u l ≡ 1 → reasons u (map f l) ≡ (f u).result ∷ []
  reasons_one [] h = absurd (omega arith)
  reasons_one (x ∷ xs) h =
      by_eq x u
      (λ e. rw (own x, eq-eqb x u e, e, reasons_none xs (omega (arith, rw (eq-eqb x u e) at h))))
      (λ n. rw (own x, ne_eqb x u n) (reasons_one xs (omega (arith, rw (ne_eqb x u n) at h))))

pub reasons_append : (u : ℕ) (l m : List Item) → reasons u (l ++ m) ≡ reasons u l ++ reasons u m
reasons_append u [] m = refl
reasons_append u (i ∷ is) m = let ih = reasons_append u is m in by_bool (eqb i.task u) (λ e. rw (e, ih)) (λ e. rw (e, ih))

-- ── the clock ──

-- the ticks left, k ticks later
pub left_later : (now d k : ℕ) → now < 4294967296 → d < 4294967296 → k ≤ left now d → left (after now k) d + k ≡ left now d
left_later now d k a b h = omega arith

-- the reading n ticks later
abbrev pub later : ℕ → ℕ → ℕ
later now zero = now
later now (suc n) = after now (suc n)

pub later_is : (now n : ℕ) → now < 4294967296 → later now n ≡ after now n
later_is now zero h = omega arith
later_is now (suc n) h = refl

pub in_time : (s : State) (u d : ℕ) → Sound s → timer_of s u ≡ Due d → InTime s.clock (Due d)
in_time s u d h q = let j = timed_there s u (rw q) in rw q at (h.good u j.0 j.1).time

-- ── ticks ──

-- what n ticks do to task u: nothing, and its time, if it has one, is further away; or its time comes
pub data Passes (s : State) (n u : ℕ) (s' : State) (l : List Item) : Type 0 where
  stays : task_of s' u ≡ task_of s u → ((d : ℕ) → timer_of s u ≡ Due d → n < left s.clock d) → reasons u l ≡ [] → Passes s n u s' l
  comes : (d : ℕ) → timer_of s u ≡ Due d → left s.clock d ≤ n → place_of s' u ≡ Ready → timer_of s' u ≡ Off → reasons u l ≡ expiry (place_of s u) ∷ [] → Passes s n u s' l

pub tick_passes : (s : State) (u : ℕ) → Sound s → Passes s 1 u (tick_to s (after s.clock 1)) (ends_at s (after s.clock 1))
tick_passes s u h = by_member u l woken other
  where
    n : ℕ
    n = after s.clock 1

    l : List ℕ
    l = due_at s n

    woken : 0 < count u l → Passes s 1 u (tick_to s n) (ends_at s n)
    woken k =
        let d = due_is n (timer_of s u) (in_filter (λ t. is_due n (timer_of s t)) u s.delays k).0 in
        let i = timed_there s u (rw d) in
        let w = wake_all_in l s u i.0 i.1 k in
        comes n d (omega (arith, h.clock)) w.0 w.1
        (reasons_one (expired s) (λ x. refl) u l (omega (arith, k, count_filter_le (λ t. is_due n (timer_of s t)) u s.delays, h.delays u, bit_le (has_time (timer_of s u)))))

    further : count u l ≡ 0 → (d : ℕ) → timer_of s u ≡ Due d → 1 < left s.clock d
    further z d q =
        by_bool (is_due n (timer_of s u))
        (λ e. absurd (omega (arith, z, count_filter_yes (λ t. is_due n (timer_of s t)) u s.delays e, rw q at (h.delays u))))
        (λ e. let i = in_time s u d h q in let m : d ≡ n → ⊥ = eqb-false d n (rw q at e) in omega (arith, h.clock, i.0, i.2, m))

    other : count u l ≡ 0 → Passes s 1 u (tick_to s n) (ends_at s n)
    other k = stays (wake_all_out l s u k) (further k) (reasons_none (expired s) (λ x. refl) u l k)

-- ── ADVANCE ──

pub advance_passes : (n : ℕ) (s : State) (u : ℕ) → Sound s → Passes s n u (advanced n s) (advance_ends n s)
advance_passes zero s u h = stays refl (λ d q. (in_time s u d h q).0) refl
advance_passes (suc n) s u h = go (tick_passes s u h) (advance_passes n s1 u (tick_kept s h))
  where
    s1 : State
    s1 = tick_to s (after s.clock 1)

    l : List Item
    l = ends_at s (after s.clock 1)

    less : (d : ℕ) → timer_of s u ≡ Due d → left (after s.clock 1) d + 1 ≡ left s.clock d
    less d q = let i = in_time s u d h q in left_later s.clock d 1 h.clock i.2 i.0

    go : Passes s 1 u s1 l → Passes s1 n u (advanced n s1) (advance_ends n s1) → Passes s (suc n) u (advanced n s1) (l ++ advance_ends n s1)
    go (stays e f r) (stays e2 f2 r2) =
        stays (e2 ∙ e) (λ d q. omega (arith, less d q, f2 d (ap (λ (x : Task). x.timer) e ∙ q))) (rw (reasons_append u l (advance_ends n s1), r, r2))
    go (stays e f r) (comes d q k p t r2) =
        let q0 : timer_of s u ≡ Due d = sym (ap (λ (x : Task). x.timer) e) ∙ q in
        comes d q0 (omega (arith, less d q0, k)) p t (rw (reasons_append u l (advance_ends n s1), r, r2, ap (λ (x : Task). x.place) e))
    go (comes d q k p t r) (stays e2 f2 r2) =
        comes d q (omega (arith, k)) (ap (λ (x : Task). x.place) e2 ∙ p) (ap (λ (x : Task). x.timer) e2 ∙ t) (rw (reasons_append u l (advance_ends n s1), r, r2))
    go (comes d q k p t r) (comes d2 q2 k2 p2 t2 r2) = no (cc)

pub advance_clock : (n : ℕ) (s : State) → s.clock < 4294967296 → (advanced n s).clock ≡ after s.clock n
advance_clock zero s h = omega arith
advance_clock (suc n) s h = advance_clock n (tick_to s (after s.clock 1)) (omega arith) ∙ omega arith
