-- What a new task leaves of the others' tasks and lines; it keeps soundness.
-- Assumes nothing.
use Prim.Native.Nat.{ℕ, zero, suc, ◌≤◌, ◌<◌}
use mathlib.Core.Path.{◌≡◌, refl, sym, ◌∙◌}
use mathlib.Core.Bool.{Bool, true, false}
use mathlib.Core.List.{List, [], ◌∷◌, ◌++◌}
use native.Mathlib.Omega.{arith}
use lib.ListN.{length, get_or-append, length-append}
use lib.Seq.{get_or-append_seam}
use lib.Dec.{leb}
use borrow.Author.Tests.{eq-eqb, ne_eqb, leb-true, leb-false}
use Rattle.lists.specs.Lists.{bit, count}
use Rattle.rules.specs.State.{State, blank, nth, place_of, timer_of, is_ready, is_queued, is_held, partner_of, has_time, ticks_left, fresh, add}
use Rattle.rules.specs.SoundFacts.{InPriorities}
use Rattle.rules.specs.declared.Task.{Task}
use Rattle.rules.specs.declared.Place.{Place}
use Rattle.rules.specs.declared.Place.TheVariants.{Blank, Ready, Delayed, Queued, Held, Accepting, Completed}
use Rattle.lists.proofs.ListLaws.{by_eq, by_bool, count_append, ordered_cong}
use Rattle.rules.proofs.Invariant.{Calls, Fits, GoodAt, Sound}
use Rattle.rules.proofs.Members.{timed_there, bit_true, nth_beyond}

module _ (ts : List Task) (x : Task) where
  pub nth_old : (u : ℕ) → u ≤ length ts → nth (ts ++ (x ∷ [])) u ≡ nth ts u
  nth_old zero h = refl
  nth_old (suc u) h = get_or-append ts (x ∷ []) blank u (omega arith)

  pub nth_new : nth (ts ++ (x ∷ [])) (suc (length ts)) ≡ x
  nth_new = get_or-append_seam ts x [] blank

  pub nth_further : (u : ℕ) → suc (length ts) < u → nth (ts ++ (x ∷ [])) u ≡ blank
  nth_further u h = nth_beyond (ts ++ (x ∷ [])) u (omega (arith, length-append ts (x ∷ [])))

  -- old, new or never given
  pub by_number {κ} : (P : Task → Type κ) (u : ℕ) → (u ≤ length ts → P (nth ts u)) → (u ≡ suc (length ts) → P x) → (suc (length ts) < u → P blank) → P (nth (ts ++ (x ∷ [])) u)
  by_number P u a b c = go (leb u (length ts)) refl
    where
      go : (v : Bool) → leb u (length ts) ≡ v → P (nth (ts ++ (x ∷ [])) u)
      go true e = let k = leb-true u (length ts) e in rw (nth_old u k) (a k)
      go false e =
          by_eq u (suc (length ts))
          (λ z. rw (z, nth_new) (b z))
          (λ n. let k : suc (length ts) < u = omega (arith, leb-false u (length ts) e, n) in rw (nth_further u k) (c k))

-- a line without the numbers that were never given, and one that the new task does not join
module _ (ts : List Task) (x : Task) (q : Task → Bool) (l : List ℕ) (h : (u : ℕ) → count u l ≡ bit (q (nth ts u))) (none : q blank ≡ false) where
  pub none_yet : (u : ℕ) → length ts < u → count u l ≡ 0
  none_yet u k = h u ∙ rw (nth_beyond ts u k, none)

  pub add_out : q x ≡ false → (u : ℕ) → count u l ≡ bit (q (nth (ts ++ (x ∷ [])) u))
  add_out e u =
      by_number ts x (λ (y : Task). count u l ≡ bit (q y)) u (λ _. h u)
      (λ z. rw e (none_yet u (omega arith))) (λ k. rw none (none_yet u (omega arith)))

  pub add_in : q x ≡ true → (u : ℕ) → count u (l ++ (suc (length ts) ∷ [])) ≡ bit (q (nth (ts ++ (x ∷ [])) u))
  add_in e u =
      by_number ts x (λ (y : Task). count u (l ++ (suc (length ts) ∷ [])) ≡ bit (q y)) u
      (λ k. count_append u l (suc (length ts) ∷ []) ∙ rw (ne_eqb (suc (length ts)) u (λ z. omega arith)) (omega (arith, h u)))
      (λ z. count_append u l (suc (length ts) ∷ []) ∙ rw (e, eq-eqb (suc (length ts)) u (sym z)) (omega (arith, none_yet u (omega arith))))
      (λ k. count_append u l (suc (length ts) ∷ []) ∙ rw (none, ne_eqb (suc (length ts)) u (λ z. omega arith)) (omega (arith, none_yet u (omega arith))))

-- the called task of a good one was created
pub partner_there : (now : ℕ) (ts : List Task) (u : ℕ) → GoodAt now ts u → partner_of (nth ts u).place ≤ length ts
partner_there now ts u g = go (nth ts u).place g.place
  where
    is : (t e : ℕ) → Calls (nth ts t) e → t ≤ length ts
    is t e c = by_bool (leb t (length ts)) (λ b. leb-true t (length ts) b) (λ b. absurd (omega (arith, c.low, rw (nth_beyond ts t (leb-false t (length ts) b)) at c.high)))

    go : (p : Place) → Fits (nth ts u) (nth ts (partner_of p)) p (nth ts u).timer → partner_of p ≤ length ts
    go Blank f = omega arith
    go Ready f = omega arith
    go Delayed f = omega arith
    go (Queued q) f = is q.target q.entry f.0
    go (Held m) f = is m.holder m.entry f.0
    go (Accepting o) f = omega arith
    go Completed f = omega arith

pub add_sound : (s : State) (p n : ℕ) → Sound s → length s.tasks < 31 → InPriorities p → n ≤ 8 → Sound (add s p n)
add_sound s p n h f a b = record {
  clock = h.clock;
  few = omega (arith, f, length-append s.tasks (x ∷ []));
  good = λ u i j. by_bool (leb u (length s.tasks))
      (λ e. let k = leb-true u (length s.tasks) e in let g = h.good u i k in
      rw (nth_old s.tasks x u k, nth_old s.tasks x (partner_of (place_of s u)) (partner_there s.clock s.tasks u g)) g)
      (λ e. let k : u ≡ suc (length s.tasks) = omega (arith, leb-false u (length s.tasks) e, j, length-append s.tasks (x ∷ [])) in
      rw (k, nth_new s.tasks x) (record { numbers = record { own = a; current = a; few = b }; place = refl; time = tt }));
  ready = add_in s.tasks x (λ y. is_ready y.place) s.ready h.ready refl refl;
  callers = add_out s.tasks x (λ y. is_queued y.place) s.callers h.callers refl refl;
  held = add_out s.tasks x (λ y. is_held y.place) s.held h.held refl refl;
  delays = add_out s.tasks x (λ y. has_time y.timer) s.delays h.delays refl refl;
  order = ordered_cong (λ u. ticks_left s.clock (timer_of s u)) (λ u. ticks_left s.clock (nth (s.tasks ++ (x ∷ [])) u).timer) s.delays
      (λ y z i j k. omega (arith, k, same y i, same z j)) h.order;
}
  where
    x : Task
    x = fresh p n

    same : (u : ℕ) → 0 < count u s.delays → ticks_left s.clock (nth (s.tasks ++ (x ∷ [])) u).timer ≡ ticks_left s.clock (timer_of s u)
    same u k = rw (nth_old s.tasks x u (timed_there s u (bit_true (has_time (timer_of s u)) (omega (arith, h.delays u, k)))).1)
