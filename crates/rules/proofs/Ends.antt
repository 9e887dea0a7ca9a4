-- A step ends at most one wait of a task, of one that was waiting, and at most 31 in all; a wait ends once.
-- Assumes nothing.
use Prim.Native.Nat.{ℕ, ◌≤◌, ◌<◌}
use mathlib.Core.Path.{◌≡◌, refl, ap}
use mathlib.Core.Logic.{◌⊎◌, inl, inr}
use mathlib.Core.Bool.{Bool, true, false}
use mathlib.Core.List.{List, [], ◌∷◌, map}
use native.Mathlib.Omega.{arith}
use lib.ListN.{length, length-map}
use lib.Dec.{eqb}
use borrow.Author.Tests.{eq-eqb}
use Rattle.lists.specs.Lists.{count, every}
use Rattle.rules.specs.State.{State, place_of}
use Rattle.rules.specs.Runs.{Ask, Given, is_waiting, begun, reasons, ended}
use Rattle.rules.specs.OverRuns.{EndsOnce, WereWaiting, FewEnds}
use Rattle.rules.specs.declared.Item.{Item}
use Rattle.lists.proofs.Tests.{no}
use Rattle.lists.proofs.ListLaws.{by_bool, at_most}
use Rattle.rules.proofs.Invariant.{Sound}
use Rattle.rules.proofs.Members.{there}
use Rattle.rules.proofs.StateRuns.{entry, log_of}
use Rattle.rules.proofs.Fate.{untouched, awake, began, began_held, taken, ran_out, accepted, served, given_up}
use Rattle.rules.proofs.OverRuns.{StepFate, not_taken, was_taken, step_fate, step_sound, timed_waits_place, counted}

-- a wait of u ended: one, u was waiting before, and is not afterwards
pub record Ended (s : State) (u : ℕ) (r : Given) : Type 0 where
  pub one : length (reasons u r.ended) ≡ 1
  pub before : is_waiting (place_of s u) ≡ true
  pub after : is_waiting (place_of r.state u) ≡ false

-- a step ends no wait of u, or one
ends : (s : State) (a : Ask) (u : ℕ) → Sound s → (reasons u (entry s a).out.ended ≡ []) ⊎ Ended s u (entry s a).out
ends s a u h = go (entry s a).out (step_fate s a u h)
  where
    go : (r : Given) → StepFate s a.call u r → (reasons u r.ended ≡ []) ⊎ Ended s u r
    go r (not_taken f n e) = inl (rw e)
    go r (was_taken s' b l t e (untouched p k m)) = inl (rw e k)
    go r (was_taken s' b l t e (awake p q k m)) = inl (rw e k)
    go r (was_taken s' b l t e (began p w q v k m)) = inl (rw e k)
    go r (was_taken s' b l t e (began_held p f q k m)) = inl (rw e k)
    go r (was_taken s' b l t e (taken _ f i p q k m)) = inl (rw e k)
    go r (was_taken s' b l t e (ran_out v d i q k m)) = inr (record { one = rw (e, k); before = (timed_waits_place s u h (rw d)).0; after = rw (e, q) })
    go r (was_taken s' b l t e (accepted _ o p q k m)) = inr (record { one = rw (e, k); before = rw p; after = rw (e, q) })
    go r (was_taken s' b l t e (served v f p i j q k m)) = inr (record { one = rw (e, k, eq-eqb u u refl); before = rw p; after = rw (e, q) })
    go r (was_taken s' b l t e (given_up v f p i q k m)) = inr (record { one = rw (e, k); before = rw p; after = rw (e, q) })

-- ── once ──

pub ends_once : (s : State) (a : Ask) (mid : List Ask) → Sound s → EndsOnce (entry s a) (log_of (entry s a).out.state mid)
ends_once s a mid h = record { one = λ t. at_most_one t (ends s a t h); again = λ t k z. not-again t k z (ends s a t h) }
  where
    s1 : State
    s1 = (entry s a).out.state

    at_most_one : (t : ℕ) → (reasons t (entry s a).out.ended ≡ []) ⊎ Ended s t (entry s a).out → length (reasons t (entry s a).out.ended) ≤ 1
    at_most_one t (inl e) = rw e (omega arith)
    at_most_one t (inr e) = omega (arith, e.one)

    not-again : (t : ℕ) → 0 < length (reasons t (entry s a).out.ended) → begun t (log_of s1 mid) ≡ 0 → (reasons t (entry s a).out.ended ≡ []) ⊎ Ended s t (entry s a).out → ended t (log_of s1 mid) ≡ 0
    not-again t k z (inl e) = absurd (omega (arith, k, ap length e))
    not-again t k z (inr e) = omega (arith, z, rw e.after at (counted mid s1 t (step_sound s a h)))

-- ── who waited ──

-- what holds of each task of which a wait ended holds of the task of each item
all_tasks : (P : ℕ → Bool) (l : List Item) → ((u : ℕ) → 0 < length (reasons u l) → P u ≡ true) → every (λ (i : Item). P i.task) l ≡ true
all_tasks P [] h = refl
all_tasks P (i ∷ is) h =
    rw (h i.task (rw (eq-eqb i.task i.task refl) (omega arith)))
    (all_tasks P is (λ u k. h u (by_bool (eqb i.task u) (λ e. rw e (omega arith)) (λ e. rw e k))))

pub were_waiting : (s : State) (a : Ask) → Sound s → WereWaiting (entry s a)
were_waiting s a h = all_tasks (λ u. is_waiting (place_of s u)) (entry s a).out.ended (λ u k. go u k (ends s a u h))
  where
    go : (u : ℕ) → 0 < length (reasons u (entry s a).out.ended) → (reasons u (entry s a).out.ended ≡ []) ⊎ Ended s u (entry s a).out → is_waiting (place_of s u) ≡ true
    go u k (inl e) = absurd (omega (arith, k, ap length e))
    go u k (inr e) = e.before

-- ── how many ──

abbrev pub task_in : Item → ℕ
task_in i = i.task

pub count_tasks : (u : ℕ) (l : List Item) → count u (map task_in l) ≡ length (reasons u l)
count_tasks u [] = refl
count_tasks u (i ∷ is) = by_bool (eqb i.task u) (λ e. rw e (omega (arith, count_tasks u is))) (λ e. rw e (omega (arith, count_tasks u is)))

pub few_ends : (s : State) (a : Ask) → Sound s → FewEnds (entry s a)
few_ends s a h = omega (arith, length-map l task_in, at_most 31 (map task_in l) (λ u. once u (ends s a u h)) (λ u k. inside u (omega (arith, k, count_tasks u l)) (ends s a u h)))
  where
    l : List Item
    l = (entry s a).out.ended

    once : (u : ℕ) → (reasons u l ≡ []) ⊎ Ended s u (entry s a).out → count u (map task_in l) ≤ 1
    once u (inl e) = omega (arith, count_tasks u l, ap length e)
    once u (inr e) = omega (arith, count_tasks u l, e.one)

    inside : (u : ℕ) → 0 < length (reasons u l) → (reasons u l ≡ []) ⊎ Ended s u (entry s a).out → (0 < u) × (u ≤ 31)
    inside u k (inl e) = absurd (omega (arith, k, ap length e))
    inside u k (inr e) = let i = there s.tasks u (λ b. no (let v = e.before in cc)) in (i.0, omega (arith, i.1, h.few))
