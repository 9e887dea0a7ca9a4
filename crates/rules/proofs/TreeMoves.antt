-- From a held task to its holder, and on: at most 30 moves; and the priority worked out down the tree.
-- Assumes nothing.
use Prim.Native.Nat.{ℕ, zero, suc, ◌+◌, ◌≤◌, ◌<◌}
use mathlib.Core.Path.{◌≡◌, refl, sym, ◌∙◌, ap}
use mathlib.Core.Bool.{true}
use mathlib.Core.List.{List, [], ◌∷◌}
use native.Mathlib.Omega.{arith}
use lib.ListN.{length}
use lib.Dec.{eqb, ltb}
use borrow.Author.Tests.{eq-eqb, ne_eqb, ltb-true, ltb-false}
use Rattle.lists.specs.Lists.{count}
use Rattle.rules.specs.State.{State, task_of, place_of, timer_of, current_of, is_held, partner_of, held_by}
use Rattle.rules.specs.Tree.{highest_from, highest_of}
use Rattle.rules.specs.declared.Place.{Place}
use Rattle.rules.specs.declared.Place.TheVariants.{Blank, Ready, Delayed, Queued, Held, Accepting, Completed}
use Rattle.lists.proofs.ListLaws.{clash, by_eq, by_bool, at_most, nobody}
use Rattle.rules.proofs.Invariant.{Calls, Fits, Sound}
use Rattle.rules.proofs.Members.{of_held, held_there, there}
use Rattle.rules.proofs.AddLaws.{partner_there}
use Rattle.rules.proofs.TreeLaws.{Tree, Moves, from_alike}

pub held_in : (s : State) (u : ℕ) → Sound s → is_held (place_of s u) ≡ true → (0 < u) × (u ≤ length s.tasks) × (partner_of (place_of s u) ≤ length s.tasks)
held_in s u h e =
    let i = there s.tasks u (λ b. clash e (ap is_held b)) in
    (i.0, i.1, partner_there s.clock s.tasks u (h.good u i.0 i.1))

-- ── at most 30 moves ──

pub one_way : (s : State) (n m t : ℕ) → Moves s n t → Moves s m t → n ≡ m
one_way s zero zero t a b = refl
one_way s zero (suc m) t a b = clash b.0 a
one_way s (suc n) zero t a b = clash a.0 b
one_way s (suc n) (suc m) t a b = ap suc (one_way s n m (partner_of (place_of s t)) a.1 b.1)

-- the tasks on the way, t first, the one that nobody holds last
abbrev trail : State → ℕ → ℕ → List ℕ
trail s zero t = t ∷ []
trail s (suc n) t = t ∷ trail s n (partner_of (place_of s t))

trail_length : (s : State) (n t : ℕ) → length (trail s n t) ≡ suc n
trail_length s zero t = refl
trail_length s (suc n) t = ap suc (trail_length s n (partner_of (place_of s t)))

-- who is on the way has no more moves to go
on_trail : (s : State) (n t u : ℕ) → Moves s n t → 0 < count u (trail s n t) → (k : ℕ) × (k ≤ n) × Moves s k u
on_trail s zero t u a j = by_eq t u (λ q. (0, omega arith, rw (← q) a)) (λ m. absurd (omega (arith, rw (ne_eqb t u m) at j)))
on_trail s (suc n) t u a j =
    by_eq t u
    (λ q. (suc n, omega arith, rw (← q) a))
    (λ m. let r = on_trail s n (partner_of (place_of s t)) u a.1 (omega (arith, rw (ne_eqb t u m) at j)) in (r.0, omega (arith, r.1), r.2))

once_on : (s : State) (n t u : ℕ) → Moves s n t → count u (trail s n t) ≤ 1
once_on s zero t u a = by_bool (eqb t u) (λ e. rw e (omega arith)) (λ e. rw e (omega arith))
once_on s (suc n) t u a =
    let ih = once_on s n (partner_of (place_of s t)) u a.1 in
    by_eq t u
    (λ q. rw (eq-eqb t u q)
    (by_bool (ltb 0 (count u (trail s n (partner_of (place_of s t)))))
    (λ b. let r = on_trail s n (partner_of (place_of s t)) u a.1 (ltb-true 0 _ b) in
    absurd (omega (arith, r.1, one_way s r.0 (suc n) u r.2 (rw q at a))))
    (λ b. omega (arith, ltb-false 0 (count u (trail s n (partner_of (place_of s t)))) b))))
    (λ m. rw (ne_eqb t u m) (omega (arith, ih)))

pub holder_low : (s : State) (u : ℕ) → Sound s → is_held (place_of s u) ≡ true → 0 < partner_of (place_of s u)
holder_low s u h e = let i = held_in s u h e in go (place_of s u) (h.good u i.0 i.1).place e
  where
    low : (g e : ℕ) → Calls (task_of s g) e → 0 < g
    low zero e c = absurd (omega (arith, c.low, c.high))
    low (suc g) e c = omega arith

    go : (p : Place) → Fits (task_of s u) (task_of s (partner_of p)) p (timer_of s u) → is_held p ≡ true → 0 < partner_of p
    go Blank f e = absurd f
    go Ready f e = clash e refl
    go Delayed f e = clash e refl
    go (Queued q) f e = clash e refl
    go (Held m) f e = low m.holder m.entry f.0
    go (Accepting o) f e = clash e refl
    go Completed f e = clash e refl

trail_inside : (s : State) (n t u : ℕ) → Sound s → 0 < t → t ≤ length s.tasks → Moves s n t → 0 < count u (trail s n t) → (0 < u) × (u ≤ length s.tasks)
trail_inside s zero t u h pos fit a j = by_eq t u (λ q. rw (← q) (pos, fit)) (λ m. absurd (omega (arith, rw (ne_eqb t u m) at j)))
trail_inside s (suc n) t u h pos fit a j =
    by_eq t u
    (λ q. rw (← q) (pos, fit))
    (λ m. trail_inside s n (partner_of (place_of s t)) u h (holder_low s t h a.0) (held_in s t h a.0).2 a.1 (omega (arith, rw (ne_eqb t u m) at j)))

pub few_moves : (s : State) (n t : ℕ) → Sound s → 0 < t → t ≤ length s.tasks → Moves s n t → n ≤ 30
few_moves s n t h pos fit a =
    omega (arith, h.few, trail_length s n t, at_most (length s.tasks) (trail s n t) (λ u. once_on s n t u a) (λ u j. trail_inside s n t u h pos fit a j))

-- ── the priority worked out down the tree ──

-- one that is m moves below the top, where nobody is more than k + m moves below it, has k levels below it
pub highest_is : (s : State) (k m t : ℕ) → Sound s → Tree s → Moves s m t → 30 ≤ k + m → highest_of s k t ≡ current_of s t
unfolding highest_of
highest_is s zero m t h g a b =
    let e : held_by s t ≡ [] = nobody (held_by s t) (λ c j. let q = of_held s c t j in let i = held_there s c q.0 q.1 in
    omega (arith, b, few_moves s (suc m) c h i.0 i.1 (rw q.1 (refl, rw q.2 a)))) in
    sym ((g.agree t).current ∙ ap (highest_from (current_of s) (task_of s t).priority) e)
highest_is s (suc k) m t h g a b =
    from_alike (highest_of s k) (current_of s) (task_of s t).priority (held_by s t)
    (λ c j. let q = of_held s c t j in highest_is s k (suc m) c h g (rw q.1 (refl, rw q.2 a)) (omega (arith, b)))
    ∙ sym (g.agree t).current
