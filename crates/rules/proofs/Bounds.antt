-- A queue that a caller would join has at most 30 callers: the caller is itself one of at most 31 tasks, and ready.
-- Assumes nothing.
use Prim.Native.Nat.{ℕ, ◌≤◌, ◌<◌}
use mathlib.Core.Path.{◌≡◌, refl, subst}
use mathlib.Core.List.{◌∷◌}
use native.Mathlib.Omega.{arith}
use lib.ListN.{length}
use borrow.Author.Tests.{eq-eqb, ne_eqb}
use Rattle.lists.specs.Lists.{count}
use Rattle.rules.specs.State.{State, queue}
use Rattle.lists.proofs.Tests.{no}
use Rattle.lists.proofs.ListLaws.{by_eq, not_in, at_most}
use Rattle.rules.proofs.Invariant.{Sound}
use Rattle.rules.proofs.Members.{Runs, of_queue, queued_there}
use Rattle.rules.proofs.Fate.{queue_once}

pub queue_has_room : (s : State) (t g e : ℕ) → Sound s → Runs s t → length (queue s g e) ≤ 30
queue_has_room s t g e h r = omega (arith, h.few, at_most (length s.tasks) (t ∷ queue s g e) once inside)
  where
    out : count t (queue s g e) ≡ 0
    out = not_in t (queue s g e) (λ k. let q = (of_queue s t g e k).1 in let p = r.place in no (cc))

    once : (u : ℕ) → count u (t ∷ queue s g e) ≤ 1
    once u = by_eq t u (λ z. subst (λ (x : ℕ). count x (t ∷ queue s g e) ≤ 1) z (rw (eq-eqb t t refl) (omega (arith, out)))) (λ n. rw (ne_eqb t u n) (omega (arith, queue_once s u g e h)))

    inside : (u : ℕ) → 0 < count u (t ∷ queue s g e) → (0 < u) × (u ≤ length s.tasks)
    inside u k = by_eq t u (λ z. rw (← z) (r.low, r.high)) (λ n. let q = of_queue s u g e (omega (arith, rw (ne_eqb t u n) at k)) in queued_there s u q.0 q.1)
