-- Over every run: the stored priorities agree with the tree of held callers, which has no ring.
-- Assumes nothing.
use Prim.Native.Nat.{ℕ, zero, suc, ◌<◌}
use mathlib.Core.Path.{◌≡◌, refl}
use mathlib.Core.Bool.{true, false}
use mathlib.Core.List.{List, [], ◌∷◌}
use native.Mathlib.Omega.{arith}
use Rattle.rules.specs.State.{State, empty, task_of, place_of, current_of, is_held}
use Rattle.rules.specs.Runs.{Ask}
use Rattle.rules.proofs.StateRuns.{entry, reach}
use Rattle.rules.specs.Tree.{highest_of, reaches_top}
use Rattle.rules.proofs.Invariant.{Sound}
use Rattle.rules.proofs.OverRuns.{by_step, step_sound, reach_sound, empty_sound}
use Rattle.rules.proofs.TreeLaws.{Tree}
use Rattle.rules.proofs.TreeMoves.{highest_is}
use Rattle.rules.proofs.TreeTest.{all_tops}
use Rattle.rules.proofs.TreeSteps.{keeps_tree}

pub empty_tree : (n : ℕ) → Tree (empty n)
empty_tree n = record { agree = λ t. record { kept = tt; current = cur t }; no_ring = λ t. (0, free t) }
  where
    cur : (t : ℕ) → current_of (empty n) t ≡ (task_of (empty n) t).priority
    cur zero = refl
    cur (suc t) = refl

    free : (t : ℕ) → is_held (place_of (empty n) t) ≡ false
    free zero = refl
    free (suc t) = refl

pub reach_tree : (run : List Ask) (s : State) → Sound s → Tree s → Tree (reach s run)
reach_tree [] s h g = g
reach_tree (a ∷ rest) s h g =
    reach_tree rest (entry s a).out.state (step_sound s a h)
    (by_step (λ r. Tree r.state) s a.call a.room h (λ r n. g) (λ s' b l e. rw e at (keeps_tree s a.call h g)))

-- from an empty supervisor on: no ring, and each task's current priority is the highest created one among itself and everyone below it
pub no_ring : (n : ℕ) → n < 4294967296 → (run : List Ask) → (t : ℕ) → reaches_top (reach (empty n) run) 30 t ≡ true
no_ring n h run t =
    all_tops (reach (empty n) run) (reach_sound run (empty n) (empty_sound n h)) (reach_tree run (empty n) (empty_sound n h) (empty_tree n)).no_ring t

pub current_is_highest : (n : ℕ) → n < 4294967296 → (run : List Ask) → (t : ℕ) → highest_of (reach (empty n) run) 30 t ≡ current_of (reach (empty n) run) t
current_is_highest n h run t =
    let g = reach_tree run (empty n) (empty_sound n h) (empty_tree n) in
    highest_is (reach (empty n) run) 30 (g.no_ring t).0 t (reach_sound run (empty n) (empty_sound n h)) g (g.no_ring t).1 (omega arith)
