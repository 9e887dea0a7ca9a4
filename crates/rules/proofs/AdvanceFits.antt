-- An ADVANCE ends no wait twice: at most 31 items, and no more readings than items.
-- Assumes nothing.
use Prim.Native.Nat.{ℕ, zero, suc, ◌≤◌, ◌<◌}
use mathlib.Core.List.{List, map}
use native.Mathlib.Omega.{arith}
use lib.ListN.{length, length-append, length-map}
use lib.Dec.{ltb}
use borrow.Author.Tests.{lt-ltb}
use Rattle.lists.specs.Lists.{bit}
use Rattle.rules.specs.State.{State, after}
use Rattle.rules.specs.Step.{tick_to, ends_at, advanced, advance_ends, readings}
use Rattle.rules.specs.Runs.{reasons}
use Rattle.rules.specs.Advance.{Fits}
use Rattle.rules.specs.declared.Item.{Item}
use Rattle.lists.proofs.ListLaws.{at_most}
use Rattle.rules.proofs.Invariant.{Sound}
use Rattle.rules.proofs.Members.{timed_there}
use Rattle.rules.proofs.Passes.{Passes, stays, comes, advance_passes}
use Rattle.rules.proofs.Ends.{task_in, count_tasks}

readings_few : (n : ℕ) (s : State) → readings n s ≤ length (advance_ends n s)
readings_few zero s = omega arith
readings_few (suc n) s =
    let l = ends_at s (after s.clock 1) in
    let s1 = tick_to s (after s.clock 1) in
    omega (arith, readings_few n s1, length-append l (advance_ends n s1), some (length l))
  where
    some : (k : ℕ) → bit (ltb 0 k) ≤ k
    some zero = omega arith
    some (suc k) = rw (lt-ltb 0 (suc k) (omega arith)) (omega arith)

pub fits : (s : State) (n : ℕ) → Sound s → Fits s n
fits s n h = record {
  once = λ u. (go u (advance_passes n s u h)).0;
  items = omega (
    arith,
    h.few,
    length-map l task_in,
    at_most (length s.tasks) (map task_in l) (λ u. omega (arith, count_tasks u l, (go u (advance_passes n s u h)).0))
        (λ u k. (go u (advance_passes n s u h)).1 (omega (arith, k, count_tasks u l))),
  );
  readings = readings_few n s;
}
  where
    l : List Item
    l = advance_ends n s

    go : (u : ℕ) → Passes s n u (advanced n s) l → (length (reasons u l) ≤ 1) × (0 < length (reasons u l) → (0 < u) × (u ≤ length s.tasks))
    go u (stays e f r) = (rw r (omega arith), λ k. absurd (omega (arith, rw r at k)))
    go u (comes d q j p t r) = (rw r (omega arith), λ k. timed_there s u (rw q))
