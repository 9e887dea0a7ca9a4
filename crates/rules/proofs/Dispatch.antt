-- Of each step and each question: a refusal changes nothing, the dispatched task, a queue has room, COUNT.
-- Assumes nothing.
use Prim.Native.Nat.{ℕ, zero, suc, ◌≤◌, ◌<◌}
use mathlib.Core.Path.{◌≡◌, refl, sym, ◌∙◌, ap, subst}
use mathlib.Core.Logic.{inl, inr}
use mathlib.Core.Bool.{true, not}
use mathlib.Core.List.{List, [], ◌∷◌}
use native.Mathlib.Omega.{arith}
use lib.ListN.{length}
use lib.Dec.{ltb}
use borrow.Author.Tests.{eqb-true, eq-eqb, le-ltb}
use Rattle.lists.specs.Lists.{count, down_from}
use Rattle.rules.specs.State.{State, place_of, created, is_ready, level, at_level, head_up_to, running, queue, waits_on, current_of}
use Rattle.rules.specs.Step.{Outcome, refused, took, none, room_after, take_call}
use Rattle.rules.specs.declared.Refusal.{Refusal}
use Rattle.rules.specs.declared.Refusal.TheVariants.{ShortRoom, BadState}
use Rattle.rules.specs.Whole.{Typed, Whole, view, sound_whole, decline, done, step_whole}
use Rattle.rules.specs.Questions.{number_in, count_whole}
use Rattle.rules.specs.EachStep.{Dispatched, waiting_on}
use Rattle.rules.specs.SoundFacts.{HasEntry, InPriorities}
use Rattle.rules.specs.declared.Supervisor.{Supervisor}
use Rattle.rules.specs.declared.Place.TheVariants.{Ready}
use Rattle.calls.specs.declared.Call as C
use Rattle.lists.proofs.ListLaws.{by_eq, by_bool, by_test, count_filter_yes, count_filter_no, same_length, down_once, nobody}
use Rattle.rules.proofs.Invariant.{Sound}
use Rattle.rules.proofs.Members.{in_filter, there, ready_is, bit_true, not-blank, runs, queued_is, queued_there, of_queue, queued_good}
use Rattle.rules.proofs.StepSound.{Kept, call_sound}
use Rattle.rules.proofs.WholeLaws.{view_pack, sound_view}
use Rattle.rules.proofs.Bounds.{queue_has_room}

-- ── a refused step ──

-- a refused step: the state it was given, no ended waits, the lent room untouched, and 0 in the result and its numbers
pub record Untouched (s : Supervisor) (w : Whole) : Type 0 where
  pub state : w.state ≡ s
  pub ended : w.ended ≡ []
  pub room : (bytes : List ℕ) → room_after bytes w.ended ≡ bytes
  pub answer : w.answer ≡ none

declined : (s : Supervisor) (r : Refusal) (n : ℕ) → Untouched s (decline s r n)
declined s r n = record { state = refl; ended = refl; room = λ b. refl; answer = refl }

pub untouched : (s : Supervisor) (c : C.Call) (room : ℕ) → 0 < (step_whole s c room).refusal → Untouched s (step_whole s c room)
unfolding step_whole
untouched s c room =
    by_test P (ltb room 124) (λ _ k. declined s ShortRoom 0) λ _.
    by_test P (not (sound_whole s)) (λ _ k. declined s BadState 0) λ _. go (take_call (view s) c)
  where
    P : Whole → Type 0
    P w = 0 < w.refusal → Untouched s w

    go : (o : Outcome) → P (done s o)
    go (refused r) k = declined s r (running (view s))
    go (took st a l) k = absurd (omega arith)

-- the dispatched task that it answers
pub refused_next : (s : Supervisor) (c : C.Call) (room : ℕ) → 2 < (step_whole s c room).refusal → (step_whole s c room).next ≡ running (view s)
unfolding step_whole
refused_next s c room =
    by_test P (ltb room 124) (λ _ k. absurd (omega arith)) λ _.
    by_test P (not (sound_whole s)) (λ _ k. absurd (omega arith)) λ _. go (take_call (view s) c)
  where
    P : Whole → Type 0
    P w = 2 < w.refusal → w.next ≡ running (view s)

    go : (o : Outcome) → P (done s o)
    go (refused r) k = refl
    go (took st a l) k = absurd (omega arith)

-- ── the dispatched task ──

-- whoever stands in the ready line was created, and has a priority in range
ready_there : (s : State) (u : ℕ) → Sound s → 0 < count u s.ready → (0 < u) × InPriorities (current_of s u)
ready_there s u h k =
    let p : place_of s u ≡ Ready = ready_is (place_of s u) (bit_true (is_ready (place_of s u)) (omega (arith, k, h.ready u))) in
    let i = there s.tasks u (not-blank (place_of s u) p) in
    (i.0, (h.good u i.0 i.1).numbers.current)

pub dispatched : (s : State) → Sound s → Dispatched s (running s)
unfolding running
dispatched s h = up_to 15 above
  where
    in_level : (u p : ℕ) → 0 < count u (level s p) → (current_of s u ≡ p) × (0 < count u s.ready)
    in_level u p k = let i = in_filter (at_level s p) u s.ready k in (eqb-true (current_of s u) p i.0, i.1)

    above : (p : ℕ) → 15 < p → level s p ≡ []
    above p k = nobody (level s p) (λ u j. let i = in_level u p j in omega (arith, k, i.0, (ready_there s u h i.1).1.1))

    -- nobody is ready where every level is empty
    none : ((p : ℕ) → 0 < p → level s p ≡ []) → s.ready ≡ []
    none e = nobody s.ready (λ u k. let p = current_of s u in
        omega (arith, k, count_filter_yes (at_level s p) u s.ready (eq-eqb p p refl), ap (count u) (e p (ready_there s u h k).1.0)))

    up_to : (p : ℕ) → ((q : ℕ) → p < q → level s q ≡ []) → Dispatched s (head_up_to s p)
    up_to zero e = inl (refl, none e)
    up_to (suc p) e = go (level s (suc p)) refl (up_to p)
      where
        go : (l : List ℕ) → level s (suc p) ≡ l → (((q : ℕ) → p < q → level s q ≡ []) → Dispatched s (head_up_to s p)) → Dispatched s (elim l as (λ _. ℕ) [ [] ↦ head_up_to s p | t ∷ ts ↦ t ])
        go [] q f = f (λ r k. by_eq r (suc p) (λ z. ap (level s) z ∙ q) (λ n. e r (omega (arith, k, n))))
        go (t ∷ ts) q f =
            inr ((ready_there s t h (in_level t (suc p) (rw q (rw (eq-eqb t t refl) (omega arith)))).1).0, record { priority = suc p; behind = ts; heads = q; highest = e })

-- ── a sound struct ──

pub dispatched_after : (s : Supervisor) → Typed s → sound_whole s ≡ true → (c : C.Call) (room : ℕ) → 124 ≤ room → Dispatched (view (step_whole s c room).state) (step_whole s c room).next
unfolding step_whole
dispatched_after s k e c room j = rw (le-ltb room 124 j, e) (go (take_call (view s) c) (call_sound (view s) c (sound_view s k e)))
  where
    go : (o : Outcome) → Kept o → Dispatched (view (done s o).state) (done s o).next
    go (refused r) h = dispatched (view s) (sound_view s k e)
    go (took st a l) h = subst (λ (x : State). Dispatched x (running st)) (sym (view_pack st h)) (dispatched st h)

pub has_room : (s : Supervisor) → Typed s → sound_whole s ≡ true → 0 < running (view s) → (g e : ℕ) → length (queue (view s) g e) ≤ 30
has_room s k e r g n = go (running (view s)) refl r
  where
    go : (t : ℕ) → running (view s) ≡ t → 0 < t → length (queue (view s) g n) ≤ 30
    go zero q j = absurd (omega arith)
    go (suc t) q j = let h = sound_view s k e in queue_has_room (view s) (suc t) g n h (runs (view s) t h q)

-- ── COUNT ──

queue_counts : (s : State) (t e : ℕ) → Sound s → length (queue s t e) ≡ length (waiting_on s t e)
queue_counts s t e h = same_length (length (queue s t e)) (queue s t e) (waiting_on s t e) (omega arith) each
  where
    each : (u : ℕ) → count u (queue s t e) ≡ count u (waiting_on s t e)
    each u =
        by_bool (waits_on s t e u)
        (λ y. let q = queued_is (place_of s u) t e y in
        let i = queued_there s u q.0 q.1 in
        count_filter_yes (waits_on s t e) u s.callers y ∙ h.callers u ∙ rw q.1 (sym (count_filter_yes (waits_on s t e) u (down_from (created s)) y ∙ down_once u (created s) i.0 i.1)))
        (λ y. count_filter_no (waits_on s t e) u s.callers y ∙ sym (count_filter_no (waits_on s t e) u (down_from (created s)) y))

pub counted : (s : Supervisor) → Typed s → sound_whole s ≡ true → (t e : ℕ) → number_in (count_whole s t e) ≡ length (waiting_on (view s) t e)
unfolding count_whole
counted s k e t n = rw e (queue_counts (view s) t n (sound_view s k e))

-- a task or entry that is not there has nobody queued
pub count_absent : (s : Supervisor) → Typed s → sound_whole s ≡ true → (t e : ℕ) → (HasEntry (view s) t e → ⊥) → number_in (count_whole s t e) ≡ 0
unfolding count_whole
count_absent s k h t e n = rw h (ap length (nobody (queue (view s) t e) absent))
  where
    absent : (u : ℕ) → 0 < count u (queue (view s) t e) → ⊥
    absent u j =
        let q = of_queue (view s) u t e j in
        let g = queued_good (view s) u q.0 (sound_view s k h) q.1 in
        n (subst (HasEntry (view s) t) q.3 (subst (λ (g : ℕ). HasEntry (view s) g q.0.entry) q.2 (g.low, g.high)))
