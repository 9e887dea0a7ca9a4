-- A step moves tasks one after the other. Who waits in the same place before and after it, and is not listed, is not moved; who comes from an entry queue into
-- a rendezvous heads that queue. What is said of the order of a line needs no more of the steps than this.
-- Assumes nothing.
use Prim.Native.Nat.{ℕ, zero, suc, ◌^◌, ◌<◌, ◌≤◌}
use mathlib.Core.Path.{◌≡◌, refl, sym, ◌∙◌, ap, subst}
use mathlib.Core.Bool.{true, false, not}
use mathlib.Core.List.{List, [], ◌∷◌, map}
use native.Mathlib.Omega.{arith}
use lib.ListN.{length}
use lib.Dec.{eqb, ltb, leb}
use borrow.Author.Tests.{eq-eqb, not-false}
use Rattle.lists.specs.Lists.{count, first, last}
use Rattle.lists.proofs.Tests.{no, between}
use Rattle.lists.proofs.ListLaws.{by_bool, by_test}
use Rattle.rules.specs.State.{State, task_of, place_of, created, is_task, has_entry, is_queued, is_held, is_completed, partner_of, entry_of, kept_of, current_of, accepts, after, move, wake, wake_all, rank, higher, add, set_clock, queue, held_by, waiting, offer, meeting}
use Rattle.rules.specs.Sound.{in_range}
use Rattle.rules.specs.Step.{Outcome, refused, took, item, SERVED, ACCEPTED, ticks, delay_for, timed_call, call_busy, call, open_entry, select_delay, select_none, select_at, select, end_last, end, queued_on, failed, finish, due_at, expired, advance_ends, take_call}
use Rattle.rules.specs.Runs.{Ask, is_waiting, reasons}
use Rattle.rules.specs.Advance.{due_within}
use Rattle.rules.specs.declared.Item.{Item}
use Rattle.rules.specs.declared.Timer.{Timer}
use Rattle.rules.specs.declared.Timer.TheVariants.{Off, Due}
use Rattle.rules.specs.declared.Place.{Place}
use Rattle.rules.specs.declared.Place.TheVariants.{Ready, Delayed, Queued, Held, Accepting, Completed}
use Rattle.calls.specs.declared.CallMode.{CallMode}
use Rattle.calls.specs.declared.CallMode.TheVariants.{Simple, Timed, Conditional}
use Rattle.calls.specs.declared.SelectMode.{SelectMode}
use Rattle.calls.specs.declared.SelectMode.TheVariants.{Plain, Else}
use Rattle.calls.specs.declared.SelectMode.TheVariants as S
use Rattle.calls.specs.declared.Call as C
use Rattle.calls.specs.declared.Call.TheVariants.{Create, Delay, Call, Select, End, Finish, Tick, Advance}
use Rattle.rules.proofs.Invariant.{Sound}
use Rattle.rules.proofs.Members.{queued_there, Runs}
use Rattle.rules.proofs.MoveLaws.{place_same, length_move, rank_length}
use Rattle.rules.proofs.StateRuns.{entry}
use Rattle.rules.proofs.StepSound.{by_runner, caller_taken}
use Rattle.rules.proofs.OverRuns.{by_step}
use Rattle.rules.proofs.AtOnce.{at_once}

-- a waits before and after a step, in the same place, and the list of the step does not name it
pub record Unmoved (s s' : State) (l : List Item) (a : ℕ) : Type 0 where
  pub waits : is_waiting (place_of s a) ≡ true
  pub place : place_of s' a ≡ place_of s a
  pub quiet : reasons a l ≡ []

-- t, in the state s, may go to place p: if that is a rendezvous, t is not queued, or heads the queue in which it waits
pub data Enters (s : State) (t : ℕ) (p : Place) : Type 0 where
  elsewhere : is_held p ≡ false → Enters s t p
  not-queued : is_queued (place_of s t) ≡ false → Enters s t p
  heads : first (queue s (partner_of (place_of s t)) (entry_of (place_of s t))) ≡ t → Enters s t p

-- from the state s on, no one of U is moved
pub data Moves (s : State) (U : ℕ → Type 0) : State → Type 0 where
  still : Moves s U s
  newly : (s1 : State) → Moves s U s1 → (p n : ℕ) → Moves s U (add s1 p n)
  clocked : (s1 : State) → Moves s U s1 → (n : ℕ) → Moves s U (set_clock s1 n)
  ranks : (s1 : State) → Moves s U s1 → (t n : ℕ) → 0 < t → t ≤ created s1 → Moves s U (rank s1 t n)
  goes : (s1 : State) → Moves s U s1 → (t : ℕ) (p : Place) (w : Timer) → ((a : ℕ) → U a → a ≡ t → ⊥) → Enters s t p → Moves s U (move s1 t p w)

abbrev MovesOf : State → Outcome → Type 0
MovesOf s (refused r) = Unit {0}
MovesOf s (took s' b l) = Moves s (Unmoved s s' l) s'

-- ── who is moved is not one of them ──

-- the running task is ready
not-runner : (s s' : State) (l : List Item) (t : ℕ) → Runs s t → (a : ℕ) → Unmoved s s' l a → a ≡ t → ⊥
not-runner s s' l t r a u z = no (let w = u.waits in let p : place_of s a ≡ Ready = ap (place_of s) z ∙ r.place in cc)

-- who is listed
pub listed : (f : ℕ → Item) → ((x : ℕ) → (f x).task ≡ x) → (a : ℕ) (l : List ℕ) → length (reasons a (map f l)) ≡ count a l
listed f own a [] = refl
listed f own a (x ∷ xs) =
    let ih = listed f own a xs in
    by_bool (eqb x a) (λ e. rw (own x, e) (omega (arith, ih))) (λ e. rw (own x, e) (omega (arith, ih)))

not_listed : (f : ℕ → Item) → ((x : ℕ) → (f x).task ≡ x) → (a : ℕ) (l : List ℕ) → reasons a (map f l) ≡ [] → count a l ≡ 0
not_listed f own a l q = sym (listed f own a l) ∙ ap length q

not-item : (i : Item) (a : ℕ) → reasons a (i ∷ []) ≡ [] → a ≡ i.task → ⊥
not-item i a q z = no (let y = rw (eq-eqb i.task a (sym z)) at q in cc)

-- all of a list wake, and none of U is among them
wakes : (s : State) (U : ℕ → Type 0) (l : List ℕ) (s1 : State) → Moves s U s1 → ((a : ℕ) → U a → count a l ≡ 0) → Moves s U (wake_all s1 l)
wakes s U [] s1 m f = m
wakes s U (t ∷ ts) s1 m f =
    wakes s U ts (wake s1 t) (goes s1 m t Ready Off (λ a u z. omega (arith, f a u, rw (eq-eqb t a (sym z)) at (f a u))) (elsewhere refl)) (λ a u. omega (arith, f a u))

-- ── each call ──

-- the running task goes to another place than a rendezvous
runner_moves : (s : State) (t : ℕ) (p : Place) (w : Timer) → Runs s t → is_held p ≡ false → Moves s (Unmoved s (move s t p w) []) (move s t p w)
runner_moves s t p w r h = goes s still t p w (not-runner s (move s t p w) [] t r) (elsewhere h)

delay_moves : (s : State) (t n : ℕ) → Runs s t → MovesOf s (delay_for s t n)
delay_moves s t zero r = runner_moves s t Ready Off r refl
delay_moves s t (suc n) r = runner_moves s t Delayed (Due (after s.clock (suc n))) r refl

timed_moves : (s : State) (t g e n : ℕ) → Runs s t → MovesOf s (timed_call s t g e n)
timed_moves s t g e zero r = still
timed_moves s t g e (suc n) r = runner_moves s t (Queued (waiting g e)) (Due (after s.clock (suc n))) r refl

busy_moves : (s : State) (t g e : ℕ) (m : CallMode) → Runs s t → MovesOf s (call_busy s t g e m)
busy_moves s t g e Simple r = runner_moves s t (Queued (waiting g e)) Off r refl
busy_moves s t g e (Timed d) r = timed_moves s t g e (ticks d) r
busy_moves s t g e Conditional r = still

call_moves : (s : State) (t g e : ℕ) (m : CallMode) → Runs s t → MovesOf s (call s t g e m)
call_moves s t g e m r =
    by_test (MovesOf s) (not (is_task s g)) (λ _. tt) λ b.
    by_test (MovesOf s) (not (has_entry (task_of s g) e)) (λ _. tt) λ _.
    by_test (MovesOf s) (is_completed (place_of s g)) (λ _. still) λ _.
    by_test (MovesOf s) (accepts (place_of s g) e)
    (λ _. let i = between g (created s) (not-false _ b) in let v = wake s g in let n = higher (current_of v g) (current_of v t) in
    goes (rank v g n)
    (ranks v (goes s still g Ready Off (λ a u z. not-item (item g ACCEPTED e t) a u.quiet z) (elsewhere refl)) g n i.0 (omega (arith, i.1, length_move s g Ready Off)))
    t (Held (meeting g e (current_of v g))) Off (not-runner s _ _ t r) (not-queued (rw r.place)))
    (λ _. busy_moves s t g e m r)

none_moves : (s : State) (t o : ℕ) (m : SelectMode) → Runs s t → MovesOf s (select_none s t o m)
none_moves s t o Plain r = by_test (MovesOf s) (eqb o 0) (λ _. still) (λ _. runner_moves s t (Accepting (offer o)) Off r refl)
none_moves s t o (S.Delay d) r = go (ticks d)
  where
    go : (n : ℕ) → MovesOf s (select_delay s t o n)
    go zero = still
    go (suc n) = runner_moves s t (Accepting (offer o)) (Due (after s.clock (suc n))) r refl
none_moves s t o Else r = still

select_moves : (s : State) (t o : ℕ) (m : SelectMode) → Runs s t → MovesOf s (select s t o m)
select_moves s t o m r = by_test (MovesOf s) (leb (2 ^ (task_of s t).entries) o) (λ _. tt) (λ _. go (open_entry s t o) refl)
  where
    go : (n : ℕ) → open_entry s t o ≡ n → MovesOf s (select_at s t o m n)
    go zero z = none_moves s t o m r
    go (suc e) z =
        let c = first (queue s t (suc e)) in
        let q = caller_taken s t o e z in
        let i = queued_there s c q.0 q.1 in
        let n = higher (current_of s t) (current_of s c) in
        let v = rank s t n in
        let h = Held (meeting t (suc e) (current_of s t)) in
        goes v (ranks s still t n r.low r.high) c h Off
        (λ a u y. no (let p = u.place in let k : place_of s a ≡ Queued q.0 = ap (place_of s) y ∙ q.1 in
        let j = ap (place_of (move v c h Off)) y ∙ place_same v c h Off i.0 (omega (arith, i.1, rank_length s t n r.low r.high)) in cc))
        (heads (rw (q.1, q.2, q.3)))

end_moves : (s : State) (t : ℕ) → Runs s t → MovesOf s (end s t)
end_moves s t r = go (last (held_by s t))
  where
    go : (c : ℕ) → MovesOf s (end_last s t c)
    go zero = tt
    go (suc c) =
        let n = kept_of (place_of s (suc c)) in
        goes (rank s t n) (ranks s still t n r.low r.high) (suc c) Ready Off
        (λ a u z. not-item (item (suc c) SERVED (entry_of (place_of s (suc c))) t) a u.quiet z) (elsewhere refl)

finish_moves : (s : State) (t : ℕ) → Runs s t → MovesOf s (finish s t)
finish_moves s t r =
    by_test (MovesOf s) (ltb 0 (length (held_by s t))) (λ _. tt)
    (λ _. goes (wake_all s (queued_on s t)) (wakes s _ (queued_on s t) s still (λ a u. not_listed (failed s) (λ x. refl) a (queued_on s t) u.quiet))
    t Completed Off (not-runner s _ _ t r) (elsewhere refl))

pub call_moved : (s : State) (c : C.Call) → Sound s → MovesOf s (take_call s c)
call_moved s (Create p n) h =
    by_test (MovesOf s) (not (in_range p n)) (λ _. tt) λ _.
    by_test (MovesOf s) (leb 31 (created s)) (λ _. tt) (λ _. newly s still p n)
call_moved s (Delay d) h = by_runner (MovesOf s) s (λ t. delay_for s t (ticks d)) h tt (λ t e r. delay_moves s t (ticks d) r)
call_moved s (Call g e m) h = by_runner (MovesOf s) s (λ t. call s t g e m) h tt (λ t z r. call_moves s t g e m r)
call_moved s (Select o m) h = by_runner (MovesOf s) s (λ t. select s t o m) h tt (λ t z r. select_moves s t o m r)
call_moved s End h = by_runner (MovesOf s) s (λ t. end s t) h tt (λ t z r. end_moves s t r)
call_moved s Finish h = by_runner (MovesOf s) s (λ t. finish s t) h tt (λ t z r. finish_moves s t r)
call_moved s Tick h =
    let now = after s.clock 1 in
    clocked (wake_all s (due_at s now)) (wakes s _ (due_at s now) s still (λ a u. not_listed (expired s) (λ x. refl) a (due_at s now) u.quiet)) now
call_moved s (Advance n) h =
    let k = at_once n s h in
    let l = due_within s n in
    subst (λ (x : State). Moves s (Unmoved s x (advance_ends n s)) x) (sym k.state)
    (clocked (wake_all s l) (wakes s _ l s still (λ a u. not_listed (expired s) (λ x. refl) a l (ap (reasons a) (sym k.ends) ∙ u.quiet))) (after s.clock n))

-- ── a step ──

-- no one who stays is moved
pub step_moved : (s : State) (a : Ask) → Sound s → Moves s (Unmoved s (entry s a).out.state (entry s a).out.ended) (entry s a).out.state
step_moved s a h =
    by_step (λ r. Moves s (Unmoved s r.state r.ended) r.state) s a.call a.room h
    (λ r n. still)
    (λ s' b l e. rw e at (call_moved s a.call h))
