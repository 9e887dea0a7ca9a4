-- What a call does to current priorities and to the ready queues: a rendezvous begins, one ends, or nothing happens to them.
-- Assumes nothing.
use Prim.Native.Nat.{ℕ, zero, suc, ◌≤◌, ◌<◌, ◌^◌}
use mathlib.Core.Path.{◌≡◌, refl, sym, ◌∙◌, ap}
use mathlib.Core.Logic.{inl}
use mathlib.Core.Bool.{false, not, ◌&&◌}
use mathlib.Core.List.{List, [], ◌∷◌, ◌++◌}
use native.Mathlib.Omega.{arith}
use lib.ListN.{length}
use lib.Dec.{eqb, ltb, leb}
use borrow.Author.Tests.{eq-eqb, leb-true, leb-false, not-false}
use Rattle.lists.specs.Lists.{count, first, last}
use Rattle.rules.specs.State.{State, nth, task_of, place_of, timer_of, current_of, created, is_task, is_ready, is_held, is_completed, accepts, queue, held_by, running, after, fresh, move, wake, wake_all, add, waiting, offer}
use Rattle.rules.specs.Sound.{in_range}
use Rattle.rules.specs.SoundFacts.{Created}
use Rattle.rules.specs.Step.{create, delay_for, enqueue, timed_call, call_busy, call, open_entry, select_delay, select_none, select_at, select, end_last, end, queued_from, queued_on, finish, due_at, is_due, tick_to, advanced, take_call, ticks}
use Rattle.rules.specs.Levels.{Levels, LevelsOf, RendezvousLevels}
use Rattle.rules.specs.declared.Task.{Task}
use Rattle.rules.specs.declared.Timer.{Timer}
use Rattle.rules.specs.declared.Timer.TheVariants.{Off, Due}
use Rattle.rules.specs.declared.Place.{Place}
use Rattle.rules.specs.declared.Place.TheVariants.{Ready, Delayed, Queued, Accepting, Completed}
use Rattle.calls.specs.declared.CallMode.{CallMode}
use Rattle.calls.specs.declared.CallMode.TheVariants.{Simple, Timed, Conditional}
use Rattle.calls.specs.declared.SelectMode.{SelectMode}
use Rattle.calls.specs.declared.SelectMode.TheVariants.{Plain, Else}
use Rattle.calls.specs.declared.SelectMode.TheVariants as S
use Rattle.calls.specs.declared.Call as C
use Rattle.calls.specs.declared.Call.TheVariants.{Create, Delay, Call, Select, End, Finish, Tick, Advance}
use Rattle.lists.proofs.ListLaws.{clash, by_eq, by_bool, by_test}
use Rattle.lists.proofs.Tests.{between}
use Rattle.rules.proofs.Invariant.{Sound}
use Rattle.rules.proofs.Members.{Runs, in_filter, nth_beyond, queued_there, of_held, last_in, timed_there}
use Rattle.rules.proofs.MoveLaws.{place_same, place_other, length_move}
use Rattle.rules.proofs.StepSound.{by_runner, caller_taken, of_queued_from, wake_all_length, due_is, tick_kept}
use Rattle.rules.proofs.AddLaws.{nth_old, nth_new, nth_further}
use Rattle.rules.proofs.Fate.{accepts_is}
use Rattle.rules.proofs.OverRuns.{timed_waits_place}
use Rattle.rules.proofs.SoundTest.{sound_props}
use Rattle.rules.proofs.LevelLaws.{current_moved}
use Rattle.rules.proofs.LevelsSelect.{selected}
use Rattle.rules.proofs.LevelsCall.{resumed}
use Rattle.rules.proofs.LevelsEnd.{parted}

-- ── nothing happens to them ──

-- who is held stays held, nobody else is held afterwards, and every task keeps its current priority
record Quiet (s s' : State) : Type 0 where
  held : (u : ℕ) → is_held (place_of s' u) ≡ is_held (place_of s u)
  current : (u : ℕ) → Created s u → current_of s' u ≡ current_of s u

quiet : (s s' : State) → Quiet s s' → Levels s s'
quiet s s' q = record {
  begun = λ c m b. clash (ap is_held b.held) (q.held c ∙ b.free);
  ended = λ c m e. clash (ap is_held e.held) (sym (q.held c) ∙ e.free);
  only_then = λ u k. inl (q.current u k);
}

quiet_refl : (s : State) → Quiet s s
quiet_refl s = record { held = λ _. refl; current = λ _ _. refl }

quiet_trans : (a b c : State) → length b.tasks ≡ length a.tasks → Quiet a b → Quiet b c → Quiet a c
quiet_trans a b c e q r = record { held = λ u. r.held u ∙ q.held u; current = λ u k. r.current u (k.0, omega (arith, k.1, e)) ∙ q.current u k }

quiet_move : (s : State) (t : ℕ) (p : Place) (w : Timer) → 0 < t → t ≤ length s.tasks → is_held (place_of s t) ≡ false → is_held p ≡ false → Quiet s (move s t p w)
quiet_move s t p w pos fit a b = record {
  held = λ u. by_eq u t (λ e. rw e (ap is_held (place_same s t p w pos fit) ∙ b ∙ sym a)) (λ n. ap is_held (place_other s t p w u n));
  current = λ u _. current_moved s t p w pos fit u;
}

-- the running task goes to a place where it is not held
goes : (s : State) (t : ℕ) (p : Place) (w : Timer) → Runs s t → is_held p ≡ false → Levels s (move s t p w)
goes s t p w r e = quiet s (move s t p w) (quiet_move s t p w r.low r.high (ap is_held r.place) e)

quiet_wakes : (l : List ℕ) (s : State) → ((u : ℕ) → 0 < count u l → (0 < u) × (u ≤ length s.tasks) × (is_held (place_of s u) ≡ false)) → Quiet s (wake_all s l)
quiet_wakes [] s h = quiet_refl s
quiet_wakes (x ∷ xs) s h =
    let i = h x (rw (eq-eqb x x refl) (omega arith)) in
    let q = quiet_move s x Ready Off i.0 i.1 i.2 refl in
    quiet_trans s (wake s x) (wake_all (wake s x) xs) (length_move s x Ready Off) q
    (quiet_wakes xs (wake s x) (λ u k. let j = h u (omega arith) in (j.0, omega (arith, j.1, length_move s x Ready Off), q.held u ∙ j.2)))

-- ── each call ──

delay_levels : (s : State) (t n : ℕ) → Runs s t → LevelsOf s (delay_for s t n)
delay_levels s t zero r = goes s t Ready Off r refl
delay_levels s t (suc n) r = goes s t Delayed (Due (after s.clock (suc n))) r refl

same : (s : State) → Levels s s
same s = quiet s s (quiet_refl s)

call_levels : (s : State) (t g e : ℕ) (m : CallMode) → Sound s → running s ≡ t → Runs s t → LevelsOf s (call s t g e m)
call_levels s t g e m h run r =
    by_test (LevelsOf s) (not (is_task s g)) (λ _. tt) λ b1.
    by_test (LevelsOf s) (not (ltb 0 e && leb e (task_of s g).entries)) (λ _. tt) λ b2.
    by_test (LevelsOf s) (is_completed (place_of s g)) (λ _. same s) λ b3.
    by_test (LevelsOf s) (accepts (place_of s g) e)
    (λ b4. let i = between g (created s) (not-false _ b1) in let o = accepts_is (place_of s g) e b4 in resumed s g t e h run r i.0 i.1 (ap is_ready o.1) (ap is_held o.1))
    (λ _. busy m)
  where
    queues : (w : Timer) → LevelsOf s (enqueue s t g e w)
    queues w = goes s t (Queued (waiting g e)) w r refl

    timed : (n : ℕ) → LevelsOf s (timed_call s t g e n)
    timed zero = same s
    timed (suc n) = queues (Due (after s.clock (suc n)))

    busy : (m : CallMode) → LevelsOf s (call_busy s t g e m)
    busy Simple = queues Off
    busy (Timed d) = timed (ticks d)
    busy Conditional = same s

select_levels : (s : State) (t o : ℕ) (m : SelectMode) → Sound s → running s ≡ t → Runs s t → LevelsOf s (select s t o m)
select_levels s t o m h run r = by_test (LevelsOf s) (leb (2 ^ (task_of s t).entries) o) (λ _. tt) (λ _. go (open_entry s t o) refl)
  where
    timed : (n : ℕ) → LevelsOf s (select_delay s t o n)
    timed zero = same s
    timed (suc n) = goes s t (Accepting (offer o)) (Due (after s.clock (suc n))) r refl

    none : (m : SelectMode) → LevelsOf s (select_none s t o m)
    none Plain = by_test (LevelsOf s) (eqb o 0) (λ _. same s) (λ _. goes s t (Accepting (offer o)) Off r refl)
    none (S.Delay d) = timed (ticks d)
    none Else = same s

    go : (n : ℕ) → open_entry s t o ≡ n → LevelsOf s (select_at s t o m n)
    go zero z = none m
    go (suc e) z =
        let c = first (queue s t (suc e)) in
        let q = caller_taken s t o e z in
        let i = queued_there s c q.0 q.1 in
        selected s t c (suc e) h run r i.0 i.1 (ap is_ready q.1) (ap is_held q.1)

end_levels : (s : State) (t : ℕ) → Sound s → Runs s t → LevelsOf s (end s t)
end_levels s t h r = go (last (held_by s t)) refl
  where
    go : (c : ℕ) → last (held_by s t) ≡ c → LevelsOf s (end_last s t c)
    go zero e = tt
    go (suc c) e = let q = of_held s (suc c) t (last_in c (held_by s t) e) in parted s t (suc c) q.0 h r q.1 q.2

finish_levels : (s : State) (t : ℕ) → Runs s t → LevelsOf s (finish s t)
unfolding queued_on
finish_levels s t r =
    by_test (LevelsOf s) (ltb 0 (length (held_by s t))) (λ _. tt)
    (λ _. quiet s (move w t Completed Off) (quiet_trans s w (move w t Completed Off) (wake_all_length l s) q
    (quiet_move w t Completed Off r.low (omega (arith, r.high, wake_all_length l s)) (q.held t ∙ ap is_held r.place) refl)))
  where
    l : List ℕ
    l = queued_from s t 8 1

    w : State
    w = wake_all s (queued_from s t 8 1)

    q : Quiet s (wake_all s (queued_from s t 8 1))
    q = quiet_wakes (queued_from s t 8 1) s (λ u k. let p = of_queued_from s u t 8 1 k in let i = queued_there s u p.0 p.1 in (i.0, i.1, ap is_held p.1))

tick_quiet : (s : State) → Sound s → Quiet s (tick_to s (after s.clock 1))
tick_quiet s h = record { held = q.held; current = q.current }
  where
    n : ℕ
    n = after s.clock 1

    q : Quiet s (wake_all s (due_at s (after s.clock 1)))
    q = quiet_wakes (due_at s (after s.clock 1)) s (λ u k.
        let d = due_is n (timer_of s u) (in_filter (λ t. is_due n (timer_of s t)) u s.delays k).0 in
        let i = timed_there s u (rw d) in
        (i.0, i.1, (timed_waits_place s u h (rw d)).2))

advance_quiet : (n : ℕ) (s : State) → Sound s → Quiet s (advanced n s)
advance_quiet zero s h = quiet_refl s
advance_quiet (suc n) s h =
    let s1 = tick_to s (after s.clock 1) in
    quiet_trans s s1 (advanced n s1) (wake_all_length (due_at s (after s.clock 1)) s) (tick_quiet s h) (advance_quiet n s1 (tick_kept s h))

create_levels : (s : State) (p n : ℕ) → LevelsOf s (create s p n)
create_levels s p n =
    by_test (LevelsOf s) (not (in_range p n)) (λ _. tt) λ _.
    by_test (LevelsOf s) (leb 31 (created s)) (λ _. tt) (λ _. quiet s (add s p n) (record { held = held; current = λ u k. ap (λ (y : Task). y.current) (nth_old s.tasks x u k.1) }))
  where
    x : Task
    x = fresh p n

    held : (u : ℕ) → is_held (place_of (add s p n) u) ≡ is_held (place_of s u)
    held u =
        by_bool (leb u (created s))
        (λ e. ap (λ (y : Task). is_held y.place) (nth_old s.tasks x u (leb-true u (created s) e)))
        (λ e. let k = leb-false u (created s) e in
        let b = ap (λ (y : Task). is_held y.place) (nth_beyond s.tasks u k) in
        by_eq u (suc (created s))
        (λ z. ap (λ (y : Task). is_held y.place) (ap (nth (s.tasks ++ (x ∷ []))) z ∙ nth_new s.tasks x) ∙ sym b)
        (λ m. ap (λ (y : Task). is_held y.place) (nth_further s.tasks x u (omega (arith, k, m))) ∙ sym b))

levels : (s : State) (c : C.Call) → Sound s → LevelsOf s (take_call s c)
levels s (Create p n) h = create_levels s p n
levels s (Delay d) h = by_runner (LevelsOf s) s (λ t. delay_for s t (ticks d)) h tt (λ t e r. delay_levels s t (ticks d) r)
levels s (Call g e m) h = by_runner (LevelsOf s) s (λ t. call s t g e m) h tt (λ t z r. call_levels s t g e m h z r)
levels s (Select o m) h = by_runner (LevelsOf s) s (λ t. select s t o m) h tt (λ t z r. select_levels s t o m h z r)
levels s End h = by_runner (LevelsOf s) s (λ t. end s t) h tt (λ t z r. end_levels s t h r)
levels s Finish h = by_runner (LevelsOf s) s (λ t. finish s t) h tt (λ t z r. finish_levels s t r)
levels s Tick h = quiet s (tick_to s (after s.clock 1)) (tick_quiet s h)
levels s (Advance n) h = quiet s (advanced n s) (advance_quiet n s h)

pub rendezvous_levels : RendezvousLevels
rendezvous_levels s c k e = levels s c (sound_props s k e)
