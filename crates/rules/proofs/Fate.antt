-- What a call does to each task: one of nine things. All that is said of runs follows from this.
-- Assumes nothing.
use Prim.Native.Nat.{ℕ, zero, suc, ◌≤◌, ◌<◌, ◌^◌}
use mathlib.Core.Path.{◌≡◌, refl, sym, ◌∙◌, ap}
use mathlib.Core.Bool.{Bool, true, false, not, ◌&&◌}
use mathlib.Core.List.{List, [], ◌∷◌, ◌++◌, map}
use native.Mathlib.Omega.{arith}
use lib.IntN.{ℤ}
use lib.ListN.{length}
use lib.Dec.{eqb, ltb, leb}
use borrow.Author.Tests.{eq-eqb, ne_eqb, leb-true, leb-false, not-false}
use Rattle.lists.specs.Lists.{count, first, last}
use Rattle.rules.specs.State.{State, nth, task_of, place_of, timer_of, created, is_task, has_entry, is_queued, is_completed, entry_of, accepts, left, after, fresh, move, wake, meet, meeting, wake_all, queue, held_by, running, waiting, offer, waits_on, current_of}
use Rattle.rules.specs.Sound.{in_range}
use Rattle.rules.specs.Step.{Outcome, refused, took, item, create, delay_for, enqueue, timed_call, call_busy, call, open_entry, select_delay, select_none, select_at, select, end_last, end, queued_from, queued_on, finish, take_call, ticks}
use Rattle.rules.specs.declared.Item.{Item}
use Rattle.rules.specs.declared.Task.{Task}
use Rattle.rules.specs.declared.Timer.{Timer}
use Rattle.rules.specs.declared.Timer.TheVariants.{Off, Due}
use Rattle.rules.specs.declared.Meeting.{Meeting}
use Rattle.rules.specs.declared.Waiting.{Waiting}
use Rattle.rules.specs.declared.Offer.{Offer}
use Rattle.rules.specs.declared.Place.{Place}
use Rattle.rules.specs.declared.Place.TheVariants.{Blank, Ready, Delayed, Queued, Held, Accepting, Completed}
use Rattle.calls.specs.declared.CallMode.{CallMode}
use Rattle.calls.specs.declared.CallMode.TheVariants.{Simple, Timed, Conditional}
use Rattle.calls.specs.declared.SelectMode.{SelectMode}
use Rattle.calls.specs.declared.SelectMode.TheVariants.{Plain, Else}
use Rattle.calls.specs.declared.SelectMode.TheVariants as S
use Rattle.calls.specs.declared.Call as C
use Rattle.calls.specs.declared.Call.TheVariants.{Create, Delay, Call, Select, End, Finish, Tick, Advance}
use Rattle.lists.proofs.Tests.{no, between, bit_le}
use Rattle.lists.proofs.ListLaws.{by_eq, by_bool, by_test, by_member, not_in, count_append, count_filter_le}
use Rattle.rules.proofs.Invariant.{Sound}
use Rattle.rules.proofs.Members.{of_queue, queued_there, of_held, held_there, last_in, nth_beyond, Runs}
use Rattle.rules.proofs.MoveLaws.{Alike, alike, alike_trans, place_same, place_other, meet_same, meet_other, part_same, part_other, task_same, task_other, length_move}
use Rattle.rules.specs.Step.{failed, expiry, WAITS, SERVED, TASKING_ERROR, ACCEPTED, DONE}
use Rattle.rules.specs.Runs.{is_waiting, reasons, duration, ticks_of}
use Rattle.rules.specs.Step.{tick_to, ends_at, advanced, advance_ends, readings}
use Rattle.rules.proofs.Passes.{reasons_none, reasons_one, in_time, Passes, stays, comes, tick_passes, advance_passes, later, later_is, advance_clock}
use Rattle.rules.proofs.StepSound.{by_runner, wake_all_clock, wake_all_out, wake_all_in, wake_all_length, of_queued_from, caller_taken}
use Rattle.rules.proofs.AddLaws.{nth_old, nth_new, nth_further}

-- where a wait that begins with a call stands, and its time
abbrev pub place_for : State → C.Call → Place
place_for s (Create p n) = Blank
place_for s (Delay d) = Delayed
place_for s (Call g e m) = Queued (waiting g e)
place_for s (Select o m) = Accepting (offer o)
place_for s End = Blank
place_for s Finish = Blank
place_for s Tick = Blank
place_for s (Advance n) = Blank

abbrev pub timer_in : ℕ → ℕ → Timer
timer_in now zero = Off
timer_in now (suc d) = Due (after now (suc d))

-- the answer says that a wait of u begins
abbrev pub starts : ℕ → Item → Bool
starts u a = eqb a.result WAITS && eqb a.task u

pub data Fate (s : State) (c : C.Call) (u : ℕ) (s' : State) (a : Item) (l : List Item) : Type 0 where
  untouched : Alike (task_of s u) (task_of s' u) → reasons u l ≡ [] → starts u a ≡ false → Fate s c u s' a l
  awake : is_waiting (place_of s u) ≡ false → is_waiting (place_of s' u) ≡ false → reasons u l ≡ [] → starts u a ≡ false → Fate s c u s' a l
  began : is_waiting (place_of s u) ≡ false → is_waiting (place_for s c) ≡ true → place_of s' u ≡ place_for s c → timer_of s' u ≡ timer_in s.clock (duration c)
      → reasons u l ≡ [] → starts u a ≡ true → Fate s c u s' a l
  began_held : is_waiting (place_of s u) ≡ false → (m : Meeting) → place_of s' u ≡ Held m → reasons u l ≡ [] → starts u a ≡ true → Fate s c u s' a l
  taken : ticks_of c ≡ 0 → (q : Waiting) (m : Meeting) → place_of s u ≡ Queued q → place_of s' u ≡ Held m → reasons u l ≡ [] → starts u a ≡ false → Fate s c u s' a l
  ran_out : (d : ℕ) → timer_of s u ≡ Due d → left s.clock d ≤ ticks_of c → place_of s' u ≡ Ready → reasons u l ≡ expiry (place_of s u) ∷ [] → starts u a ≡ false → Fate s c u s' a l
  accepted : ticks_of c ≡ 0 → (o : Offer) → place_of s u ≡ Accepting o → place_of s' u ≡ Ready → reasons u l ≡ ACCEPTED ∷ [] → starts u a ≡ false → Fate s c u s' a l
  served : c ≡ End → (m : Meeting) → place_of s u ≡ Held m → running s ≡ m.holder → last (held_by s m.holder) ≡ u → place_of s' u ≡ Ready → l ≡ item u SERVED m.entry m.holder ∷ []
      → starts u a ≡ false → Fate s c u s' a l
  given_up : c ≡ Finish → (q : Waiting) → place_of s u ≡ Queued q → a.task ≡ q.target → place_of s' u ≡ Ready → reasons u l ≡ TASKING_ERROR ∷ [] → starts u a ≡ false
      → Fate s c u s' a l

abbrev pub FateOf : State → C.Call → ℕ → Outcome → Type 0
FateOf s c u (refused r) = Unit {0}
FateOf s c u (took s' a l) = Fate s c u s' a l

-- ── the running task waits; nothing happens ──

wait_fate : (s : State) (c : C.Call) (u t : ℕ) (p : Place) (w : Timer) → Runs s t → is_waiting p ≡ true → p ≡ place_for s c → w ≡ timer_in s.clock (duration c)
    → Fate s c u (move s t p w) (item t WAITS 0 0) []
wait_fate s c u t p w r y e f =
    by_eq u t
    (λ z. rw z (began (rw r.place) (rw (← e) y) (place_same s t p w r.low r.high ∙ e) (ap (λ (x : Task). x.timer) (task_same s t p w r.low r.high) ∙ f) refl (eq-eqb t t refl)))
    (λ n. untouched (alike (task_other s t p w u n)) refl (ne_eqb t u (λ z. n (sym z))))

-- ── DELAY ──

delay_fate : (s : State) (d : ℤ) (u t n : ℕ) → ticks d ≡ n → Runs s t → FateOf s (Delay d) u (delay_for s t n)
delay_fate s d u t zero e r =
    by_eq u t
    (λ z. rw z (awake (rw r.place) (rw (place_same s t Ready Off r.low r.high)) refl refl))
    (λ n. untouched (alike (task_other s t Ready Off u n)) refl refl)
delay_fate s d u t (suc n) e r = wait_fate s (Delay d) u t Delayed (Due (after s.clock (suc n))) r refl refl (rw e)

-- ── CALL ──

enqueue_fate : (s : State) (u t g e : ℕ) (m : CallMode) (w : Timer) → Runs s t → w ≡ timer_in s.clock (duration (Call g e m)) → FateOf s (Call g e m) u (enqueue s t g e w)
enqueue_fate s u t g e m w r f = wait_fate s (Call g e m) u t (Queued (waiting g e)) w r refl refl f

busy_fate : (s : State) (u t g e : ℕ) (m : CallMode) → Runs s t → FateOf s (Call g e m) u (call_busy s t g e m)
busy_fate s u t g e Simple r = enqueue_fate s u t g e Simple Off r refl
busy_fate s u t g e (Timed d) r = go (ticks d) refl
  where
    go : (n : ℕ) → ticks d ≡ n → FateOf s (Call g e (Timed d)) u (timed_call s t g e n)
    go zero z = untouched (alike refl) refl refl
    go (suc n) z = enqueue_fate s u t g e (Timed d) (Due (after s.clock (suc n))) r (rw z)
busy_fate s u t g e Conditional r = untouched (alike refl) refl refl

pub accepts_is : (p : Place) (e : ℕ) → accepts p e ≡ true → (o : Offer) × (p ≡ Accepting o)
accepts_is (Accepting o) e h = (o, refl)
accepts_is Blank e h = no (cc)
accepts_is Ready e h = no (cc)
accepts_is Delayed e h = no (cc)
accepts_is (Queued q) e h = no (cc)
accepts_is (Held m) e h = no (cc)
accepts_is Completed e h = no (cc)

call_fate : (s : State) (u t g e : ℕ) (m : CallMode) → Runs s t → FateOf s (Call g e m) u (call s t g e m)
call_fate s u t g e m r =
    by_test P (not (is_task s g)) (λ _. tt) λ b1.
    by_test P (not (has_entry (task_of s g) e)) (λ _. tt) λ b2.
    by_test P (is_completed (place_of s g)) (λ _. untouched (alike refl) refl refl) λ b3.
    by_test P (accepts (place_of s g) e) (λ b4. let i = between g (created s) (not-false _ b1) in met i.0 i.1 (accepts_is (place_of s g) e b4)) (λ _. busy_fate s u t g e m r)
  where
    P : Outcome → Type 0
    P = FateOf s (Call g e m) u

    met : 0 < g → g ≤ length s.tasks → (o : Offer) × (place_of s g ≡ Accepting o) → Fate s (Call g e m) u (meet (wake s g) g t e) (item t WAITS 0 0) (item g ACCEPTED e t ∷ [])
    met i j q =
        let fit : t ≤ length (wake s g).tasks = omega (arith, r.high, length_move s g Ready Off) in
        let fits : g ≤ length (wake s g).tasks = omega (arith, j, length_move s g Ready Off) in
        let apart : g ≡ t → ⊥ = λ z. let v = r.place in let w = q.1 in no (cc) in
        by_eq u t
        (λ z. rw z (began_held (rw r.place) (meeting g e (current_of (wake s g) g)) (meet_same (wake s g) g t i fits r.low fit e) (rw (ne_eqb g t apart)) (eq-eqb t t refl)))
        (λ n. by_eq u g
        (λ z. rw z (accepted refl q.0 q.1 ((meet_other (wake s g) g t i fits r.low fit e g apart).place ∙ place_same s g Ready Off i j) (rw (eq-eqb g g refl)) (ne_eqb t g (λ y. apart (sym y)))))
        (λ k. untouched (alike_trans (alike (task_other s g Ready Off u k)) (meet_other (wake s g) g t i fits r.low fit e u n)) (rw (ne_eqb g u (λ z. k (sym z)))) (ne_eqb t u (λ z. n (sym z)))))

-- ── SELECT ──

none_fate : (s : State) (u t o : ℕ) (m : SelectMode) → Runs s t → FateOf s (Select o m) u (select_none s t o m)
none_fate s u t o Plain r = by_test (FateOf s (Select o Plain) u) (eqb o 0) (λ _. untouched (alike refl) refl refl) (λ z. wait_fate s (Select o Plain) u t (Accepting (offer o)) Off r refl refl refl)
none_fate s u t o (S.Delay d) r = go (ticks d) refl
  where
    go : (n : ℕ) → ticks d ≡ n → FateOf s (Select o (S.Delay d)) u (select_delay s t o n)
    go zero z = untouched (alike refl) refl refl
    go (suc n) z = wait_fate s (Select o (S.Delay d)) u t (Accepting (offer o)) (Due (after s.clock (suc n))) r refl refl (rw z)
none_fate s u t o Else r = untouched (alike refl) refl refl

select_fate : (s : State) (u t o : ℕ) (m : SelectMode) → Runs s t → FateOf s (Select o m) u (select s t o m)
select_fate s u t o m r = by_test (FateOf s (Select o m) u) (leb (2 ^ (task_of s t).entries) o) (λ _. tt) (λ _. go (open_entry s t o) refl)
  where
    go : (n : ℕ) → open_entry s t o ≡ n → FateOf s (Select o m) u (select_at s t o m n)
    go zero z = none_fate s u t o m r
    go (suc e) z =
        let c = first (queue s t (suc e)) in
        let q = caller_taken s t o e z in
        let i = queued_there s c q.0 q.1 in
        by_eq u c
        (λ y. taken refl q.0 (meeting t (suc e) (current_of s t)) (ap (place_of s) y ∙ q.1) (ap (place_of (meet s t c (suc e))) y ∙ meet_same s t c r.low r.high i.0 i.1 (suc e)) refl refl)
        (λ n. untouched (meet_other s t c r.low r.high i.0 i.1 (suc e) u n) refl refl)

-- ── END ──

end_fate : (s : State) (u t : ℕ) → running s ≡ t → Runs s t → FateOf s End u (end s t)
end_fate s u t run r = go (last (held_by s t)) refl
  where
    go : (c : ℕ) → last (held_by s t) ≡ c → FateOf s End u (end_last s t c)
    go zero e = tt
    go (suc c) e =
        let q = of_held s (suc c) t (last_in c (held_by s t) e) in
        let i = held_there s (suc c) q.0 q.1 in
        let m = q.0 in let y : t ≡ m.holder = sym q.2 in
        by_eq u (suc c)
        (λ z. rw z (served refl m q.1 (run ∙ y) (rw y at e) (part_same s t (suc c) r.low r.high i.0 i.1) (ap (λ (p : Place). item (suc c) SERVED (entry_of p) t ∷ []) q.1 ∙ ap (λ (x : ℕ). item (suc c) SERVED m.entry x ∷ []) y) refl))
        (λ n. untouched (part_other s t (suc c) r.low r.high i.0 i.1 u n) (rw (ne_eqb (suc c) u (λ z. n (sym z)))) refl)

-- ── FINISH ──

pub queue_once : (s : State) (u t e : ℕ) → Sound s → count u (queue s t e) ≤ 1
queue_once s u t e h = omega (arith, count_filter_le (waits_on s t e) u s.callers, h.callers u, bit_le (is_queued (place_of s u)))

queue_other : (s : State) (u t e : ℕ) → (entry_of (place_of s u) ≡ e → ⊥) → count u (queue s t e) ≡ 0
queue_other s u t e n = not_in u (queue s t e) (λ k. let q = of_queue s u t e k in n (ap entry_of q.1 ∙ q.3))

past : (s : State) (u t k e : ℕ) → entry_of (place_of s u) < e → count u (queued_from s t k e) ≡ 0
past s u t zero e h = refl
past s u t (suc k) e h = omega (arith, count_append u (queue s t e) (queued_from s t k (suc e)), queue_other s u t e (λ z. omega arith), past s u t k (suc e) (omega arith))

pub queued_once : (s : State) (u t k e : ℕ) → Sound s → count u (queued_from s t k e) ≤ 1
queued_once s u t zero e h = omega arith
queued_once s u t (suc k) e h =
    by_eq (entry_of (place_of s u)) e
    (λ z. omega (arith, count_append u (queue s t e) (queued_from s t k (suc e)), queue_once s u t e h, past s u t k (suc e) (omega (arith, z))))
    (λ n. omega (arith, count_append u (queue s t e) (queued_from s t k (suc e)), queue_other s u t e n, queued_once s u t k (suc e) h))

finish_fate : (s : State) (u t : ℕ) → Sound s → Runs s t → FateOf s Finish u (finish s t)
unfolding queued_on
finish_fate s u t h r = by_test (FateOf s Finish u) (ltb 0 (length (held_by s t))) (λ _. tt) (λ _. by_member u l woken other)
  where
    l : List ℕ
    l = queued_from s t 8 1

    apart : (v : ℕ) → 0 < count v l → v ≡ t → ⊥
    apart v k z = let q = (of_queued_from s v t 8 1 k).1 in let p = r.place in no (cc)

    woken : 0 < count u l → Fate s Finish u (move (wake_all s l) t Completed Off) (item t DONE 0 0) (map (failed s) l)
    woken k =
        let q = of_queued_from s u t 8 1 k in
        let i = queued_there s u q.0 q.1 in
        given_up refl q.0 q.1 (sym q.2)
        (place_other (wake_all s l) t Completed Off u (apart u k) ∙ (wake_all_in l s u i.0 i.1 k).0)
        (reasons_one (failed s) (λ x. refl) u l (omega (arith, k, queued_once s u t 8 1 h))) refl

    other : count u l ≡ 0 → Fate s Finish u (move (wake_all s l) t Completed Off) (item t DONE 0 0) (map (failed s) l)
    other k =
        by_eq u t
        (λ z. awake (rw (z, r.place)) (rw (z, place_same (wake_all s l) t Completed Off r.low (omega (arith, r.high, wake_all_length l s)))) (reasons_none (failed s) (λ x. refl) u l k) refl)
        (λ n. untouched (alike (task_other (wake_all s l) t Completed Off u n ∙ wake_all_out l s u k)) (reasons_none (failed s) (λ x. refl) u l k) refl)

-- ── TICK and ADVANCE ──

pass_fate : (s : State) (c : C.Call) (u n k : ℕ) (s' : State) (l : List Item) → ticks_of c ≡ n → Passes s n u s' l → Fate s c u s' (item 0 DONE k 0) l
pass_fate s c u n k s' l e (stays q f r) = untouched (alike q) r refl
pass_fate s c u n k s' l e (comes d q j p t r) = ran_out d q (rw e j) p r refl

-- ── CREATE, and every call ──

create_fate : (s : State) (u p n : ℕ) → FateOf s (Create p n) u (create s p n)
create_fate s u p n =
    by_test (FateOf s (Create p n) u) (not (in_range p n)) (λ _. tt) λ b1.
    by_test (FateOf s (Create p n) u) (leb 31 (created s)) (λ _. tt) λ b2.
    by_bool (leb u (created s))
    (λ e. untouched (alike (nth_old s.tasks x u (leb-true u (created s) e))) refl refl)
    (λ e. let k = leb-false u (created s) e in
    by_eq u (suc (created s))
    (λ z. awake (ap (λ (y : Task). is_waiting y.place) (nth_beyond s.tasks u k)) (ap (λ (y : Task). is_waiting y.place) (ap (nth (s.tasks ++ (x ∷ []))) z ∙ nth_new s.tasks x)) refl refl)
    (λ m. untouched (alike (nth_further s.tasks x u (omega (arith, k, m)) ∙ sym (nth_beyond s.tasks u k))) refl refl))
  where
    x : Task
    x = fresh p n

pub fate : (s : State) (c : C.Call) (u : ℕ) → Sound s → FateOf s c u (take_call s c)
fate s (Create p n) u h = create_fate s u p n
fate s (Delay d) u h = by_runner (FateOf s (Delay d) u) s (λ t. delay_for s t (ticks d)) h tt (λ t e r. delay_fate s d u t (ticks d) refl r)
fate s (Call g e m) u h = by_runner (FateOf s (Call g e m) u) s (λ t. call s t g e m) h tt (λ t z r. call_fate s u t g e m r)
fate s (Select o m) u h = by_runner (FateOf s (Select o m) u) s (λ t. select s t o m) h tt (λ t z r. select_fate s u t o m r)
fate s End u h = by_runner (FateOf s End u) s (λ t. end s t) h tt (λ t e r. end_fate s u t e r)
fate s Finish u h = by_runner (FateOf s Finish u) s (λ t. finish s t) h tt (λ t e r. finish_fate s u t h r)
fate s Tick u h = pass_fate s Tick u 1 0 (tick_to s (after s.clock 1)) (ends_at s (after s.clock 1)) refl (tick_passes s u h)
fate s (Advance n) u h = pass_fate s (Advance n) u n (readings n s) (advanced n s) (advance_ends n s) refl (advance_passes n s u h)

-- ── the clock, and FINISH ──

abbrev pub clock_after : State → C.Call → ℕ
clock_after s c = later s.clock (ticks_of c)

abbrev pub ClockOf : State → C.Call → Outcome → Type 0
ClockOf s c (refused r) = Unit {0}
ClockOf s c (took s' a l) = s'.clock ≡ clock_after s c

pub clock_of : (s : State) (c : C.Call) → Sound s → ClockOf s c (take_call s c)
clock_of s (Create p n) h = by_test P (not (in_range p n)) (λ _. tt) λ b1. by_test P (leb 31 (created s)) (λ _. tt) (λ b2. refl)
  where
    P : Outcome → Type 0
    P = ClockOf s (Create p n)
clock_of s (Delay d) h = by_runner (ClockOf s (Delay d)) s (λ t. delay_for s t (ticks d)) h tt (λ t e r. go t (ticks d))
  where
    go : (t n : ℕ) → ClockOf s (Delay d) (delay_for s t n)
    go t zero = refl
    go t (suc n) = refl
clock_of s (Call g e m) h = by_runner P s (λ t. call s t g e m) h tt (λ t z r.
    by_test P (not (is_task s g)) (λ _. tt) λ b1.
    by_test P (not (has_entry (task_of s g) e)) (λ _. tt) λ b2.
    by_test P (is_completed (place_of s g)) (λ _. refl) λ b3.
    by_test P (accepts (place_of s g) e) (λ b4. refl) (λ b4. busy t m))
  where
    P : Outcome → Type 0
    P = ClockOf s (Call g e m)

    queues : (t : ℕ) (w : Timer) → P (enqueue s t g e w)
    queues t w = refl

    timed : (t n : ℕ) → P (timed_call s t g e n)
    timed t zero = refl
    timed t (suc n) = queues t (Due (after s.clock (suc n)))

    busy : (t : ℕ) (k : CallMode) → P (call_busy s t g e k)
    busy t Simple = queues t Off
    busy t (Timed d) = timed t (ticks d)
    busy t Conditional = refl
clock_of s (Select o m) h = by_runner P s (λ t. select s t o m) h tt (λ t z r. by_test P (leb (2 ^ (task_of s t).entries) o) (λ _. tt) (λ b. at t (open_entry s t o)))
  where
    P : Outcome → Type 0
    P = ClockOf s (Select o m)

    timed : (t n : ℕ) → P (select_delay s t o n)
    timed t zero = refl
    timed t (suc n) = refl

    none : (t : ℕ) (k : SelectMode) → P (select_none s t o k)
    none t Plain = by_test P (eqb o 0) (λ _. refl) (λ _. refl)
    none t (S.Delay d) = timed t (ticks d)
    none t Else = refl

    at : (t n : ℕ) → P (select_at s t o m n)
    at t zero = none t m
    at t (suc e) = refl
clock_of s End h = by_runner P s (λ t. end s t) h tt (λ t z r. go t (last (held_by s t)))
  where
    P : Outcome → Type 0
    P = ClockOf s End

    go : (t c : ℕ) → P (end_last s t c)
    go t zero = tt
    go t (suc c) = refl
clock_of s Finish h = by_runner P s (λ t. finish s t) h tt (λ t z r. by_test P (ltb 0 (length (held_by s t))) (λ _. tt) (λ _. wake_all_clock (queued_on s t) s))
  where
    P : Outcome → Type 0
    P = ClockOf s Finish
clock_of s Tick h = refl
clock_of s (Advance n) h = advance_clock n s h.clock ∙ sym (later_is s.clock n h.clock)

-- whose time has not been dropped waits for more ticks than the call has
abbrev pub LastsOf : State → C.Call → ℕ → ℕ → Outcome → Type 0
LastsOf s c u d (refused r) = Unit {0}
LastsOf s c u d (took s' a l) = timer_of s' u ≡ Due d → ticks_of c < left s.clock d

pub lasts : (s : State) (c : C.Call) (u d : ℕ) → Sound s → timer_of s u ≡ Due d → LastsOf s c u d (take_call s c)
lasts s c u d h q = go c
  where
    still : (c : C.Call) → ticks_of c ≡ 0 → (o : Outcome) → LastsOf s c u d o
    still c e (refused r) = tt
    still c e (took s' a l) = λ z. rw e (in_time s u d h q).0

    passed : (n : ℕ) (s' : State) (l : List Item) → Passes s n u s' l → timer_of s' u ≡ Due d → n < left s.clock d
    passed n s' l (stays e f r) z = f d q
    passed n s' l (comes v w j p t r) z = no (cc)

    go : (c : C.Call) → LastsOf s c u d (take_call s c)
    go (Create p n) = still (Create p n) refl (take_call s (Create p n))
    go (Delay w) = still (Delay w) refl (take_call s (Delay w))
    go (Call g e m) = still (Call g e m) refl (take_call s (Call g e m))
    go (Select o m) = still (Select o m) refl (take_call s (Select o m))
    go End = still End refl (take_call s End)
    go Finish = still Finish refl (take_call s Finish)
    go Tick = passed 1 (tick_to s (after s.clock 1)) (ends_at s (after s.clock 1)) (tick_passes s u h)
    go (Advance n) = passed n (advanced n s) (advance_ends n s) (advance_passes n s u h)

abbrev pub Finished : Outcome → Type 0
Finished (refused r) = Unit {0}
Finished (took s' a l) = is_completed (place_of s' a.task) ≡ true

pub finished : (s : State) → Sound s → Finished (take_call s Finish)
finished s h = by_runner Finished s (λ t. finish s t) h tt (λ t z r. by_test Finished (ltb 0 (length (held_by s t))) (λ _. tt)
    (λ _. rw (place_same (wake_all s (queued_on s t)) t Completed Off r.low (omega (arith, r.high, wake_all_length (queued_on s t) s)))))
