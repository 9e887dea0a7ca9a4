-- Every call keeps soundness.
-- Assumes nothing.
use Prim.Native.Nat.{ℕ, zero, suc, ◌+◌, ◌≤◌, ◌<◌, ◌^◌}
use mathlib.Core.Path.{◌≡◌, refl, sym, ◌∙◌, ap}
use mathlib.Core.Bool.{Bool, true, false, not, ◌&&◌}
use mathlib.Core.List.{List, [], ◌∷◌}
use native.Mathlib.Omega.{arith}
use lib.IntN.{ℤ, pos, negsuc}
use lib.ListN.{length}
use lib.Dec.{eqb, ltb, leb}
use borrow.Author.Tests.{eqb-true, eqb-false, eq-eqb, ne_eqb, ltb-true, ltb-false, leb-true, leb-false, not-false, lt-ltb}
use Rattle.lists.specs.Lists.{count, first, last}
use Rattle.rules.specs.State.{State, task_of, place_of, timer_of, created, is_task, has_entry, is_completed, accepts, opens, has_time, ticks_left, left, after, wake, wake_all, set_clock, queue, held_by, running, waiting, offer}
use Rattle.rules.specs.Sound.{in_range, is_priority}
use Rattle.rules.specs.Step.{Outcome, refused, took, create, delay_for, enqueue, timed_call, call_busy, call, open_from, open_entry, select_delay, select_none, select_at, select, end_last, end, queued_from, queued_on, finish, due_at, is_due, tick, tick_to, advanced, of_running, take_call, ticks}
use Rattle.rules.specs.declared.Refusal.TheVariants.{NoTask}
use Rattle.rules.specs.declared.Task.{Task}
use Rattle.rules.specs.declared.Timer.{Timer}
use Rattle.rules.specs.declared.Timer.TheVariants.{Off, Due}
use Rattle.rules.specs.declared.Meeting.{Meeting}
use Rattle.rules.specs.declared.Waiting.{Waiting}
use Rattle.rules.specs.declared.Place.{Place}
use Rattle.rules.specs.declared.Place.TheVariants.{Ready, Queued, Held}
use Rattle.calls.specs.declared.CallMode.{CallMode}
use Rattle.calls.specs.declared.CallMode.TheVariants.{Simple, Timed, Conditional}
use Rattle.calls.specs.declared.SelectMode.{SelectMode}
use Rattle.calls.specs.declared.SelectMode.TheVariants.{Plain, Else}
use Rattle.calls.specs.declared.SelectMode.TheVariants as S
use Rattle.calls.specs.declared.Call as C
use Rattle.calls.specs.declared.Call.TheVariants.{Create, Delay, Call, Select, End, Finish, Tick, Advance}
use Rattle.lists.proofs.ListLaws.{by_eq, by_bool, by_test, by_member, count_append, count_filter_yes, ordered_cong}
use Rattle.lists.proofs.Tests.{no, each, between, and_second, and_fails}
use Rattle.rules.proofs.Invariant.{Calls, InTime, Sound}
use Rattle.rules.proofs.Members.{WaitsOn, in_filter, first_member, some_length, in_queue, of_queue, queued_good, queued_there, of_held, in_held, held_there, last_in, timed_there, bit_true, Runs, runs}
use Rattle.rules.proofs.AddLaws.{add_sound}
use Rattle.rules.proofs.MoveLaws.{wake_sound, delay_sound, queue_sound, meet_sound, part_sound, accept_sound, complete_sound, moved, task_same, task_other, length_move}

abbrev pub Kept : Outcome → Type 0
Kept (refused r) = Unit {0}
Kept (took s a l) = Sound s

-- ── the clock ──

pub left_after : (now d : ℕ) → now < 4294967296 → d < 4294967296 → left now (after now d) ≡ d
left_after now d h k = omega arith

pub due_later : (now d : ℕ) → now < 4294967296 → suc d ≤ 2147483647 → InTime now (Due (after now (suc d)))
due_later now d h k = rw (left_after now (suc d) h (omega arith)) (omega arith, k, omega arith)

-- ── DELAY ──

pub ticks_small : (d : ℤ) → ticks d ≤ 2147483647
ticks_small (pos n) = by_test (λ (x : ℕ). x ≤ 2147483647) (leb n 2147483647) (λ e. leb-true n 2147483647 e) (λ _. omega arith)
ticks_small (negsuc n) = omega arith

pub delay_kept : (s : State) (t d : ℕ) → Sound s → Runs s t → d ≤ 2147483647 → Kept (delay_for s t d)
delay_kept s t zero h r k = wake_sound s t r.low r.high h
delay_kept s t (suc d) h r k = delay_sound s t (after s.clock (suc d)) r.low r.high h (due_later s.clock d h.clock k)

-- ── CALL ──

enqueue_kept : (s : State) (t g e : ℕ) (w : Timer) → Sound s → Runs s t → Calls (task_of s g) e → accepts (place_of s g) e ≡ false → InTime s.clock w → Kept (enqueue s t g e w)
enqueue_kept s t g e w h r c a i = queue_sound s t (waiting g e) w r.low r.high h c a i

busy_kept : (s : State) (t g e : ℕ) (m : CallMode) → Sound s → Runs s t → Calls (task_of s g) e → accepts (place_of s g) e ≡ false → Kept (call_busy s t g e m)
busy_kept s t g e Simple h r c a = enqueue_kept s t g e Off h r c a tt
busy_kept s t g e (Timed d) h r c a = go (ticks d) (ticks_small d)
  where
    go : (n : ℕ) → n ≤ 2147483647 → Kept (timed_call s t g e n)
    go zero j = h
    go (suc n) j = enqueue_kept s t g e (Due (after s.clock (suc n))) h r c a (due_later s.clock n h.clock j)
busy_kept s t g e Conditional h r c a = h

pub call_kept : (s : State) (t g e : ℕ) (m : CallMode) → Sound s → Runs s t → Kept (call s t g e m)
call_kept s t g e m h r =
    by_test Kept (not (is_task s g)) (λ _. tt) λ b1.
    by_test Kept (not (has_entry (task_of s g) e)) (λ _. tt) λ b2.
    by_test Kept (is_completed (place_of s g)) (λ _. h) λ b3.
    let i = between g (created s) (not-false _ b1) in
    let j = between e (task_of s g).entries (not-false _ b2) in
    by_test Kept (accepts (place_of s g) e)
    (λ b4. meet_sound (wake s g) g t i.0 (omega (arith, i.1, length_move s g Ready Off)) r.low (omega (arith, r.high, length_move s g Ready Off)) e (wake_sound s g i.0 i.1 h)
    (rw (task_same s g Ready Off i.0 i.1) (record { low = j.0; high = j.1; alive = refl })))
    (λ b4. busy_kept s t g e m h r (record { low = j.0; high = j.1; alive = b3 }) b4)

-- ── SELECT ──

none_open : (s : State) (t o k e : ℕ) → open_from s t o k e ≡ 0 → 0 < e → (j : ℕ) → e ≤ j → j < e + k → (opens o j && ltb 0 (length (queue s t j))) ≡ false
none_open s t o zero e h p j a b = absurd (omega arith)
none_open s t o (suc k) e h p j a b = go (opens o e && ltb 0 (length (queue s t e))) refl h (λ i. none_open s t o k (suc e) i (omega arith) j)
  where
    go : (b : Bool) → (opens o e && ltb 0 (length (queue s t e))) ≡ b → ◌≡◌ {A = ℕ} (elim b as (λ _. ℕ) [ true ↦ e | false ↦ open_from s t o k (suc e) ]) 0
        → (open_from s t o k (suc e) ≡ 0 → suc e ≤ j → j < suc e + k → (opens o j && ltb 0 (length (queue s t j))) ≡ false) → (opens o j && ltb 0 (length (queue s t j))) ≡ false
    go true q i f = absurd (omega arith)
    go false q i f = by_eq j e (λ z. rw z q) (λ n. f i (omega arith) (omega arith))

one_open : (s : State) (t o k e n : ℕ) → open_from s t o k e ≡ suc n → (opens o (suc n) && ltb 0 (length (queue s t (suc n)))) ≡ true
one_open s t o zero e n h = absurd (omega arith)
one_open s t o (suc k) e n h = go (opens o e && ltb 0 (length (queue s t e))) refl h (one_open s t o k (suc e) n)
  where
    go : (b : Bool) → (opens o e && ltb 0 (length (queue s t e))) ≡ b → elim b as (λ _. ℕ) [ true ↦ e | false ↦ open_from s t o k (suc e) ] ≡ suc n
        → (open_from s t o k (suc e) ≡ suc n → (opens o (suc n) && ltb 0 (length (queue s t (suc n)))) ≡ true) → (opens o (suc n) && ltb 0 (length (queue s t (suc n)))) ≡ true
    go true q i f = rw i at q
    go false q i f = f i

-- the caller whom a SELECT takes waits on the entry that is taken
pub caller_taken : (s : State) (t o e : ℕ) → open_entry s t o ≡ suc e → WaitsOn (place_of s (first (queue s t (suc e)))) t (suc e)
unfolding open_entry
caller_taken s t o e z =
    let l = queue s t (suc e) in
    of_queue s (first l) t (suc e) (first_member l (ltb-true 0 (length l) (and_second (opens o (suc e)) (ltb 0 (length l)) (one_open s t o 8 1 e z))))

select_none_kept : (s : State) (t o : ℕ) (m : SelectMode) → Sound s → Runs s t → o < 2 ^ (task_of s t).entries → ((u : ℕ) (q : Waiting) → place_of s u ≡ Queued q → q.target ≡ t → opens o q.entry ≡ false)
    → Kept (select_none s t o m)
select_none_kept s t o Plain h r b q = by_test Kept (eqb o 0) (λ _. h) (λ z. accept_sound s t (offer o) Off r.low r.high h b (λ i. absurd (eqb-false o 0 z i)) tt q)
select_none_kept s t o (S.Delay d) h r b q = go (ticks d) (ticks_small d)
  where
    go : (n : ℕ) → n ≤ 2147483647 → Kept (select_delay s t o n)
    go zero j = h
    go (suc n) j = accept_sound s t (offer o) (Due (after s.clock (suc n))) r.low r.high h b (λ _. refl) (due_later s.clock n h.clock j) q
select_none_kept s t o Else h r b q = h

pub select_kept : (s : State) (t o : ℕ) (m : SelectMode) → Sound s → Runs s t → Kept (select s t o m)
unfolding open_entry
select_kept s t o m h r = by_test Kept (leb (2 ^ (task_of s t).entries) o) (λ _. tt) (λ b. go (open_entry s t o) refl (leb-false (2 ^ (task_of s t).entries) o b))
  where
    shut : open_entry s t o ≡ 0 → (u : ℕ) (q : Waiting) → place_of s u ≡ Queued q → q.target ≡ t → opens o q.entry ≡ false
    shut z u q y g =
        let e = q.entry in
        let c : Calls (task_of s t) e = rw g at (queued_good s u q h y) in
        let i : 0 < count u (queue s t e) = rw g at (in_queue s u q h y) in
        and_fails (opens o e) (ltb 0 (length (queue s t e))) (none_open s t o 8 1 z (omega arith) e c.low (omega (arith, c.high, (h.good t r.low r.high).numbers.few)))
        (lt-ltb 0 (length (queue s t e)) (some_length u (queue s t e) i))

    go : (n : ℕ) → open_entry s t o ≡ n → o < 2 ^ (task_of s t).entries → Kept (select_at s t o m n)
    go zero z b = select_none_kept s t o m h r b (shut z)
    go (suc e) z b =
        let c = first (queue s t (suc e)) in
        let q = caller_taken s t o e z in
        let i = queued_there s c q.0 q.1 in
        meet_sound s t c r.low r.high i.0 i.1 (suc e) h (rw (q.2, q.3) at (queued_good s c q.0 h q.1))

-- ── END ──

pub end_kept : (s : State) (t : ℕ) → Sound s → Runs s t → Kept (end s t)
end_kept s t h r = go (last (held_by s t)) refl
  where
    go : (c : ℕ) → last (held_by s t) ≡ c → Kept (end_last s t c)
    go zero e = tt
    go (suc c) e =
        let q = of_held s (suc c) t (last_in c (held_by s t) e) in
        let i = held_there s (suc c) q.0 q.1 in
        part_sound s t (suc c) r.low r.high i.0 i.1 q.0 q.1 (rw r.place) h

-- ── wakeAll ──

pub wake_all_length : (l : List ℕ) (s : State) → length (wake_all s l).tasks ≡ length s.tasks
wake_all_length [] s = refl
wake_all_length (x ∷ xs) s = wake_all_length xs (wake s x) ∙ length_move s x Ready Off

pub wake_all_clock : (l : List ℕ) (s : State) → (wake_all s l).clock ≡ s.clock
wake_all_clock [] s = refl
wake_all_clock (x ∷ xs) s = wake_all_clock xs (wake s x)

pub wake_all_out : (l : List ℕ) (s : State) (u : ℕ) → count u l ≡ 0 → task_of (wake_all s l) u ≡ task_of s u
wake_all_out [] s u h = refl
wake_all_out (x ∷ xs) s u h =
    wake_all_out xs (wake s x) u (omega arith) ∙ task_other s x Ready Off u (λ e. omega (arith, h, rw (eq-eqb x u (sym e)) at h))

pub wake_all_in : (l : List ℕ) (s : State) (u : ℕ) → 0 < u → u ≤ length s.tasks → 0 < count u l → (place_of (wake_all s l) u ≡ Ready) × (timer_of (wake_all s l) u ≡ Off)
wake_all_in [] s u p q h = absurd (omega arith)
wake_all_in (x ∷ xs) s u p q h =
    by_member u xs (wake_all_in xs (wake s x) u p (omega (arith, length_move s x Ready Off)))
    (λ z. by_eq x u
    (λ e. let y : task_of (wake_all (wake s x) xs) u ≡ moved s u Ready Off = wake_all_out xs (wake s x) u z ∙ rw e (task_same s u Ready Off p q) in (ap (λ (y : Task). y.place) y, ap (λ (y : Task). y.timer) y))
    (λ n. absurd (omega (arith, z, rw (ne_eqb x u n) at h))))

pub wake_all_sound : (l : List ℕ) (s : State) → Sound s → ((u : ℕ) → 0 < count u l → (0 < u) × (u ≤ length s.tasks)) → Sound (wake_all s l)
wake_all_sound [] s h k = h
wake_all_sound (x ∷ xs) s h k =
    let i = k x (rw (eq-eqb x x refl) (omega arith)) in
    wake_all_sound xs (wake s x) (wake_sound s x i.0 i.1 h) (λ u j. ((k u (omega arith)).0, omega (arith, (k u (omega arith)).1, length_move s x Ready Off)))

-- ── FINISH ──

in_queued_from : (s : State) (u t j k e : ℕ) → e ≤ j → j < e + k → count u (queue s t j) ≤ count u (queued_from s t k e)
in_queued_from s u t j zero e a b = absurd (omega arith)
in_queued_from s u t j (suc k) e a b =
    by_eq j e
    (λ z. rw z (omega (arith, count_append u (queue s t e) (queued_from s t k (suc e)))))
    (λ n. omega (arith, count_append u (queue s t e) (queued_from s t k (suc e)), in_queued_from s u t j k (suc e) (omega arith) (omega arith)))

-- the place of a caller that waits on some entry of task t
abbrev pub Calling : Place → ℕ → Type 0
Calling p t = (q : Waiting) × (p ≡ Queued q) × (q.target ≡ t)

pub of_queued_from : (s : State) (u t k e : ℕ) → 0 < count u (queued_from s t k e) → Calling (place_of s u) t
of_queued_from s u t zero e h = absurd (omega arith)
of_queued_from s u t (suc k) e h =
    by_member u (queue s t e) (λ i. let q = of_queue s u t e i in (q.0, q.1, q.2))
    (λ z. of_queued_from s u t k (suc e) (omega (arith, z, count_append u (queue s t e) (queued_from s t k (suc e)))))

pub finish_kept : (s : State) (t : ℕ) → Sound s → Runs s t → Kept (finish s t)
unfolding queued_on
finish_kept s t h r = by_test Kept (ltb 0 (length (held_by s t))) (λ _. tt) (λ b. complete_sound (wake_all s l) t r.low (omega (arith, r.high, wake_all_length l s)) (wake_all_sound l s h in_l) nobody (free b))
  where
    l : List ℕ
    l = queued_from s t 8 1

    in_l : (u : ℕ) → 0 < count u l → (0 < u) × (u ≤ length s.tasks)
    in_l u k = let q = of_queued_from s u t 8 1 k in queued_there s u q.0 q.1

    -- who is not ready afterwards was not woken
    stays : (u : ℕ) → (place_of (wake_all s l) u ≡ Ready → ⊥) → place_of (wake_all s l) u ≡ place_of s u
    stays u n = by_member u l (λ k. let i = in_l u k in absurd (n (wake_all_in l s u i.0 i.1 k).0)) (λ z. ap (λ (x : Task). x.place) (wake_all_out l s u z))

    nobody : (u : ℕ) (a : Waiting) → place_of (wake_all s l) u ≡ Queued a → a.target ≡ t → ⊥
    nobody u a q g =
        let w = sym (stays u (λ z. no (cc))) ∙ q in
        let c : Calls (task_of s t) a.entry = rw g at (queued_good s u a h w) in
        let n : 0 < count u (queue s t a.entry) = rw g at (in_queue s u a h w) in
        let i = queued_there s u a w in
        let f = in_queued_from s u t a.entry 8 1 c.low (omega (arith, c.high, (h.good t r.low r.high).numbers.few)) in
        let v = (wake_all_in l s u i.0 i.1 (omega (arith, n, f))).0 in no (cc)

    free : ltb 0 (length (held_by s t)) ≡ false → (u : ℕ) (m : Meeting) → place_of (wake_all s l) u ≡ Held m → m.holder ≡ t → ⊥
    free b u m q y =
        let w = sym (stays u (λ z. no (cc))) ∙ q in
        omega (arith, ltb-false 0 (length (held_by s t)) b, some_length u (held_by s t) (rw y at (in_held s u m h w)))

-- ── TICK ──

pub tick_left : (now d : ℕ) → now < 4294967296 → d < 4294967296 → (d ≡ after now 1 → ⊥) → 0 < left now d → left (after now 1) d + 1 ≡ left now d
tick_left now d a b n p = omega arith

not_last : (now d : ℕ) → now < 4294967296 → d < 4294967296 → (d ≡ after now 1 → ⊥) → 0 < left now d → 0 < left (after now 1) d
not_last now d a b n p = omega arith

-- nobody is due at the next reading: the clock may go on
pub clock_sound : (s : State) → Sound s → ((u : ℕ) → is_due (after s.clock 1) (timer_of s u) ≡ false) → Sound (set_clock s (after s.clock 1))
clock_sound s h n = record {
  clock = omega arith;
  few = h.few;
  good = λ u a b. let g = h.good u a b in record { numbers = g.numbers; place = g.place; time = later (timer_of s u) (n u) g.time };
  ready = h.ready;
  callers = h.callers;
  held = h.held;
  delays = h.delays;
  order = ordered_cong (λ u. ticks_left s.clock (timer_of s u)) (λ u. ticks_left (after s.clock 1) (timer_of s u)) s.delays
      (λ x y i j k. omega (arith, one_less x i, one_less y j, k)) h.order;
}
  where
    less : (w : Timer) → is_due (after s.clock 1) w ≡ false → InTime s.clock w → has_time w ≡ true → ticks_left (after s.clock 1) w + 1 ≡ ticks_left s.clock w
    less Off m i e = cc
    less (Due d) m i e = tick_left s.clock d h.clock i.2 (eqb-false d (after s.clock 1) m) i.0

    later : (w : Timer) → is_due (after s.clock 1) w ≡ false → InTime s.clock w → InTime (after s.clock 1) w
    later Off m i = tt
    later (Due d) m i =
        let n : d ≡ after s.clock 1 → ⊥ = eqb-false d (after s.clock 1) m in
        let e = tick_left s.clock d h.clock i.2 n i.0 in
        (not_last s.clock d h.clock i.2 n i.0, omega (arith, e, i.1), i.2)

    one_less : (u : ℕ) → 0 < count u s.delays → ticks_left (after s.clock 1) (timer_of s u) + 1 ≡ ticks_left s.clock (timer_of s u)
    one_less u k =
        let t = bit_true (has_time (timer_of s u)) (omega (arith, h.delays u)) in
        let i = timed_there s u t in
        less (timer_of s u) (n u) (h.good u i.0 i.1).time t

pub due_is : (n : ℕ) (w : Timer) → is_due n w ≡ true → w ≡ Due n
due_is n Off e = cc
due_is n (Due d) e = ap Due (eqb-true d n e)

pub tick_kept : (s : State) → Sound s → Kept (tick s)
tick_kept s h =
    rw (wake_all_clock l s) at (clock_sound (wake_all s l) (wake_all_sound l s h in_l) not-due)
  where
    n : ℕ
    n = after s.clock 1

    l : List ℕ
    l = due_at s n

    timed : (u : ℕ) → 0 < count u l → timer_of s u ≡ Due n
    timed u k = due_is n (timer_of s u) (in_filter (λ t. is_due n (timer_of s t)) u s.delays k).0

    in_l : (u : ℕ) → 0 < count u l → (0 < u) × (u ≤ length s.tasks)
    in_l u k = timed_there s u (rw (timed u k))

    not-due : (u : ℕ) → is_due (after (wake_all s l).clock 1) (timer_of (wake_all s l) u) ≡ false
    not-due u =
        rw (wake_all_clock l s)
        (by_member u l
        (λ k. rw (wake_all_in l s u (in_l u k).0 (in_l u k).1 k).1)
        (λ z. rw (ap (λ (x : Task). x.timer) (wake_all_out l s u z))
        (by_bool (is_due n (timer_of s u))
        (λ e. absurd (omega (arith, z, count_filter_yes (λ t. is_due n (timer_of s t)) u s.delays e, rw (due_is n (timer_of s u) e) at (h.delays u))))
        (λ e. e))))

-- ── ADVANCE ──

pub advance_kept : (n : ℕ) (s : State) → Sound s → Sound (advanced n s)
advance_kept zero s h = h
advance_kept (suc n) s h = advance_kept n (tick_to s (after s.clock 1)) (tick_kept s h)

-- ── CREATE ──

pub create_kept : (s : State) (p n : ℕ) → Sound s → Kept (create s p n)
create_kept s p n h =
    by_test Kept (not (in_range p n)) (λ _. tt) λ b1.
    by_test Kept (leb 31 (created s)) (λ _. tt) λ b2.
    let i = each (is_priority p) (leb n 8 ∷ []) (not-false (in_range p n) b1) in
    add_sound s p n h (leb-false 31 (created s) b2) (between p 15 (i 0)) (leb-true n 8 (i 1))

-- ── a call ──

pub by_runner {κ} : (P : Outcome → Type κ) (s : State) (f : ℕ → Outcome) → Sound s → P (refused NoTask) → ((t : ℕ) → running s ≡ t → Runs s t → P (f t)) → P (of_running (running s) f)
by_runner P s f h a b = go (running s) refl
  where
    go : (t : ℕ) → running s ≡ t → P (of_running t f)
    go zero e = a
    go (suc t) e = b (suc t) e (runs s t h e)

pub call_sound : (s : State) (c : C.Call) → Sound s → Kept (take_call s c)
call_sound s (Create p n) h = create_kept s p n h
call_sound s (Delay d) h = by_runner Kept s (λ t. delay_for s t (ticks d)) h tt (λ t e r. delay_kept s t (ticks d) h r (ticks_small d))
call_sound s (Call g e m) h = by_runner Kept s (λ t. call s t g e m) h tt (λ t z r. call_kept s t g e m h r)
call_sound s (Select o m) h = by_runner Kept s (λ t. select s t o m) h tt (λ t e r. select_kept s t o m h r)
call_sound s End h = by_runner Kept s (λ t. end s t) h tt (λ t e r. end_kept s t h r)
call_sound s Finish h = by_runner Kept s (λ t. finish s t) h tt (λ t e r. finish_kept s t h r)
call_sound s Tick h = tick_kept s h
call_sound s (Advance n) h = advance_kept n s h
