-- Waits that end by time at one tick are listed in the order in which they began.
-- Assumes nothing.
use Prim.Native.Nat.{ℕ, zero, suc, ◌+◌, ◌≤◌, ◌<◌, ◌^◌}
use mathlib.Core.Path.{◌≡◌, refl, sym, ◌∙◌, ap}
use mathlib.Core.Logic.{inl, inr}
use mathlib.Core.Bool.{Bool, true, false, not, ◌&&◌}
use mathlib.Core.List.{List, [], ◌∷◌, map}
use native.Mathlib.Omega.{arith}
use lib.ListN.{length}
use lib.Dec.{eqb, ltb, leb}
use borrow.Author.Tests.{eqb-true, eqb-false, eq-eqb, ne_eqb}
use Rattle.lists.specs.Lists.{when◌then◌else◌, count, filter, remove, ahead, last}
use Rattle.lists.proofs.Tests.{no, and_first}
use Rattle.lists.proofs.ListLaws.{clash, by_bool, by_test, count_remove_same, count_remove_other, ordered_filter, ordered_cong}
use Rattle.lists.proofs.AheadLaws.{ahead_filter, ahead_inserted}
use Rattle.rules.specs.State.{State, task_of, place_of, timer_of, created, is_task, has_entry, is_held, is_completed, accepts, after, left, ticks_left, current_of, move, wake, rank, ranked, higher, meeting, held_by}
use Rattle.rules.specs.Sound.{in_range}
use Rattle.rules.specs.Step.{Outcome, refused, took, number, ticks, delay_for, timed_call, call_busy, call, open_entry, select_delay, select_none, select_at, select, end_last, end, finish, expired, is_due, take_call, WAITS, ACCEPTED, SERVED, TASKING_ERROR}
use Rattle.rules.specs.Runs.{Ask, Given, is_waiting, begins, reasons, ended, ticks_of, tick_count, duration, time_reason}
use Rattle.rules.specs.Orders.{TimesInOrder}
use Rattle.rules.specs.Advance.{comes_in}
use Rattle.rules.specs.declared.Item.{Item}
use Rattle.rules.specs.declared.Task.{Task}
use Rattle.rules.specs.declared.Timer.TheVariants.{Off, Due}
use Rattle.rules.specs.declared.Place.{Place}
use Rattle.rules.specs.declared.Place.TheVariants.{Ready, Held}
use Rattle.calls.specs.declared.CallMode.{CallMode}
use Rattle.calls.specs.declared.CallMode.TheVariants.{Simple, Timed, Conditional}
use Rattle.calls.specs.declared.SelectMode.{SelectMode}
use Rattle.calls.specs.declared.SelectMode.TheVariants.{Plain, Else}
use Rattle.calls.specs.declared.SelectMode.TheVariants as S
use Rattle.calls.specs.declared.Call as C
use Rattle.calls.specs.declared.Call.TheVariants.{Create, Delay, Call, Select, End, Finish, Tick, Advance}
use Rattle.rules.proofs.Invariant.{Sound}
use Rattle.rules.proofs.Members.{Runs, there, in_filter}
use Rattle.rules.proofs.MoveLaws.{place_same, task_same, length_move, length_set_nth}
use Rattle.rules.proofs.Passes.{in_time}
use Rattle.rules.proofs.StateRuns.{entry, log_of, reach}
use Rattle.rules.proofs.StepSound.{by_runner, left_after}
use Rattle.rules.proofs.Fate.{place_for, starts, untouched, awake, began, began_held, taken, ran_out, accepted, served, given_up}
use Rattle.rules.proofs.OverRuns.{StepFate, not_taken, was_taken, by_step, step_fate, step_sound, reach_sound, number_pos, duration_small}
use Rattle.rules.proofs.TimedWait.{Pending, Timely, Course, still, over, course, timely, held_ends, reason_not}
use Rattle.rules.proofs.AtOnce.{at_once}
use Rattle.rules.proofs.Moves.{listed}
use Rattle.rules.proofs.OrderKept.{OfAsks, Rests, held_some, not-held, delays_run, ended_append, begins_waits, waits_on_lem}

-- ── a wait with a time begins: one move of the running task ──

-- the state in which the wait of u with the time of c begins
abbrev begun : State → C.Call → ℕ → State
begun s c u = move s u (place_for s c) (Due (after s.clock (duration c)))

abbrev BegunOf : State → C.Call → ℕ → Outcome → Type 0
BegunOf s c u (refused r) = Unit {0}
BegunOf s c u (took s' b l) = starts u b ≡ true → 0 < duration c → is_held (place_of s' u) ≡ false → s' ≡ begun s c u

begun_delay : (s : State) (d : _) (u t n : ℕ) → ticks d ≡ n → BegunOf s (Delay d) u (delay_for s t n)
begun_delay s d u t zero z = λ e k f. clash e refl
begun_delay s d u t (suc n) z = λ e k f. rw (z, eqb-true t u e)

begun_busy : (s : State) (u t g e : ℕ) (m : CallMode) → BegunOf s (Call g e m) u (call_busy s t g e m)
begun_busy s u t g e Simple = λ z k f. absurd (omega (arith, k))
begun_busy s u t g e (Timed d) = go (ticks d) refl
  where
    go : (n : ℕ) → ticks d ≡ n → BegunOf s (Call g e (Timed d)) u (timed_call s t g e n)
    go zero q = λ z k f. clash z refl
    go (suc n) q = λ z k f. rw (q, eqb-true t u z)
begun_busy s u t g e Conditional = λ z k f. clash z refl

begun_call : (s : State) (u t g e : ℕ) (m : CallMode) → Runs s t → BegunOf s (Call g e m) u (call s t g e m)
begun_call s u t g e m r =
    by_test P (not (is_task s g)) (λ _. tt) λ _.
    by_test P (not (has_entry (task_of s g) e)) (λ _. tt) λ _.
    by_test P (is_completed (place_of s g)) (λ _ z k f. clash z refl) λ _.
    by_test P (accepts (place_of s g) e)
    (λ _ z k f. clash (ap (λ (x : ℕ). is_held (place_of s' x)) (sym (eqb-true t u z)) ∙ ap is_held (place_same (rank v g n) t h Off r.low (omega (arith, r.high, length_move s g Ready Off, length_set_nth v.tasks g (ranked (task_of v g) n))))) f)
    (λ _. begun_busy s u t g e m)
  where
    P : Outcome → Type 0
    P = BegunOf s (Call g e m) u

    v : State
    v = wake s g

    n : ℕ
    n = higher (current_of v g) (current_of v t)

    h : Place
    h = Held (meeting g e (current_of v g))

    s' : State
    s' = move (rank v g n) t h Off

begun_none : (s : State) (u t o : ℕ) (m : SelectMode) → BegunOf s (Select o m) u (select_none s t o m)
begun_none s u t o Plain = by_test (BegunOf s (Select o Plain) u) (eqb o 0) (λ _ z k f. clash z refl) (λ _ z k f. absurd (omega (arith, k)))
begun_none s u t o (S.Delay d) = go (ticks d) refl
  where
    go : (n : ℕ) → ticks d ≡ n → BegunOf s (Select o (S.Delay d)) u (select_delay s t o n)
    go zero q = λ z k f. clash z refl
    go (suc n) q = λ z k f. rw (q, eqb-true t u z)
begun_none s u t o Else = λ z k f. clash z refl

begun_select : (s : State) (u t o : ℕ) (m : SelectMode) → BegunOf s (Select o m) u (select s t o m)
begun_select s u t o m = by_test (BegunOf s (Select o m) u) (leb (2 ^ (task_of s t).entries) o) (λ _. tt) (λ _. go (open_entry s t o))
  where
    go : (n : ℕ) → BegunOf s (Select o m) u (select_at s t o m n)
    go zero = begun_none s u t o m
    go (suc e) = λ z k f. clash z refl

begun_of : (s : State) (c : C.Call) (u : ℕ) → Sound s → BegunOf s c u (take_call s c)
begun_of s (Create p n) u h =
    by_test (BegunOf s (Create p n) u) (not (in_range p n)) (λ _. tt) λ _.
    by_test (BegunOf s (Create p n) u) (leb 31 (created s)) (λ _. tt) (λ _ z k f. clash z refl)
begun_of s (Delay d) u h = by_runner (BegunOf s (Delay d) u) s (λ t. delay_for s t (ticks d)) h tt (λ t e r. begun_delay s d u t (ticks d) refl)
begun_of s (Call g e m) u h = by_runner (BegunOf s (Call g e m) u) s (λ t. call s t g e m) h tt (λ t z r. begun_call s u t g e m r)
begun_of s (Select o m) u h = by_runner (BegunOf s (Select o m) u) s (λ t. select s t o m) h tt (λ t z r. begun_select s u t o m)
begun_of s End u h = by_runner (BegunOf s End u) s (λ t. end s t) h tt (λ t z r. go t (last (held_by s t)))
  where
    go : (t c : ℕ) → BegunOf s End u (end_last s t c)
    go t zero = tt
    go t (suc c) = λ z k f. clash z refl
begun_of s Finish u h =
    by_runner (BegunOf s Finish u) s (λ t. finish s t) h tt (λ t z r.
    by_test (BegunOf s Finish u) (ltb 0 (length (held_by s t))) (λ _. tt) (λ _ z k f. clash z refl))
begun_of s Tick u h = λ z k f. clash z refl
begun_of s (Advance n) u h = λ z k f. clash z refl

-- a wait with a time that began in no rendezvous
module _ (s : State) (a : Ask) (t : ℕ) (h : Sound s) (bg : begins t (entry s a) ≡ true) (du : 0 < duration a.call) (nh : is_held (place_of (entry s a).out.state t) ≡ false) where
  begun_step : (entry s a).out.state ≡ begun s a.call t
  begun_step =
      by_step (λ r. (eqb r.refusal 0 && eqb r.answer.result WAITS && eqb r.answer.task t) ≡ true → is_held (place_of r.state t) ≡ false → r.state ≡ begun s a.call t)
      s a.call a.room h
      (λ r n z k. clash (and_first (eqb (number r) 0) (eqb 0 WAITS) (and_first (eqb (number r) 0 && eqb 0 WAITS) (eqb 0 t) z)) (number_pos r))
      (λ s' b l e z k. (rw e at (begun_of s a.call t h)) z du k)
      bg nh

  begun_there : (0 < t) × (t ≤ length s.tasks)
  begun_there =
      let i = there (entry s a).out.state.tasks t (λ e. clash (begins_waits s a t h bg).1 (rw e)) in
      (i.0, omega (arith, i.1, ap (λ (x : State). length x.tasks) begun_step, length_move s t (place_for s a.call) (Due (after s.clock (duration a.call)))))

  begun_place : place_of (entry s a).out.state t ≡ place_for s a.call
  begun_place = ap (λ (x : State). place_of x t) begun_step ∙ place_same s t (place_for s a.call) (Due (after s.clock (duration a.call))) begun_there.0 begun_there.1

  begun_timely : Timely (place_for s a.call)
  begun_timely = (timely s a.call (rw begun_place at (begins_waits s a t h bg).1)).0

  begun_pending : Pending (entry s a).out.state t (place_for s a.call) (after s.clock (duration a.call)) 0 (duration a.call)
  begun_pending = record {
    place = begun_place;
    timer = ap (λ (x : State). timer_of x t) begun_step ∙ ap (λ (x : Task). x.timer) (task_same s t (place_for s a.call) (Due (after s.clock (duration a.call))) begun_there.0 begun_there.1);
    ticks = omega (
      arith,
      ap (λ (x : State). left x.clock (after s.clock (duration a.call))) begun_step,
      left_after s.clock (duration a.call) h.clock (omega (arith, duration_small a.call)),
    );
  }

-- ── who comes in later stands behind those with no more ticks left ──

comes_behind : (s : State) (t u due d : ℕ) (p : Place) → Sound s → (t ≡ u → ⊥) → timer_of s t ≡ Due due → left s.clock due ≤ d → d < 4294967296
    → ahead t u (move s u p (Due (after s.clock d))).delays ≡ true
comes_behind s t u due d p h n q k b =
    ahead_inserted key (λ x. ltb (left s.clock (after s.clock d)) (ticks_left s.clock (timer_of s x))) u t (remove u s.delays)
    (λ x j. rw (left_after s.clock d h.clock b, own, other x (apart x j)))
    (ordered_cong (λ x. ticks_left s.clock (timer_of s x)) key (remove u s.delays) (λ x y i j l. rw (other x (apart x i), other y (apart y j)) l)
    (ordered_filter (λ x. ticks_left s.clock (timer_of s x)) (λ x. not (eqb x u)) s.delays h.order))
    (omega (arith, count_remove_other u t s.delays n, rw q at (h.delays t)))
    (rw (own, other t n, q) k)
  where
    key : ℕ → ℕ
    key x = when eqb x u then d else ticks_left s.clock (timer_of s x)

    own : key u ≡ d
    own = rw (eq-eqb u u refl)

    other : (x : ℕ) → (x ≡ u → ⊥) → key x ≡ ticks_left s.clock (timer_of s x)
    other x m = rw (ne_eqb x u m)

    apart : (x : ℕ) → 0 < count x (remove u s.delays) → x ≡ u → ⊥
    apart x j z = omega (arith, count_remove_same u s.delays, rw z at j)

-- ── who ends by time is listed in delay-queue order ──

-- the list of a call with ticks is made of a part of the delay queue
due_listed : (s : State) (c : C.Call) (s' : State) (b : Item) (l : List Item) → Sound s → take_call s c ≡ took s' b l → 0 < ticks_of c
    → (f : ℕ → Bool) × (l ≡ map (expired s) (filter f s.delays))
due_listed s (Create p n) s' b l h e k = absurd (omega (arith, k))
due_listed s (Delay d) s' b l h e k = absurd (omega (arith, k))
due_listed s (Call g j m) s' b l h e k = absurd (omega (arith, k))
due_listed s (Select o m) s' b l h e k = absurd (omega (arith, k))
due_listed s End s' b l h e k = absurd (omega (arith, k))
due_listed s Finish s' b l h e k = absurd (omega (arith, k))
due_listed s Tick s' b l h e k = (λ t. is_due (after s.clock 1) (timer_of s t), cc)
due_listed s (Advance n) s' b l h e k = (λ t. comes_in s.clock n (timer_of s t), let q = (at_once n s h).ends in cc)

tasks_back : (s : State) (l : List ℕ) → map (λ (i : Item). i.task) (map (expired s) l) ≡ l
tasks_back s [] = refl
tasks_back s (x ∷ xs) = ap (λ (l : List ℕ). x ∷ l) (tasks_back s xs)

-- no other reason is one of time
other_reasons : (c : C.Call) → (eqb (time_reason c) ACCEPTED ≡ false) × (eqb (time_reason c) TASKING_ERROR ≡ false)
other_reasons (Create p n) = (refl, refl)
other_reasons (Delay d) = (refl, refl)
other_reasons (Call g e m) = (refl, refl)
other_reasons (Select o m) = (refl, refl)
other_reasons End = (refl, refl)
other_reasons Finish = (refl, refl)
other_reasons Tick = (refl, refl)
other_reasons (Advance n) = (refl, refl)

pub listed_in_order : (s : State) (z : Ask) (t u : ℕ) (c c' : C.Call) → Sound s → ahead t u s.delays ≡ true
    → reasons t (entry s z).out.ended ≡ time_reason c ∷ [] → reasons u (entry s z).out.ended ≡ time_reason c' ∷ []
    → ahead t u (map (λ (i : Item). i.task) (entry s z).out.ended) ≡ true
listed_in_order s z t u c c' h o p q = go (entry s z).out refl (step_fate s z t h)
  where
    P : List Item → Type 0
    P l = ahead t u (map (λ (i : Item). i.task) l) ≡ true

    part : (f : ℕ → Bool) (l : List Item) → l ≡ map (expired s) (filter f s.delays) → reasons t l ≡ time_reason c ∷ [] → reasons u l ≡ time_reason c' ∷ [] → P l
    part f l e i j =
        let ft = (in_filter f t s.delays (omega (arith, listed (expired s) (λ x. refl) t (filter f s.delays), ap length (sym (ap (reasons t) e) ∙ i)))).0 in
        let fu = (in_filter f u s.delays (omega (arith, listed (expired s) (λ x. refl) u (filter f s.delays), ap length (sym (ap (reasons u) e) ∙ j)))).0 in
        ap (λ (m : List Item). ahead t u (map (λ (i : Item). i.task) m)) e ∙ ap (ahead t u) (tasks_back s (filter f s.delays)) ∙ ahead_filter f t u s.delays ft fu ∙ o

    go : (r : Given) → (entry s z).out ≡ r → StepFate s z.call t r → P (entry s z).out.ended
    go r y (not_taken g n e) = no (let x = rw (y, e) at p in cc)
    go r y (was_taken s' b l k e (untouched i j m)) = no (let x = rw (y, e) at p in cc)
    go r y (was_taken s' b l k e (awake i j m n)) = no (let x = rw (y, e) at p in cc)
    go r y (was_taken s' b l k e (began i v j m n g)) = no (let x = rw (y, e) at p in cc)
    go r y (was_taken s' b l k e (began_held i v j m n)) = no (let x = rw (y, e) at p in cc)
    go r y (was_taken s' b l k e (taken _ v i j m n g)) = no (let x = rw (y, e) at p in cc)
    go r y (was_taken s' b l k e (ran_out d v i j m n)) =
        let w = due_listed s z.call s' b l h k (omega (arith, i, (in_time s t d h v).0)) in
        rw (y, e) (part w.0 l w.1 (rw (y, e) at p) (rw (y, e) at q))
    go r y (was_taken s' b l k e (accepted _ v i j m n)) = absurd (eqb-false (time_reason c) ACCEPTED (other_reasons c).0 (let x = rw (y, e) at p in cc))
    go r y (was_taken s' b l k e (served v m i j n g w x)) = absurd (eqb-false (time_reason c) SERVED (reason_not c) (let x = rw (y, e, w, eq-eqb t t refl) at p in cc))
    go r y (was_taken s' b l k e (given_up v m i j n g w)) = absurd (eqb-false (time_reason c) TASKING_ERROR (other_reasons c).1 (let x = rw (y, e) at p in cc))

-- ── the theorem ──

-- who ends by time is in no rendezvous
time_free : (s : State) (z : Ask) (t : ℕ) (c : C.Call) → Sound s → reasons t (entry s z).out.ended ≡ time_reason c ∷ [] → is_held (place_of s t) ≡ false
time_free s z t c h p =
    by_bool (is_held (place_of s t)) (λ b. let m = held_some (place_of s t) b in absurd (held_ends s z t m.0 (time_reason c) h m.1 (reason_not c) p)) (λ b. b)

pub equal_times : OfAsks TimesInOrder
equal_times s a mid b mid' z h t u bt dt bu du et eu le =
    listed_in_order s4 z t u a.call b.call h4 (delays_run mid' s3 t u h3 on_t.0.1 on_u.0 ∙ behind) et.time eu.time
  where
    s1 : State
    s1 = (entry s a).out.state

    s2 : State
    s2 = reach s1 mid

    s3 : State
    s3 = (entry s2 b).out.state

    s4 : State
    s4 = reach s3 mid'

    h1 : Sound s1
    h1 = step_sound s a h

    h2 : Sound s2
    h2 = reach_sound mid s1 h1

    h3 : Sound s3
    h3 = step_sound s2 b h2

    h4 : Sound s4
    h4 = reach_sound mid' s3 h3

    free_t : is_held (place_of s4 t) ≡ false
    free_t = time_free s4 z t a.call h4 et.time

    free_u : is_held (place_of s4 u) ≡ false
    free_u = time_free s4 z u b.call h4 eu.time

    on_t : Rests t s2 (b ∷ mid') × (place_of s4 t ≡ place_of s2 t) × (is_waiting (place_of s2 t) ≡ true)
    on_t = waits_on_lem s a mid (b ∷ mid') t h bt et.still free_t

    on_u : Rests u s3 mid' × (place_of s4 u ≡ place_of s3 u) × (is_waiting (place_of s3 u) ≡ true)
    on_u = waits_on_lem s2 b [] mid' u h2 bu eu.still free_u

    e1 : ended t (log_of s1 mid) ≡ 0
    e1 = omega (arith, et.still, ended_append t (log_of s1 mid) (log_of s2 (b ∷ mid')))

    e2 : ended t (log_of s2 (b ∷ mid')) ≡ 0
    e2 = omega (arith, et.still, ended_append t (log_of s1 mid) (log_of s2 (b ∷ mid')))

    held2 : is_held (place_of s2 t) ≡ false
    held2 = not-held (b ∷ mid') s2 t h2 e2 free_t

    held1 : is_held (place_of s1 t) ≡ false
    held1 = not-held mid s1 t h1 e1 held2

    held3 : is_held (place_of s3 u) ≡ false
    held3 = not-held mid' s3 u h3 eu.still free_u

    due : ℕ
    due = after s.clock (duration a.call)

    -- t still waits when u begins to
    waits : Pending s2 t (place_for s a.call) due (0 + tick_count (log_of s1 mid)) (duration a.call)
    waits = go (course mid s1 t (place_for s a.call) due 0 (duration a.call) h1 (begun_timely s a t h bt dt held1) (begun_pending s a t h bt dt held1))
      where
        go : Course s1 mid t (place_for s a.call) due 0 (duration a.call) → Pending s2 t (place_for s a.call) due (0 + tick_count (log_of s1 mid)) (duration a.call)
        go (still p _ _ _) = p
        go (over _ (inl m)) = clash (rw m.1) held2
        go (over _ (inr k)) = absurd (omega (arith, k, e1))

    apart : t ≡ u → ⊥
    apart y = clash on_t.2 (rw y (begins_waits s2 b u h2 bu).0)

    behind : ahead t u s3.delays ≡ true
    behind =
        ap (λ (x : State). ahead t u x.delays) (begun_step s2 b u h2 bu du held3)
        ∙ comes_behind s2 t u due (duration b.call) (place_for s2 b.call) h2 apart waits.timer (omega (arith, waits.ticks, le)) (omega (arith, duration_small b.call))
