-- The callers apart from the rest of a state: a step looks at no calls but those to the running task, and the line of callers afterwards
-- is told by the call and what it answers.
-- Assumes nothing.
use Prim.Native.Nat.{ℕ, zero, suc, ◌+◌}
use mathlib.Core.Path.{◌≡◌, refl, sym, ◌∙◌, ap}
use mathlib.Core.Bool.{Bool, true, false, not, ◌&&◌}
use mathlib.Core.List.{List, [], ◌∷◌, ◌++◌, map, append-nil}
use native.Mathlib.Omega.{arith}
use lib.IntN.{ℤ}
use lib.ListN.{length}
use lib.Dec.{eqb, ltb, leb}
use Prim.Native.Nat.{◌^◌}
use Rattle.lists.specs.Lists.{when◌then◌else◌, bit, filter, remove, count, first, last}
use Rattle.lists.proofs.ListLaws.{clash, by_test, count_filter_le}
use Rattle.lists.proofs.MarkLaws.{filter_same, filter_all, filter_filter, remove_absent, out, out_cons}
use Rattle.rules.specs.State.{State, place_of, task_of, created, is_task, is_queued, is_completed, accepts, partner_of, entry_of, opens, waits_on, queue, held_by, running, move, wake, wake_all, meet, set_clock, after}
use Rattle.rules.specs.Sound.{in_range}
use Rattle.rules.specs.Step.{Outcome, took, create, delay_for, timed_call, call_busy, call, open_from, open_entry, select_delay, select_none, select_at, select, end_last, end, queued_from, queued_on, finish, failed, due_at, ends_at, tick, tick_to, advanced, advance_ends, readings, of_running, take_call, ticks, item, DONE, expired}
use Rattle.rules.specs.Callers.{calling, callers_of, with_callers, core, queued_in, core_of, asks, Told, CallersApart}
use Rattle.rules.specs.declared.Item.{Item}
use Rattle.rules.specs.declared.Timer.{Timer}
use Rattle.rules.specs.declared.Timer.TheVariants.{Off}
use Rattle.rules.specs.declared.Place.{Place}
use Rattle.rules.specs.declared.Place.TheVariants.{Ready, Completed}
use Rattle.calls.specs.declared.CallMode.{CallMode}
use Rattle.calls.specs.declared.CallMode.TheVariants.{Simple, Timed, Conditional}
use Rattle.calls.specs.declared.SelectMode.{SelectMode}
use Rattle.calls.specs.declared.SelectMode.TheVariants.{Plain, Else}
use Rattle.calls.specs.declared.SelectMode.TheVariants as S
use Rattle.calls.specs.declared.Call as C
use Rattle.calls.specs.declared.Call.TheVariants.{Create, Delay, Call, Select, End, Finish, Tick, Advance}
use Rattle.rules.proofs.Invariant.{Sound}
use Rattle.rules.proofs.Members.{runs, queued_waits}
use Rattle.rules.proofs.Fate.{Fate, untouched, awake, began, began_held, taken, ran_out, accepted, served, given_up}
use Rattle.rules.proofs.SoundTest.{sound_props}

-- ── an entry's queue is a part of the calls to its task ──

absorb : (q p e : Bool) → ((q && p) && (q && p && e)) ≡ (q && p && e)
absorb true true e = refl
absorb true false e = refl
absorb false p e = refl

pub queue_of : (s : State) (t e : ℕ) → queue s t e ≡ filter (waits_on s t e) (callers_of s t)
queue_of s t e =
    sym (filter_filter (waits_on s t e) (calling s t) s.callers
    ∙ filter_same _ _ s.callers (λ c k. absorb (is_queued (place_of s c)) (eqb (partner_of (place_of s c)) t) (eqb (entry_of (place_of s c)) e)))

-- ── what does not look at the callers ──

pub running_core : (s : State) (l : List ℕ) → running (with_callers s l) ≡ running s
unfolding running
running_core s l = refl

pub core_move : (s u : State) (t : ℕ) (p : Place) (w : Timer) → core s ≡ core u → core (move s t p w) ≡ core (move u t p w)
core_move s u t p w e = ap (λ (z : State). core (move z t p w)) e

pub core_wakes : (l : List ℕ) (s u : State) → core s ≡ core u → core (wake_all s l) ≡ core (wake_all u l)
core_wakes [] s u e = e
core_wakes (t ∷ l) s u e = core_wakes l (wake s t) (wake u t) (core_move s u t Ready Off e)

pub core_tick : (s u : State) (n : ℕ) → core s ≡ core u → core (tick_to s n) ≡ core (tick_to u n)
core_tick s u n e =
    ap (λ (x : State). core (set_clock x n)) (core_wakes (due_at s n) s u e)
    ∙ ap (λ (x : State). core (set_clock (wake_all u (due_at x n)) n)) e

-- what a function tells of the rest of the state it tells of any line of callers
pub core_advance : (n : ℕ) (s u : State) → core s ≡ core u → (core (advanced n s) ≡ core (advanced n u)) × (advance_ends n s ≡ advance_ends n u) × (readings n s ≡ readings n u)
core_advance zero s u e = (e, refl, refl)
core_advance (suc n) s u e =
    let k : after s.clock 1 ≡ after u.clock 1 = ap (λ (x : State). after x.clock 1) e in
    let g : ends_at s (after s.clock 1) ≡ ends_at u (after u.clock 1) = ap (λ (x : State). ends_at x (after x.clock 1)) e in
    let t : core (tick_to s (after s.clock 1)) ≡ core (tick_to u (after u.clock 1)) = core_tick s u (after s.clock 1) e ∙ ap (λ (m : ℕ). core (tick_to u m)) k in
    let r = core_advance n (tick_to s (after s.clock 1)) (tick_to u (after u.clock 1)) t in
    (r.0, (λ i. g i ++ r.1 i), (λ i. bit (ltb 0 (length (g i))) + r.2 i))

-- ── a step looks at no calls but those to the running task ──

module _ (s : State) (l : List ℕ) where
  abbrev pub u : State
  u = with_callers s l

  -- the calls to t are the same
  abbrev pub Sees : ℕ → Type 0
  Sees t = callers_of s t ≡ callers_of u t

  -- an outcome that does not look at the callers
  abbrev pub Same : Outcome → Outcome → Type 0
  Same o q = core_of o ≡ core_of q

  -- a test that both ask
  by_both : (b : Bool) (x y z w : Outcome) → Same x z → Same y w → Same (when b then x else y) (when b then z else w)
  by_both true x y z w f g = f
  by_both false x y z w f g = g

  see_queue : (t e : ℕ) → Sees t → queue s t e ≡ queue u t e
  see_queue t e h = queue_of s t e ∙ ap (filter (waits_on s t e)) h ∙ sym (queue_of u t e)

  pub same_create : (p n : ℕ) → Same (create s p n) (create u p n)
  same_create p n =
      by_both (not (in_range p n)) _ _ _ _ refl (by_both (leb 31 (created s)) _ _ _ _ refl refl)

  pub same_delay : (t d : ℕ) → Same (delay_for s t d) (delay_for u t d)
  same_delay t zero = refl
  same_delay t (suc d) = refl

  pub same_timed : (t g e d : ℕ) → Same (timed_call s t g e d) (timed_call u t g e d)
  same_timed t g e zero = refl
  same_timed t g e (suc d) = refl

  pub same_busy : (t g e : ℕ) (m : CallMode) → Same (call_busy s t g e m) (call_busy u t g e m)
  same_busy t g e Simple = refl
  same_busy t g e (Timed d) = same_timed t g e (ticks d)
  same_busy t g e Conditional = refl

  pub same_call : (t g e : ℕ) (m : CallMode) → Same (call s t g e m) (call u t g e m)
  same_call t g e m =
      by_both (not (is_task s g)) _ _ _ _ refl
      (by_both (not (ltb 0 e && leb e (task_of s g).entries)) _ _ _ _ refl
      (by_both (is_completed (place_of s g)) _ _ _ _ refl
      (by_both (accepts (place_of s g) e) _ _ _ _ refl (same_busy t g e m))))

  pub same_open : (t o k e : ℕ) → Sees t → open_from s t o k e ≡ open_from u t o k e
  same_open t o zero e h = refl
  same_open t o (suc k) e h =
      λ i. elim (opens o e && ltb 0 (length (see_queue t e h i))) as (λ _. ℕ) [ true ↦ e | false ↦ same_open t o k (suc e) h i ]

  pub same_late : (t o d : ℕ) → Same (select_delay s t o d) (select_delay u t o d)
  same_late t o zero = refl
  same_late t o (suc d) = refl

  pub same_none : (t o : ℕ) (m : SelectMode) → Same (select_none s t o m) (select_none u t o m)
  same_none t o Plain = by_both (eqb o 0) _ _ _ _ refl refl
  same_none t o (S.Delay d) = same_late t o (ticks d)
  same_none t o Else = refl

  pub same_at : (t o : ℕ) (m : SelectMode) (e : ℕ) → Sees t → Same (select_at s t o m e) (select_at u t o m e)
  same_at t o m zero h = same_none t o m
  same_at t o m (suc e) h = ap (λ (q : List ℕ). took (core (meet s t (first q) (suc e))) (item t Rattle.rules.specs.Step.ACCEPTED (suc e) (first q)) []) (see_queue t (suc e) h)

  pub same_select : (t o : ℕ) (m : SelectMode) → Sees t → Same (select s t o m) (select u t o m)
  unfolding open_entry
  same_select t o m h =
      by_both (leb (2 ^ (task_of s t).entries) o) _ _ _ _ refl
      (same_at t o m (open_entry s t o) h ∙ ap (λ (e : ℕ). core_of (select_at u t o m e)) (same_open t o 8 1 h))

  pub same_end : (t : ℕ) → Same (end s t) (end u t)
  same_end t = go (last (held_by s t))
    where
      go : (c : ℕ) → Same (end_last s t c) (end_last u t c)
      go zero = refl
      go (suc c) = refl

  pub same_queued : (t k e : ℕ) → Sees t → queued_from s t k e ≡ queued_from u t k e
  same_queued t zero e h = refl
  same_queued t (suc k) e h = λ i. see_queue t e h i ++ same_queued t k (suc e) h i

  pub same_finish : (t : ℕ) → Sees t → Same (finish s t) (finish u t)
  unfolding queued_on
  same_finish t h =
      by_both (ltb 0 (length (held_by s t))) _ _ _ _ refl
      (ap (λ (q : List ℕ). took (core (move (wake_all s q) t Completed Off)) (item t DONE 0 0) (map (failed s) q)) (same_queued t 8 1 h)
      ∙ ap (λ (x : State). took x (item t DONE 0 0) (map (failed s) (queued_from u t 8 1))) (core_move (wake_all s (queued_from u t 8 1)) (wake_all u (queued_from u t 8 1)) t Completed Off (core_wakes (queued_from u t 8 1) s u refl)))

  pub same_tick : Same (tick s) (tick u)
  same_tick = ap (λ (x : State). took x (item 0 DONE 0 0) (ends_at s (after s.clock 1))) (core_tick s u (after s.clock 1) refl)

  pub same_advance : (n : ℕ) → Same (take_call s (Advance n)) (take_call u (Advance n))
  same_advance n = let r = core_advance n s u refl in λ i. took (r.0 i) (item 0 DONE (r.2 i) 0) (r.1 i)

  pub same_runner : (f g : ℕ → Outcome) (t : ℕ) → Same (f t) (g t) → Same (of_running t f) (of_running t g)
  same_runner f g zero h = refl
  same_runner f g (suc t) h = h

  pub same_step : (c : C.Call) → (asks c ≡ true → Sees (running s)) → Same (take_call s c) (take_call u c)
  unfolding running
  same_step (Create p n) h = same_create p n
  same_step (Delay d) h = same_runner _ _ (running s) (same_delay (running s) (ticks d))
  same_step (Call g e m) h = same_runner _ _ (running s) (same_call (running s) g e m)
  same_step (Select o m) h = same_runner _ _ (running s) (same_select (running s) o m (h refl))
  same_step End h = same_runner _ _ (running s) (same_end (running s))
  same_step Finish h = same_runner _ _ (running s) (same_finish (running s) (h refl))
  same_step Tick h = same_tick
  same_step (Advance n) h = same_advance n

-- ── what becomes of the line of callers, read off the call and what it answers ──

-- who made the call is not queued
runner_out : (s : State) → Sound s → queued_in s (running s) ≡ false
runner_out s h = go (running s) refl
  where
    go : (t : ℕ) → running s ≡ t → queued_in s t ≡ false
    go zero e = refl
    go (suc t) e = ap is_queued (runs s t h e).place

-- who is queued before and after waits on the same entry of the same task
pub same_wait : (s v : State) (c : C.Call) (a : Item) (l : List Item) (u : ℕ) → Fate s c u v a l → queued_in s u ≡ true → queued_in v u ≡ true → place_of v u ≡ place_of s u
same_wait s v c a l u f p q = go f
  where
    go : Fate s c u v a l → place_of v u ≡ place_of s u
    go (untouched k r b) = k.place
    go (awake x y r b) = clash (queued_waits (place_of s u) p) x
    go (began x y z w r b) = clash (queued_waits (place_of s u) p) x
    go (began_held x m z r b) = clash (queued_waits (place_of s u) p) x
    go (taken t w m x y r b) = clash q (ap is_queued y)
    go (ran_out d x y z r b) = clash q (ap is_queued z)
    go (accepted t o x y r b) = clash p (ap is_queued x)
    go (served e m x y z w r b) = clash p (ap is_queued x)
    go (given_up e w x y z r b) = clash q (ap is_queued z)

-- nobody is gone, and t is none of the line
all_in : (l : List ℕ) → filter (out []) l ≡ l
all_in l = filter_all (out []) l (λ x. refl)

out_append : (a b l : List ℕ) → filter (out (a ++ b)) l ≡ filter (out b) (filter (out a) l)
out_append [] b l = ap (filter (out b)) (sym (all_in l))
out_append (t ∷ a) b l = sym (out_cons t (a ++ b) l) ∙ out_append a b (remove t l) ∙ ap (filter (out b)) (out_cons t a l)

wakes_out : (q : List ℕ) (s : State) → (wake_all s q).callers ≡ filter (out q) s.callers
wakes_out [] s = sym (all_in s.callers)
wakes_out (t ∷ q) s = wakes_out q (wake s t) ∙ out_cons t q s.callers

module _ (f : ℕ → Item) (own : (x : ℕ) → (f x).task ≡ x) where
  tasks_of : (q : List ℕ) → map (λ (i : Item). i.task) (map f q) ≡ q
  tasks_of [] = refl
  tasks_of (x ∷ q) = λ i. own x i ∷ tasks_of q i

tasks_append : (x y : List Item) → map (λ (i : Item). i.task) (x ++ y) ≡ map (λ (i : Item). i.task) x ++ map (λ (i : Item). i.task) y
tasks_append [] y = refl
tasks_append (i ∷ x) y = ap (λ (l : List ℕ). i.task ∷ l) (tasks_append x y)

ends_out : (s : State) (n : ℕ) → (wake_all s (due_at s n)).callers ≡ filter (out (map (λ (i : Item). i.task) (ends_at s n))) s.callers
ends_out s n = wakes_out (due_at s n) s ∙ ap (λ (q : List ℕ). filter (out q) s.callers) (sym (tasks_of (expired s) (λ x. refl) (due_at s n)))

advance_out : (n : ℕ) (s : State) → (advanced n s).callers ≡ filter (out (map (λ (i : Item). i.task) (advance_ends n s))) s.callers
advance_out zero s = sym (all_in s.callers)
advance_out (suc n) s =
    let now = after s.clock 1 in
    let g = map (λ (i : Item). i.task) (ends_at s now) in
    let r = map (λ (i : Item). i.task) (advance_ends n (tick_to s now)) in
    advance_out n (tick_to s now) ∙ ap (filter (out r)) (ends_out s now) ∙ sym (out_append g r s.callers)
    ∙ ap (λ (q : List ℕ). filter (out q) s.callers) (sym (tasks_append (ends_at s now) (advance_ends n (tick_to s now))))

module _ (s : State) (t : ℕ) (z : count t s.callers ≡ 0) where
  abbrev l : List ℕ
  l = s.callers

  -- nobody leaves or comes
  stay : l ≡ filter (out []) l ++ []
  stay = sym (append-nil (filter (out []) l) ∙ all_in l)

  stay_but : remove t l ≡ filter (out []) l ++ []
  stay_but = remove_absent t l z ∙ stay

  -- t comes
  come : remove t l ++ (t ∷ []) ≡ filter (out []) l ++ (t ∷ [])
  come = ap (λ (k : List ℕ). k ++ (t ∷ [])) (remove_absent t l z ∙ sym (all_in l))

  -- c leaves
  leaves_one : (c : ℕ) → remove c l ≡ filter (out (c ∷ [])) l ++ []
  leaves_one c = sym (append-nil (filter (out (c ∷ [])) l) ∙ sym (out_cons c [] l) ∙ all_in (remove c l))

  told-delay : (d : ℕ) (x : ℤ) → Told (Delay x) l (delay_for s t d)
  told-delay zero x = stay_but
  told-delay (suc d) x = stay_but

  module _ (g e : ℕ) (m : CallMode) where
    told-timed : (d : ℕ) → Told (Call g e m) l (timed_call s t g e d)
    told-timed zero = stay
    told-timed (suc d) = come

    told-busy : (k : CallMode) → Told (Call g e m) l (call_busy s t g e k)
    told-busy Simple = come
    told-busy (Timed d) = told-timed (ticks d)
    told-busy Conditional = stay

    told-call : Told (Call g e m) l (call s t g e m)
    told-call =
        by_test (Told (Call g e m) l) (not (is_task s g)) (λ _. tt) λ _.
        by_test (Told (Call g e m) l) (not (ltb 0 e && leb e (task_of s g).entries)) (λ _. tt) λ _.
        by_test (Told (Call g e m) l) (is_completed (place_of s g)) (λ _. stay) λ _.
        by_test (Told (Call g e m) l) (accepts (place_of s g) e)
        (λ _. remove_absent t (remove g l) (omega (arith, z, count_filter_le (λ x. not (eqb x g)) t l)) ∙ leaves_one g)
        (λ _. told-busy m)

  module _ (o : ℕ) (m : SelectMode) where
    told-late : (d : ℕ) → Told (Select o m) l (select_delay s t o d)
    told-late zero = stay
    told-late (suc d) = stay_but

    told_none : (k : SelectMode) → Told (Select o m) l (select_none s t o k)
    told_none Plain = by_test (Told (Select o m) l) (eqb o 0) (λ _. stay) (λ _. stay_but)
    told_none (S.Delay d) = told-late (ticks d)
    told_none Else = stay

    told_at : (e : ℕ) → Told (Select o m) l (select_at s t o m e)
    told_at zero = told_none m
    told_at (suc e) = leaves_one (first (queue s t (suc e)))

    told-select : Told (Select o m) l (select s t o m)
    told-select = by_test (Told (Select o m) l) (leb (2 ^ (task_of s t).entries) o) (λ _. tt) (λ _. told_at (open_entry s t o))

  told-end : (c : ℕ) → Told End l (end_last s t c)
  told-end zero = tt
  told-end (suc c) = leaves_one (suc c)

  told-finish : Told Finish l (finish s t)
  told-finish =
      let q = queued_on s t in
      by_test (Told Finish l) (ltb 0 (length (held_by s t))) (λ _. tt)
      (λ _. remove_absent t (wake_all s q).callers (omega (arith, z, ap (count t) (wakes_out q s), count_filter_le (out q) t l)) ∙ wakes_out q s
      ∙ ap (λ (g : List ℕ). filter (out g) l) (sym (tasks_of (failed s) (λ x. refl) q)) ∙ sym (append-nil (filter (out (map (λ (i : Item). i.task) (map (failed s) q))) l)))

told-runner : (c : C.Call) (l : List ℕ) (f : ℕ → Outcome) (t : ℕ) → Told c l (f t) → Told c l (of_running t f)
told-runner c l f zero h = tt
told-runner c l f (suc t) h = h

pub tells : (s : State) (c : C.Call) → Sound s → Told c s.callers (take_call s c)
tells s c h = go c
  where
    none : count (running s) s.callers ≡ 0
    none = h.callers (running s) ∙ ap bit (runner_out s h)

    go : (c : C.Call) → Told c s.callers (take_call s c)
    go (Create p n) =
        by_test (Told (Create p n) s.callers) (not (in_range p n)) (λ _. tt) λ _.
        by_test (Told (Create p n) s.callers) (leb 31 (created s)) (λ _. tt) λ _. stay s (running s) none
    go (Delay d) = told-runner (Delay d) s.callers (λ t. delay_for s t (ticks d)) (running s) (told-delay s (running s) none (ticks d) d)
    go (Call g e m) = told-runner (Call g e m) s.callers (λ t. call s t g e m) (running s) (told-call s (running s) none g e m)
    go (Select o m) = told-runner (Select o m) s.callers (λ t. select s t o m) (running s) (told-select s (running s) none o m)
    go End = told-runner End s.callers (λ t. end s t) (running s) (told-end s (running s) none (last (held_by s (running s))))
    go Finish = told-runner Finish s.callers (λ t. finish s t) (running s) (told-finish s (running s) none)
    go Tick = ends_out s (after s.clock 1) ∙ sym (append-nil (filter (out (map (λ (i : Item). i.task) (ends_at s (after s.clock 1)))) s.callers))
    go (Advance n) = advance_out n s ∙ sym (append-nil (filter (out (map (λ (i : Item). i.task) (advance_ends n s))) s.callers))

pub callers_apart : CallersApart
callers_apart = record { looks = same_step; tells = λ s c k e. tells s c (sound_props s k e) }
