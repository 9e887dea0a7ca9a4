-- The theorem over runs.
-- Assumes nothing.
use Prim.Native.Nat.{ℕ, zero, suc, ◌+◌, ◌≤◌, ◌<◌}
use mathlib.Core.Path.{◌≡◌, refl, ◌∙◌, ap}
use mathlib.Core.Logic.{◌⊎◌, inl, inr}
use mathlib.Core.Bool.{Bool, true, false, not, ◌&&◌}
use mathlib.Core.List.{List, [], ◌∷◌}
use native.Mathlib.Omega.{arith}
use lib.ListN.{length}
use lib.Dec.{eqb, ltb}
use borrow.Author.Tests.{eq-eqb}
use Rattle.lists.specs.Lists.{bit, every}
use Rattle.rules.specs.State.{State, empty, nth, task_of, place_of, timer_of, blank, is_ready, is_queued, is_held, running, has_time, partner_of}
use Rattle.rules.specs.Sound.{sound}
use Rattle.rules.specs.Step.{number, Outcome, refused, took, take_call, expiry, WAITS}
use Rattle.rules.specs.declared.Refusal.{Refusal}
use Rattle.rules.specs.declared.Refusal.TheVariants.{ShortRoom, BadState, BadField, NoTask, NoTarget, NoEntry, NotServing, StillServing, Full}
use Rattle.rules.specs.declared.Item.{Item}
use Rattle.rules.specs.Runs.{Ask, Given, duration, is_waiting, begins, begun, reasons, ended}
use Rattle.rules.specs.OverRuns.{WaitsCounted, is_reason, SixReasons, Stays, Released}
use Rattle.rules.proofs.StateRuns.{refuse, stepped, step, entry, log_of, reach}
use Rattle.rules.specs.declared.Task.{Task}
use Rattle.rules.specs.declared.Timer.{Timer}
use Rattle.rules.specs.declared.Meeting.{Meeting}
use Rattle.rules.specs.declared.Place.{Place}
use Rattle.rules.specs.declared.Place.TheVariants.{Blank, Ready, Delayed, Queued, Held, Accepting, Completed}
use Rattle.calls.specs.declared.CallMode.TheVariants.{Simple, Timed, Conditional}
use Rattle.calls.specs.declared.SelectMode.TheVariants.{Plain, Else}
use Rattle.calls.specs.declared.SelectMode.TheVariants as S
use Rattle.calls.specs.declared.Call as C
use Rattle.calls.specs.declared.Call.TheVariants.{Create, Delay, Call, Select, End, Finish, Tick, Advance}
use Rattle.lists.proofs.ListLaws.{by_bool, by_test}
use Rattle.lists.proofs.Tests.{no, and_first, and_second}
use Rattle.rules.proofs.Invariant.{Fits, Sound}
use Rattle.rules.proofs.Members.{timed_there}
use Rattle.rules.proofs.StepSound.{call_sound, ticks_small}
use Rattle.rules.proofs.Fate.{Fate, fate, untouched, awake, began, began_held, taken, ran_out, accepted, served, given_up, starts}

-- ── a step of a sound state: refused, with nothing changed, or the call taken ──

-- no wait is longer than a duration may be
pub duration_small : (c : C.Call) → duration c ≤ 2147483647
duration_small (Create p n) = omega arith
duration_small (Delay d) = ticks_small d
duration_small (Call g e Simple) = omega arith
duration_small (Call g e (Timed d)) = ticks_small d
duration_small (Call g e Conditional) = omega arith
duration_small (Select o Plain) = omega arith
duration_small (Select o (S.Delay d)) = ticks_small d
duration_small (Select o Else) = omega arith
duration_small End = omega arith
duration_small Finish = omega arith
duration_small Tick = omega arith
duration_small (Advance n) = omega arith

-- what holds of each refusal that leaves all as it was, and of each taken call, holds of a step
pub by_step {κ} : (P : Given → Type κ) (s : State) (c : C.Call) (room : ℕ) → Sound s
    → ((r : Refusal) (n : ℕ) → P (refuse s r n))
    → ((s' : State) (a : Item) (l : List Item) → take_call s c ≡ took s' a l → P (record { refusal = 0; answer = a; ended = l; next = running s'; state = s' }))
    → P (step s c room)
by_step P s c room h f g =
    by_test P (ltb room 124) (λ _. f ShortRoom 0) λ _.
    by_test P (not (sound s)) (λ _. f BadState 0) λ _. go (take_call s c) refl
  where
    go : (o : Outcome) → take_call s c ≡ o → P (stepped s o)
    go (refused r) e = f r (running s)
    go (took s' a l) e = g s' a l e

pub step_sound : (s : State) (a : Ask) → Sound s → Sound (entry s a).out.state
step_sound s a h =
    by_step (λ r. Sound r.state) s a.call a.room h (λ r n. h) (λ s' b l e. rw e at (call_sound s a.call h))

pub empty_sound : (n : ℕ) → n < 4294967296 → Sound (empty n)
empty_sound n h = record {
  clock = h;
  few = omega arith;
  good = λ u a b. absurd (omega arith);
  ready = none (λ x. is_ready x.place) refl;
  callers = none (λ x. is_queued x.place) refl;
  held = none (λ x. is_held x.place) refl;
  delays = none (λ x. has_time x.timer) refl;
  order = tt;
}
  where
    none : (q : Task → Bool) → q blank ≡ false → (u : ℕ) → ◌≡◌ {A = ℕ} 0 (bit (q (nth [] u)))
    none q e zero = rw e
    none q e (suc u) = rw e

pub reach_sound : (run : List Ask) (s : State) → Sound s → Sound (reach s run)
reach_sound [] s h = h
reach_sound (a ∷ rest) s h = reach_sound rest (entry s a).out.state (step_sound s a h)

-- ── waits begun and ended ──

-- what a step of a sound state does to a task
pub data StepFate (s : State) (c : C.Call) (u : ℕ) (r : Given) : Type 0 where
  not_taken : (f : Refusal) (n : ℕ) → r ≡ refuse s f n → StepFate s c u r
  was_taken : (s' : State) (a : Item) (l : List Item) → take_call s c ≡ took s' a l → r ≡ record { refusal = 0; answer = a; ended = l; next = running s'; state = s' } → Fate s c u s' a l → StepFate s c u r

pub step_fate : (s : State) (a : Ask) (u : ℕ) → Sound s → StepFate s a.call u (entry s a).out
step_fate s a u h =
    by_step (StepFate s a.call u) s a.call a.room h
    (λ r n. not_taken r n refl)
    (λ s' b l e. was_taken s' b l e refl (rw e at (fate s a.call u h)))

pub number_pos : (r : Refusal) → eqb (number r) 0 ≡ false
number_pos ShortRoom = refl
number_pos BadState = refl
number_pos BadField = refl
number_pos NoTask = refl
number_pos NoTarget = refl
number_pos NoEntry = refl
number_pos NotServing = refl
number_pos StillServing = refl
number_pos Full = refl

-- nobody else has a time than those who wait in one of three places
timed_place : (me g : Task) (p : Place) (w : Timer) → Fits me g p w → has_time w ≡ true → (is_waiting p ≡ true) × (is_reason (expiry p) ≡ true) × (is_held p ≡ false)
timed_place me g Blank w f e = absurd f
timed_place me g Ready w f e = no (cc)
timed_place me g Delayed w f e = (refl, refl, refl)
timed_place me g (Queued q) w f e = (refl, refl, refl)
timed_place me g (Held m) w f e = let z = f.1 in no (cc)
timed_place me g (Accepting o) w f e = (refl, refl, refl)
timed_place me g Completed w f e = no (cc)

pub timed_waits_place : (s : State) (u : ℕ) → Sound s → has_time (timer_of s u) ≡ true → (is_waiting (place_of s u) ≡ true) × (is_reason (expiry (place_of s u)) ≡ true) × (is_held (place_of s u) ≡ false)
timed_waits_place s u h e = let i = timed_there s u e in timed_place (task_of s u) (task_of s (partner_of (place_of s u))) (place_of s u) (timer_of s u) (h.good u i.0 i.1).place e

-- in one step, the waits begun and the wait before are the waits ended and the wait after
balance : (s : State) (c : C.Call) (u : ℕ) (s' : State) (a : Item) (l : List Item) → Sound s → Fate s c u s' a l
    → bit (starts u a) + bit (is_waiting (place_of s u)) ≡ length (reasons u l) + bit (is_waiting (place_of s' u))
balance s c u s' a l h (untouched e r b) = rw (r, b, ap is_waiting e.place)
balance s c u s' a l h (awake p q r b) = rw (p, q, r, b)
balance s c u s' a l h (began p w q t r b) = rw (p, q, w, r, b)
balance s c u s' a l h (began_held p m q r b) = rw (p, q, r, b)
balance s c u s' a l h (taken _ w m p q r b) = rw (p, q, r, b)
balance s c u s' a l h (ran_out z d i q r b) = rw ((timed_waits_place s u h (rw d)).0, q, r, b)
balance s c u s' a l h (accepted _ o p q r b) = rw (p, q, r, b)
balance s c u s' a l h (served z m p ru la q r b) = rw (p, q, r, b, eq-eqb u u refl)
balance s c u s' a l h (given_up z w p t q r b) = rw (p, q, r, b)

step_balance : (s : State) (a : Ask) (u : ℕ) → Sound s
    → bit (begins u (entry s a)) + bit (is_waiting (place_of s u)) ≡ length (reasons u (entry s a).out.ended) + bit (is_waiting (place_of (entry s a).out.state u))
step_balance s a u h = go (entry s a).out (step_fate s a u h)
  where
    go : (r : Given) → StepFate s a.call u r
        → bit (eqb r.refusal 0 && eqb r.answer.result WAITS && eqb r.answer.task u) + bit (is_waiting (place_of s u)) ≡ length (reasons u r.ended) + bit (is_waiting (place_of r.state u))
    go r (not_taken f n e) = rw (e, number_pos f)
    go r (was_taken s' b l t e k) = rw e (balance s a.call u s' b l h k)

pub counted : (run : List Ask) (s : State) (t : ℕ) → Sound s
    → begun t (log_of s run) + bit (is_waiting (place_of s t)) ≡ ended t (log_of s run) + bit (is_waiting (place_of (reach s run) t))
counted [] s t h = refl
counted (a ∷ rest) s t h = omega (arith, step_balance s a t h, counted rest (entry s a).out.state t (step_sound s a h))

pub waits_counted : (n : ℕ) → n < 4294967296 → (run : List Ask) → WaitsCounted (log_of (empty n) run) (reach (empty n) run)
waits_counted n h run t = omega (arith, counted run (empty n) t (empty_sound n h), none t)
  where
    none : (t : ℕ) → bit (is_waiting (place_of (empty n) t)) ≡ 0
    none zero = refl
    none (suc t) = refl

-- ── the six reasons ──

fate_reasons : (s : State) (c : C.Call) (u : ℕ) (s' : State) (a : Item) (l : List Item) → Sound s → Fate s c u s' a l → every is_reason (reasons u l) ≡ true
fate_reasons s c u s' a l h (untouched e r b) = rw r
fate_reasons s c u s' a l h (awake p q r b) = rw r
fate_reasons s c u s' a l h (began p w q t r b) = rw r
fate_reasons s c u s' a l h (began_held p m q r b) = rw r
fate_reasons s c u s' a l h (taken _ w m p q r b) = rw r
fate_reasons s c u s' a l h (ran_out z d i q r b) = rw (r, (timed_waits_place s u h (rw d)).1)
fate_reasons s c u s' a l h (accepted _ o p q r b) = rw r
fate_reasons s c u s' a l h (served z m p ru la q r b) = rw (r, eq-eqb u u refl)
fate_reasons s c u s' a l h (given_up z w p t q r b) = rw r

all_reasons : (l : List Item) → ((u : ℕ) → every is_reason (reasons u l) ≡ true) → every (λ (i : Item). is_reason i.result) l ≡ true
all_reasons [] h = refl
all_reasons (i ∷ is) h =
    rw (and_first (is_reason i.result) (every is_reason (reasons i.task is)) (rw (eq-eqb i.task i.task refl) at (h i.task)))
    (all_reasons is (λ u. by_bool (eqb i.task u) (λ e. and_second (is_reason i.result) (every is_reason (reasons u is)) (rw e at (h u))) (λ e. rw e at (h u))))

step_reasons : (s : State) (a : Ask) → Sound s → (u : ℕ) → every is_reason (reasons u (entry s a).out.ended) ≡ true
step_reasons s a h u = go (entry s a).out (step_fate s a u h)
  where
    go : (r : Given) → StepFate s a.call u r → every is_reason (reasons u r.ended) ≡ true
    go r (not_taken f n e) = rw e
    go r (was_taken s' b l t e k) = rw e (fate_reasons s a.call u s' b l h k)

pub six_reasons : (s : State) (a : Ask) → Sound s → SixReasons (entry s a)
six_reasons s a h = all_reasons (entry s a).out.ended (step_reasons s a h)

-- ── a held caller ──

pub held_step : (s : State) (a : Ask) (c : ℕ) (m : Meeting) → Sound s → place_of s c ≡ Held m → Stays c m (entry s a) ⊎ Released c m (entry s a)
held_step s a c mt h q = go (entry s a).out refl (step_fate s a c h)
  where
    go : (r : Given) → (entry s a).out ≡ r → StepFate s a.call c r → Stays c mt (entry s a) ⊎ Released c mt (entry s a)
    go r z (not_taken f n y) = inl (record { place = rw (z, y) q; ended = rw (z, y) })
    go r z (was_taken s' b l t y (untouched p k m)) = inl (record { place = rw (z, y) (p.place ∙ q); ended = rw (z, y) k })
    go r z (was_taken s' b l t y (awake p k m o)) = no (cc)
    go r z (was_taken s' b l t y (began p w k v m o)) = no (cc)
    go r z (was_taken s' b l t y (began_held p f k m o)) = no (cc)
    go r z (was_taken s' b l t y (taken _ f i p k m o)) = no (cc)
    go r z (was_taken s' b l t y (ran_out v d i k m o)) = let w = (timed_waits_place s c h (rw d)).2 in no (cc)
    go r z (was_taken s' b l t y (accepted _ f p k m o)) = no (cc)
    go r z (was_taken s' b l t y (served v f p k m o w x)) =
        let i : f ≡ mt = cc in
        inr (record { call = v; by = rw i at k; latest = rw i at m; place = rw (z, y) o; ended = rw (z, y, w, i) })
    go r z (was_taken s' b l t y (given_up v f p k m o w)) = no (cc)
