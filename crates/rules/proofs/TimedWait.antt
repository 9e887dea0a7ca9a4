-- A timed wait ends at its tick: the last part of the theorem over runs.
-- Assumes nothing.
use Prim.Native.Nat.{ℕ, zero, suc, ◌+◌, ◌≤◌, ◌<◌}
use mathlib.Core.Path.{◌≡◌, refl, sym, ◌∙◌, ap}
use mathlib.Core.Logic.{◌↔◌, ◌⊎◌, inl, inr}
use mathlib.Core.Bool.{true, false, ◌&&◌}
use mathlib.Core.List.{List, [], ◌∷◌}
use native.Mathlib.Omega.{arith}
use lib.ListN.{length}
use lib.Dec.{eqb}
use borrow.Author.Tests.{eqb-true, eqb-false, eq-eqb}
use Rattle.rules.specs.State.{State, place_of, timer_of, is_held, after, left, has_time, partner_of, waiting, offer}
use Rattle.rules.specs.Step.{number, took, take_call, expiry, WAITS, SERVED, TASKING_ERROR, ACCEPTED}
use Rattle.rules.specs.declared.Item.{Item}
use Rattle.rules.specs.Runs.{Ask, Given, Entry, duration, is_waiting, reasons, ended, ticks_of, ticks_in, tick_count, has, engages, engaged, is_finish, completes, completed, target, time_reason}
use Rattle.rules.specs.OverRuns.{Stays, Released, EndsByTime, TimeReached, TimedWaits}
use Rattle.rules.proofs.StateRuns.{entry, log_of, reach}
use Rattle.rules.specs.declared.Timer.TheVariants.{Due}
use Rattle.rules.specs.declared.Meeting.{Meeting}
use Rattle.rules.specs.declared.Waiting.{Waiting}
use Rattle.rules.specs.declared.Offer.{Offer}
use Rattle.rules.specs.declared.Place.{Place}
use Rattle.rules.specs.declared.Place.TheVariants.{Delayed, Queued, Held, Accepting}
use Rattle.calls.specs.declared.Call as C
use Rattle.calls.specs.declared.Call.TheVariants.{Create, Delay, Call, Select, End, Finish, Tick, Advance}
use Rattle.lists.proofs.ListLaws.{clash, by_bool}
use Rattle.lists.proofs.Tests.{no, and_first, and_second, or_first, or_second, or_left, or_right}
use Rattle.rules.proofs.Invariant.{InTime, Sound}
use Rattle.rules.proofs.Members.{timed_there}
use Rattle.rules.proofs.StepSound.{call_sound}
use Rattle.rules.proofs.Fate.{untouched, awake, began, began_held, taken, ran_out, accepted, served, given_up, place_for, timer_in}
use Rattle.rules.specs.State.{is_completed}
use Rattle.rules.proofs.StepSound.{left_after}
use Rattle.rules.proofs.Passes.{left_later, later_is}
use Rattle.rules.proofs.Fate.{clock_after, clock_of, lasts, finished}
use Rattle.rules.proofs.OverRuns.{StepFate, not_taken, was_taken, step_fate, step_sound, reach_sound, held_step, number_pos, duration_small}

-- ── a timed wait that goes on ──

-- t waits at p till the reading due, and of its d ticks k have come
pub record Pending (s : State) (t : ℕ) (p : Place) (due k d : ℕ) : Type 0 where
  pub place : place_of s t ≡ p
  pub timer : timer_of s t ≡ Due due
  pub ticks : left s.clock due + k ≡ d

-- the places in which a task waits with a time
pub data Timely : Place → Type 0 where
  delayed : Timely Delayed
  queued : (q : Waiting) → Timely (Queued q)
  accepting : (o : Offer) → Timely (Accepting o)

held_no : (p : Place) → Timely p → is_held p ≡ false
held_no p delayed = refl
held_no p (queued q) = refl
held_no p (accepting o) = refl

waits_yes : (p : Place) → Timely p → is_waiting p ≡ true
waits_yes p delayed = refl
waits_yes p (queued q) = refl
waits_yes p (accepting o) = refl

expiry_no : (p : Place) → Timely p → (eqb (expiry p) ACCEPTED ≡ false) × (eqb (expiry p) TASKING_ERROR ≡ false) × (eqb (expiry p) SERVED ≡ false)
expiry_no p delayed = (refl, refl, refl)
expiry_no p (queued q) = (refl, refl, refl)
expiry_no p (accepting o) = (refl, refl, refl)

-- the called task, if any, has not completed
partner_alive : (s : State) (t : ℕ) (p : Place) → Timely p → Sound s → place_of s t ≡ p → has_time (timer_of s t) ≡ true → is_completed (place_of s (partner_of p)) ≡ false
partner_alive s t p delayed h q w = refl
partner_alive s t p (accepting o) h q w = refl
partner_alive s t p (queued a) h q w = let i = timed_there s t w in (rw q at (h.good t i.0 i.1).place).0.alive

-- what a step does to it
pub data Next (s : State) (x : Entry) (t : ℕ) (p : Place) (due k d : ℕ) : Type 0 where
  goes_on : Pending x.out.state t p due (ticks_in x + k) d → reasons t x.out.ended ≡ [] → engages t x ≡ false → completes (partner_of p) x ≡ false → Next s x t p due k d
  meets : ticks_in x ≡ 0 → engages t x ≡ true → (mt : Meeting) → place_of x.out.state t ≡ Held mt → reasons t x.out.ended ≡ [] → Next s x t p due k d
  is_met : ticks_in x ≡ 0 → engages t x ≡ true → reasons t x.out.ended ≡ ACCEPTED ∷ [] → Next s x t p due k d
  fails : ticks_in x ≡ 0 → completes (partner_of p) x ≡ true → reasons t x.out.ended ≡ TASKING_ERROR ∷ [] → Next s x t p due k d
  expires : k < d → d ≤ ticks_in x + k → reasons t x.out.ended ≡ expiry p ∷ [] → Next s x t p due k d

still_due : (s : State) (t due : ℕ) → Sound s → timer_of s t ≡ Due due → 0 < left s.clock due
still_due s t due h q = let j = timed_there s t (rw q) in (rw q at (h.good t j.0 j.1).time).0

-- the ticks that are left and those that came stay the same together
more_ticks : (s s' : State) (c : C.Call) (due k d : ℕ) → Sound s → left s.clock due + k ≡ d → InTime s.clock (Due due) → s'.clock ≡ clock_after s c → ticks_of c < left s.clock due
    → left s'.clock due + (ticks_of c + k) ≡ d
more_ticks s s' c due k d h e i q p = rw (q ∙ later_is s.clock (ticks_of c) h.clock) (omega (arith, e, left_later s.clock due (ticks_of c) h.clock i.2 (omega (arith, p))))

finish_is : (c : C.Call) → is_finish c ≡ true → c ≡ Finish
finish_is Finish e = refl
finish_is (Create p n) e = cc
finish_is (Delay d) e = cc
finish_is (Call g j m) e = cc
finish_is (Select o m) e = cc
finish_is End e = cc
finish_is Tick e = cc
finish_is (Advance n) e = cc

not-completed : (s s' : State) (c : C.Call) (b : Item) (l : List Item) (p : Place) → Sound s → take_call s c ≡ took s' b l → is_completed (place_of s' (partner_of p)) ≡ false
    → (is_finish c && eqb b.task (partner_of p)) ≡ false
not-completed s s' c b l p h e n =
    by_bool (is_finish c && eqb b.task (partner_of p))
    (λ t.
    let f = finish_is c (and_first (is_finish c) (eqb b.task (partner_of p)) t) in
    let g = eqb-true b.task (partner_of p) (and_second (is_finish c) (eqb b.task (partner_of p)) t) in
    let e2 : take_call s Finish ≡ took s' b l = sym (ap (take_call s) f) ∙ e in
    let v : is_completed (place_of s' b.task) ≡ true = rw e2 at (finished s h) in
    no (let v2 : is_completed (place_of s' (partner_of p)) ≡ true = rw g at v in cc))
    (λ t. t)

next : (s : State) (a : Ask) (t : ℕ) (p : Place) (due k d : ℕ) → Sound s → Timely p → Pending s t p due k d → Next s (entry s a) t p due k d
next s a t p due k d h y w = go (entry s a).out refl (step_fate s a t h)
  where
    x : Entry
    x = entry s a

    s1 : State
    s1 = (entry s a).out.state

    good : InTime s.clock (Due due)
    good = let j = timed_there s t (rw w.timer) in rw w.timer at (h.good t j.0 j.1).time

    go : (r : Given) → (entry s a).out ≡ r → StepFate s a.call t r → Next s (entry s a) t p due k d
    go r z (not_taken f n e) =
        goes_on
        (record { place = rw (z, e) w.place; timer = rw (z, e) w.timer; ticks = rw (z, e, number_pos f) (omega (arith, w.ticks)) })
        (rw (z, e)) (rw (z, e, w.place, held_no p y)) (rw (z, e, number_pos f))
    go r z (was_taken s' b l c e (untouched q m v)) =
        let pl : place_of s' t ≡ p = q.place ∙ w.place in
        let tm : timer_of s' t ≡ Due due = q.timer ∙ w.timer in
        let hs : Sound s' = rw c at (call_sound s a.call h) in
        goes_on
        (record { place = rw (z, e) pl; timer = rw (z, e) tm; ticks = rw (z, e) (more_ticks s s' a.call due k d h w.ticks good (rw c at (clock_of s a.call h)) ((rw c at (lasts s a.call t due h w.timer)) tm)) })
        (rw (z, e) m) (rw (z, e, pl, held_no p y, m)) (rw (z, e) (not-completed s s' a.call b l p h c (partner_alive s' t p y hs pl (rw tm))))
    go r z (was_taken s' b l c e (awake q m n v)) = let u = waits_yes p y in let o = w.place in no (cc)
    go r z (was_taken s' b l c e (began q m n v f g)) = let u = waits_yes p y in let o = w.place in no (cc)
    go r z (was_taken s' b l c e (began_held q m v f g)) = let u = waits_yes p y in let o = w.place in no (cc)
    go r z (was_taken s' b l c e (taken ti wt mt q m n v)) = meets (rw (z, e, ti)) (rw (z, e, m)) mt (rw (z, e) m) (rw (z, e) n)
    go r z (was_taken s' b l c e (ran_out u q j m n v)) =
        let o : u ≡ due = (let f = w.timer in cc) in
        expires (omega (arith, w.ticks, good.0)) (rw (z, e) (omega (arith, w.ticks, j, ap (left s.clock) o))) (rw (z, e) (n ∙ ap (λ (f : Place). expiry f ∷ []) w.place))
    go r z (was_taken s' b l c e (accepted ti o q m n v)) = is_met (rw (z, e, ti)) (rw (z, e, m, n)) (rw (z, e) n)
    go r z (was_taken s' b l c e (served ti mt q m n o v f)) = let u = held_no p y in let oo = w.place in no (cc)
    go r z (was_taken s' b l c e (given_up ti wt q m n o v)) = let pq : p ≡ Queued wt = sym w.place ∙ q in fails (rw (z, e, ti)) (rw (z, e, ti, pq, m, eq-eqb wt.target wt.target refl)) (rw (z, e) o)

-- ── a held caller over a run: held, or its wait has ended ──

pub held_run : (mid : List Ask) (s : State) (t : ℕ) (mt : Meeting) → Sound s → place_of s t ≡ Held mt → (place_of (reach s mid) t ≡ Held mt) ⊎ (0 < ended t (log_of s mid))
held_run [] s t mt h q = inl q
held_run (a ∷ rest) s t mt h q = go (held_step s a t mt h q) (held_run rest (entry s a).out.state t mt (step_sound s a h))
  where
    s1 : State
    s1 = (entry s a).out.state

    go : Stays t mt (entry s a) ⊎ Released t mt (entry s a)
        → (place_of s1 t ≡ Held mt → (place_of (reach s1 rest) t ≡ Held mt) ⊎ (0 < ended t (log_of s1 rest)))
        → (place_of (reach s1 rest) t ≡ Held mt) ⊎ (0 < length (reasons t (entry s a).out.ended) + ended t (log_of s1 rest))
    go (inl st) f = end (f st.place)
      where
        end : (place_of (reach s1 rest) t ≡ Held mt) ⊎ (0 < ended t (log_of s1 rest)) → (place_of (reach s1 rest) t ≡ Held mt) ⊎ (0 < length (reasons t (entry s a).out.ended) + ended t (log_of s1 rest))
        end (inl z) = inl z
        end (inr z) = inr (omega arith)
    go (inr re) f = inr (rw (re.ended, eq-eqb t t refl) (omega arith))

-- ── a timed wait over a run ──

pub data Course (s : State) (mid : List Ask) (t : ℕ) (p : Place) (due k d : ℕ) : Type 0 where
  still : Pending (reach s mid) t p due (k + tick_count (log_of s mid)) d → ended t (log_of s mid) ≡ 0 → engaged t (log_of s mid) ≡ false → completed (partner_of p) (log_of s mid) ≡ false
      → Course s mid t p due k d
  over : (engaged t (log_of s mid) ≡ true) ⊎ ((completed (partner_of p) (log_of s mid) ≡ true) ⊎ (d ≤ k + tick_count (log_of s mid)))
      → ((mt : Meeting) × (place_of (reach s mid) t ≡ Held mt)) ⊎ (0 < ended t (log_of s mid)) → Course s mid t p due k d

pub course : (mid : List Ask) (s : State) (t : ℕ) (p : Place) (due k d : ℕ) → Sound s → Timely p → Pending s t p due k d → Course s mid t p due k d
course [] s t p due k d h y w = still (record { place = w.place; timer = w.timer; ticks = omega (arith, w.ticks) }) refl refl refl
course (a ∷ rest) s t p due k d h y w =
    go (next s a t p due k d h y w) (course rest s1 t p due (ticks_in x + k) d (step_sound s a h) y)
  where
    x : Entry
    x = entry s a

    s1 : State
    s1 = (entry s a).out.state

    log : List Entry
    log = log_of s1 rest

    go : Next s x t p due k d → (Pending s1 t p due (ticks_in x + k) d → Course s1 rest t p due (ticks_in x + k) d) → Course s (a ∷ rest) t p due k d
    go (goes_on v r en co) f = next_course (f v)
      where
        next_course : Course s1 rest t p due (ticks_in x + k) d → Course s (a ∷ rest) t p due k d
        next_course (still u o m n) = still (record { place = u.place; timer = u.timer; ticks = omega (arith, u.ticks) }) (rw r (omega (arith, o))) (rw en m) (rw co n)
        next_course (over u o) = over (why u) (how o)
          where
            why : (engaged t log ≡ true) ⊎ ((completed (partner_of p) log ≡ true) ⊎ (d ≤ ticks_in x + k + tick_count log))
                → (engaged t (x ∷ log) ≡ true) ⊎ ((completed (partner_of p) (x ∷ log) ≡ true) ⊎ (d ≤ k + tick_count (x ∷ log)))
            why (inl q) = inl (or_right (engages t x) (engaged t log) q)
            why (inr (inl q)) = inr (inl (or_right (completes (partner_of p) x) (completed (partner_of p) log) q))
            why (inr (inr q)) = inr (inr (omega arith))

            how : ((mt : Meeting) × (place_of (reach s1 rest) t ≡ Held mt)) ⊎ (0 < ended t log) → ((mt : Meeting) × (place_of (reach s1 rest) t ≡ Held mt)) ⊎ (0 < ended t (x ∷ log))
            how (inl q) = inl q
            how (inr q) = inr (omega arith)
    go (meets n en mt q r) f = over (inl (or_left (engages t x) (engaged t log) en)) (how (held_run rest s1 t mt (step_sound s a h) q))
      where
        how : (place_of (reach s1 rest) t ≡ Held mt) ⊎ (0 < ended t log) → ((mt : Meeting) × (place_of (reach s1 rest) t ≡ Held mt)) ⊎ (0 < ended t (x ∷ log))
        how (inl z) = inl (mt, z)
        how (inr z) = inr (omega arith)
    go (is_met n en r) f = over (inl (or_left (engages t x) (engaged t log) en)) (inr (rw r (omega arith)))
    go (fails n co r) f = over (inr (inl (or_left (completes (partner_of p) x) (completed (partner_of p) log) co))) (inr (rw r (omega arith)))
    go (expires n m r) f = over (inr (inr (omega (arith, m)))) (inr (rw r (omega arith)))

-- ── the theorem ──

pub timely : (s : State) (c : C.Call) → is_waiting (place_for s c) ≡ true → Timely (place_for s c) × (partner_of (place_for s c) ≡ target c) × (expiry (place_for s c) ≡ time_reason c) × (ticks_of c ≡ 0)
timely s (Create p n) e = no (cc)
timely s (Delay d) e = (delayed, refl, refl, refl)
timely s (Call g j m) e = (queued (waiting g j), refl, refl, refl)
timely s (Select o m) e = (accepting (offer o), refl, refl, refl)
timely s End e = no (cc)
timely s Finish e = no (cc)
timely s Tick e = no (cc)
timely s (Advance n) e = no (cc)

pub timer_in_lem : (now d : ℕ) → 0 < d → timer_in now d ≡ Due (after now d)
timer_in_lem now zero h = absurd (omega arith)
timer_in_lem now (suc d) h = refl

-- a held caller's wait does not end by time
pub held_ends : (s : State) (b : Ask) (t : ℕ) (mt : Meeting) (r : ℕ) → Sound s → place_of s t ≡ Held mt → eqb r SERVED ≡ false → reasons t (entry s b).out.ended ≡ r ∷ [] → ⊥
held_ends s b t mt r h q n z = go (held_step s b t mt h q)
  where
    go : Stays t mt (entry s b) ⊎ Released t mt (entry s b) → ⊥
    go (inl st) = no (let u = st.ended in cc)
    go (inr re) =
        let u : reasons t (entry s b).out.ended ≡ SERVED ∷ [] = rw (re.ended, eq-eqb t t refl) in
        let v : r ≡ SERVED = cc in eqb-false r SERVED n v

pub reason_not : (c : C.Call) → eqb (time_reason c) SERVED ≡ false
reason_not (Create p n) = refl
reason_not (Delay d) = refl
reason_not (Call g j m) = refl
reason_not (Select o m) = refl
reason_not End = refl
reason_not Finish = refl
reason_not Tick = refl
reason_not (Advance n) = refl

-- a wait that began in the step x, and the step y behind the run mid
module _ (x : Entry) (mid : List Ask) (b : Ask) (t : ℕ) (h : Sound x.out.state) where
  abbrev log : List Entry
  log = log_of x.out.state mid

  abbrev s2 : State
  s2 = reach x.out.state mid

  abbrev y : Entry
  y = entry s2 b

  abbrev Claim : Type 0
  Claim = EndsByTime t x.call log y ↔ TimeReached t (duration x.call) x log y

  h2 : Sound s2
  h2 = reach_sound mid x.out.state h

  -- the call met its partner at once
  at_once : (mt : Meeting) → place_of x.out.state t ≡ Held mt → Claim
  at_once mt q = (λ z. there z (held_run mid x.out.state t mt h q), back)
    where
      there : EndsByTime t x.call log y → (place_of s2 t ≡ Held mt) ⊎ (0 < ended t log) → TimeReached t (duration x.call) x log y
      there z (inl w) = absurd (held_ends s2 b t mt (time_reason x.call) h2 w (reason_not x.call) z.time)
      there z (inr w) = absurd (omega (arith, w, z.still))

      back : TimeReached t (duration x.call) x log y → EndsByTime t x.call log y
      back z =
          no (let u = or_first (is_held (place_of x.out.state t)) (has ACCEPTED (reasons t x.out.ended)) (or_first (engages t x) (engaged t log) z.free) in
          let v : is_held (place_of x.out.state t) ≡ true = rw q in cc)

  -- the wait began with its time
  module _ (p : Place) (due : ℕ) (timed : Timely p) (pa : partner_of p ≡ target x.call) (ex : expiry p ≡ time_reason x.call) (w : Pending x.out.state t p due 0 (duration x.call)) (fresh : engages t x ≡ false) where
    there : EndsByTime t x.call log y → Course x.out.state mid t p due 0 (duration x.call) → TimeReached t (duration x.call) x log y
    there z (over _ (inl (mt, q))) = absurd (held_ends s2 b t mt (time_reason x.call) h2 q (reason_not x.call) z.time)
    there z (over _ (inr q)) = absurd (omega (arith, q, z.still))
    there z (still u o m n) = go (next s2 b t p due (0 + tick_count log) (duration x.call) h2 timed u)
      where
        go : Next s2 y t p due (0 + tick_count log) (duration x.call) → TimeReached t (duration x.call) x log y
        go (goes_on v r en co) = no (let k = z.time in cc)
        go (meets f en mt q r) = no (let k = z.time in cc)
        go (is_met f en r) = let k = z.time in let e : expiry p ≡ ACCEPTED = cc in absurd (eqb-false (expiry p) ACCEPTED (expiry_no p timed).0 e)
        go (fails f co r) = let k = z.time in let e : expiry p ≡ TASKING_ERROR = cc in absurd (eqb-false (expiry p) TASKING_ERROR (expiry_no p timed).1 e)
        go (expires f g r) = record { later = omega (arith, f); reached = omega (arith, g); free = rw (fresh) m; alive = rw (← pa) n }

    back : TimeReached t (duration x.call) x log y → Course x.out.state mid t p due 0 (duration x.call) → EndsByTime t x.call log y
    back z (over (inl q) _) = no (let k = or_second (engages t x) (engaged t log) z.free in cc)
    back z (over (inr (inl q)) _) = no (let k = z.alive in cc)
    back z (over (inr (inr q)) _) = absurd (omega (arith, q, z.later))
    back z (still u o m n) = go (next s2 b t p due (0 + tick_count log) (duration x.call) h2 timed u)
      where
        go : Next s2 y t p due (0 + tick_count log) (duration x.call) → EndsByTime t x.call log y
        go (goes_on v r en co) = absurd (omega (arith, z.reached, v.ticks, still_due y.out.state t due (step_sound s2 b h2) v.timer))
        go (meets f en mt q r) = absurd (omega (arith, f, z.later, z.reached))
        go (is_met f en r) = absurd (omega (arith, f, z.later, z.reached))
        go (fails f co r) = absurd (omega (arith, f, z.later, z.reached))
        go (expires f g r) = record { still = o; time = r ∙ ap (λ (k : ℕ). k ∷ []) ex }

    in_time : Claim
    in_time = (λ z. there z (course mid x.out.state t p due 0 (duration x.call) h timed w), λ z. back z (course mid x.out.state t p due 0 (duration x.call) h timed w))

pub timed_waits : (s : State) (a : Ask) (mid : List Ask) (b : Ask) → Sound s
    → let x = entry s a in TimedWaits x (log_of x.out.state mid) (entry (reach x.out.state mid) b)
timed_waits s a mid b h t bg du = go (entry s a).out refl (step_fate s a t h)
  where
    h1 : Sound (entry s a).out.state
    h1 = step_sound s a h

    go : (r : Given) → (entry s a).out ≡ r → StepFate s a.call t r
        → EndsByTime t a.call (log_of (entry s a).out.state mid) (entry (reach (entry s a).out.state mid) b) ↔ TimeReached t (duration a.call) (entry s a) (log_of (entry s a).out.state mid) (entry (reach (entry s a).out.state mid) b)
    go r z (not_taken f k e) = clash (and_first (eqb (number f) 0) (eqb 0 WAITS) (and_first (eqb (number f) 0 && eqb 0 WAITS) (eqb 0 t) (rw (z, e) at bg))) (number_pos f)
    go r z (was_taken s' k l tk e (untouched q m v)) = clash (rw (z, e) at bg) v
    go r z (was_taken s' k l tk e (awake q m f v)) = clash (rw (z, e) at bg) v
    go r z (was_taken s' k l tk e (began q m f v o g)) =
        let y = timely s a.call m in
        in_time (entry s a) mid b t h1 (place_for s a.call) (after s.clock (duration a.call)) y.0 y.1 y.2
        (record {
          place = rw (z, e) f;
          timer = rw (z, e) (v ∙ timer_in_lem s.clock (duration a.call) du);
          ticks = rw (z, e, rw tk at (clock_of s a.call h), y.3) (omega (arith, left_after s.clock (duration a.call) h.clock (omega (arith, duration_small a.call))));
        })
        (rw (z, e, f, held_no (place_for s a.call) y.0, o))
    go r z (was_taken s' k l tk e (began_held q mt f o m)) = at_once (entry s a) mid b t h1 mt (rw (z, e) f)
    go r z (was_taken s' k l tk e (taken ti wt mt q m n v)) = clash (rw (z, e) at bg) v
    go r z (was_taken s' k l tk e (ran_out u q j m n v)) = clash (rw (z, e) at bg) v
    go r z (was_taken s' k l tk e (accepted ti o q m n v)) = clash (rw (z, e) at bg) v
    go r z (was_taken s' k l tk e (served ti mt q m n o v f)) = clash (rw (z, e) at bg) f
    go r z (was_taken s' k l tk e (given_up ti wt q m n o v)) = clash (rw (z, e) at bg) v
