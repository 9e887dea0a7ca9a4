-- Every call keeps the agreement of priorities, and makes no ring.
-- Assumes nothing.
use Prim.Native.Nat.{ℕ, zero, suc, ◌≤◌, ◌<◌, ◌^◌}
use mathlib.Core.Path.{◌≡◌, refl, sym, ◌∙◌, ap}
use mathlib.Core.Bool.{true, false, not, ◌&&◌}
use mathlib.Core.List.{List, [], ◌∷◌}
use native.Mathlib.Omega.{arith}
use lib.ListN.{length}
use lib.Dec.{eqb, ltb, leb}
use borrow.Author.Tests.{eq-eqb, ne_eqb, leb-true, leb-false, not-false}
use Rattle.lists.specs.Lists.{count, first, last}
use Rattle.rules.specs.State.{State, task_of, place_of, timer_of, current_of, kept_of, created, is_task, is_held, is_completed, partner_of, accepts, held_by, queue, after, fresh, move, wake, wake_all, meet, add, set_clock, holds, waiting, offer}
use Rattle.rules.specs.Sound.{in_range}
use Rattle.rules.specs.Step.{Outcome, refused, took, create, delay_for, enqueue, timed_call, call_busy, call, open_entry, select_delay, select_none, select_at, select, end_last, end, queued_from, queued_on, finish, due_at, is_due, tick, tick_to, advanced, take_call, ticks}
use Rattle.rules.specs.declared.Task.{Task}
use Rattle.rules.specs.declared.Timer.{Timer}
use Rattle.rules.specs.declared.Timer.TheVariants.{Off, Due}
use Rattle.rules.specs.declared.Place.{Place}
use Rattle.rules.specs.declared.Place.TheVariants.{Blank, Ready, Delayed, Queued, Held, Accepting, Completed}
use Rattle.calls.specs.declared.CallMode.{CallMode}
use Rattle.calls.specs.declared.CallMode.TheVariants.{Simple, Timed, Conditional}
use Rattle.calls.specs.declared.SelectMode.{SelectMode}
use Rattle.calls.specs.declared.SelectMode.TheVariants.{Plain, Else}
use Rattle.calls.specs.declared.SelectMode.TheVariants as S
use Rattle.calls.specs.declared.Call as C
use Rattle.calls.specs.declared.Call.TheVariants.{Create, Delay, Call, Select, End, Finish, Tick, Advance}
use Rattle.lists.proofs.ListLaws.{clash, by_eq, by_bool, by_test}
use Rattle.lists.proofs.Tests.{no, between}
use Rattle.rules.proofs.Invariant.{Sound}
use Rattle.rules.proofs.Members.{Runs, in_filter, queued_there, of_held, held_there, last_in, timed_there, nth_beyond, bit_true}
use Rattle.rules.proofs.MoveLaws.{wake_sound, place_same, place_other, length_move}
use Rattle.rules.proofs.StepSound.{by_runner, caller_taken, of_queued_from, wake_all_length, wake_all_sound, due_is, tick_kept}
use Rattle.rules.proofs.AddLaws.{nth_old, nth_new, nth_further}
use Rattle.rules.proofs.OverRuns.{timed_waits_place}
use Rattle.lists.proofs.MarkLaws.{filter_same, filter_none}
use Rattle.rules.proofs.TreeLaws.{Tree, Agree, Moves, Quiet, quiet_agree, quiet_no_ring, quiet_refl, quiet_trans, quiet_move, meet_agree, meet_no_ring, part_agree, part_no_ring, from_alike, in_line, keeps_alike}
use Rattle.rules.proofs.TreeMoves.{held_in}

abbrev pub TreeOf : Outcome → Type 0
TreeOf (refused r) = Unit {0}
TreeOf (took s a l) = Tree s

quiet : (s s' : State) → Tree s → Quiet s s' → Tree s'
quiet s s' g q = record { agree = quiet_agree s s' q g.agree; no_ring = quiet_no_ring s s' q g.no_ring }

-- the running task goes to a place where it is not held
goes : (s : State) (t : ℕ) (p : Place) (w : Timer) → Sound s → Tree s → Runs s t → is_held p ≡ false → Tree (move s t p w)
goes s t p w h g r e = quiet s (move s t p w) g (quiet_move s t p w r.low r.high h (ap is_held r.place) e)

-- ── DELAY, CALL ──

delay_tree : (s : State) (t n : ℕ) → Sound s → Tree s → Runs s t → TreeOf (delay_for s t n)
delay_tree s t zero h g r = goes s t Ready Off h g r refl
delay_tree s t (suc n) h g r = goes s t Delayed (Due (after s.clock (suc n))) h g r refl

accepts_not_held : (p : Place) (e : ℕ) → accepts p e ≡ true → is_held p ≡ false
accepts_not_held Blank e h = refl
accepts_not_held Ready e h = refl
accepts_not_held Delayed e h = refl
accepts_not_held (Queued q) e h = refl
accepts_not_held (Held m) e h = clash h refl
accepts_not_held (Accepting o) e h = refl
accepts_not_held Completed e h = refl

call_tree : (s : State) (t f e : ℕ) (m : CallMode) → Sound s → Tree s → Runs s t → TreeOf (call s t f e m)
call_tree s t f e m h g r =
    by_test TreeOf (not (is_task s f)) (λ _. tt) λ b1.
    by_test TreeOf (not (ltb 0 e && leb e (task_of s f).entries)) (λ _. tt) λ b2.
    by_test TreeOf (is_completed (place_of s f)) (λ _. g) λ b3.
    by_test TreeOf (accepts (place_of s f) e) (λ b4. let i = between f (created s) (not-false _ b1) in met i.0 i.1 b4) (λ _. busy m)
  where
    queues : (w : Timer) → TreeOf (enqueue s t f e w)
    queues w = goes s t (Queued (waiting f e)) w h g r refl

    timed : (n : ℕ) → TreeOf (timed_call s t f e n)
    timed zero = g
    timed (suc n) = queues (Due (after s.clock (suc n)))

    busy : (m : CallMode) → TreeOf (call_busy s t f e m)
    busy Simple = queues Off
    busy (Timed d) = timed (ticks d)
    busy Conditional = g

    met : 0 < f → f ≤ length s.tasks → accepts (place_of s f) e ≡ true → Tree (meet (wake s f) f t e)
    met i j a =
        let apart : f ≡ t → ⊥ = (λ q. clash a (ap (λ (x : ℕ). accepts (place_of s x) e) q ∙ ap (λ (p : Place). accepts p e) r.place)) in
        let hw = wake_sound s f i j h in
        let gw = quiet s (wake s f) g (quiet_move s f Ready Off i j h (accepts_not_held (place_of s f) e a) refl) in
        let high : f ≤ length (wake s f).tasks = omega (arith, j, length_move s f Ready Off) in
        let fit : t ≤ length (wake s f).tasks = omega (arith, r.high, length_move s f Ready Off) in
        let free = ap is_held (place_same s f Ready Off i j) in
        let loose = ap is_held (place_other s f Ready Off t (λ q. apart (sym q)) ∙ r.place) in
        record { agree = meet_agree (wake s f) f t e i high r.low fit hw free loose apart gw.agree; no_ring = meet_no_ring (wake s f) f t e i high r.low fit hw free loose apart gw.no_ring }

-- ── SELECT, END ──

select_tree : (s : State) (t o : ℕ) (m : SelectMode) → Sound s → Tree s → Runs s t → TreeOf (select s t o m)
select_tree s t o m h g r = by_test TreeOf (leb (2 ^ (task_of s t).entries) o) (λ _. tt) (λ _. go (open_entry s t o) refl)
  where
    timed : (n : ℕ) → TreeOf (select_delay s t o n)
    timed zero = g
    timed (suc n) = goes s t (Accepting (offer o)) (Due (after s.clock (suc n))) h g r refl

    none : (m : SelectMode) → TreeOf (select_none s t o m)
    none Plain = by_test TreeOf (eqb o 0) (λ _. g) (λ _. goes s t (Accepting (offer o)) Off h g r refl)
    none (S.Delay d) = timed (ticks d)
    none Else = g

    go : (n : ℕ) → open_entry s t o ≡ n → TreeOf (select_at s t o m n)
    go zero z = none m
    go (suc e) z =
        let c = first (queue s t (suc e)) in
        let q = caller_taken s t o e z in
        let i = queued_there s c q.0 q.1 in
        let u = ap is_held q.1 in
        let apart : t ≡ c → ⊥ = (λ y. let v = r.place in let w = q.1 in no (cc)) in
        record {
          agree = meet_agree s t c (suc e) r.low r.high i.0 i.1 h (ap is_held r.place) u apart g.agree;
          no_ring = meet_no_ring s t c (suc e) r.low r.high i.0 i.1 h (ap is_held r.place) u apart g.no_ring;
        }

end_tree : (s : State) (t : ℕ) → Sound s → Tree s → Runs s t → TreeOf (end s t)
end_tree s t h g r = go (last (held_by s t)) refl
  where
    go : (c : ℕ) → last (held_by s t) ≡ c → TreeOf (end_last s t c)
    go zero e = tt
    go (suc c) e =
        let q = of_held s (suc c) t (last_in c (held_by s t) e) in
        let i = held_there s (suc c) q.0 q.1 in
        record {
          agree = part_agree s t c r.low r.high i.0 i.1 h (ap is_held r.place) q.0 q.1 q.2 e g.agree;
          no_ring = part_no_ring s t c r.low r.high i.0 i.1 h (ap is_held r.place) q.0 q.1 q.2 e g.no_ring;
        }

-- ── FINISH, TICK ──

wake_all_quiet : (l : List ℕ) (s : State) → Sound s → ((u : ℕ) → 0 < count u l → (0 < u) × (u ≤ length s.tasks) × (is_held (place_of s u) ≡ false)) → Quiet s (wake_all s l)
wake_all_quiet [] s h k = quiet_refl s
wake_all_quiet (x ∷ xs) s h k =
    let i = k x (rw (eq-eqb x x refl) (omega arith)) in
    let q = quiet_move s x Ready Off i.0 i.1 h i.2 refl in
    quiet_trans s (wake s x) (wake_all (wake s x) xs) q
    (wake_all_quiet xs (wake s x) (wake_sound s x i.0 i.1 h)
    (λ u j. let y = k u (omega arith) in (y.0, omega (arith, y.1, length_move s x Ready Off), q.isheld u ∙ y.2)))

finish_tree : (s : State) (t : ℕ) → Sound s → Tree s → Runs s t → TreeOf (finish s t)
unfolding queued_on
finish_tree s t h g r =
    by_test TreeOf (ltb 0 (length (held_by s t))) (λ _. tt)
    (λ _. quiet w (move w t Completed Off) (quiet s w g q)
    (quiet_move w t Completed Off r.low (omega (arith, r.high, wake_all_length l s)) (wake_all_sound l s h (λ u j. ((in_l u j).0, (in_l u j).1))) (q.isheld t ∙ ap is_held r.place) refl))
  where
    l : List ℕ
    l = queued_from s t 8 1

    w : State
    w = wake_all s (queued_from s t 8 1)

    in_l : (u : ℕ) → 0 < count u l → (0 < u) × (u ≤ length s.tasks) × (is_held (place_of s u) ≡ false)
    in_l u k = let p = of_queued_from s u t 8 1 k in let i = queued_there s u p.0 p.1 in (i.0, i.1, ap is_held p.1)

    q : Quiet s (wake_all s (queued_from s t 8 1))
    q = wake_all_quiet (queued_from s t 8 1) s h in_l

quiet_clock : (s : State) (n : ℕ) → Quiet s (set_clock s n)
quiet_clock s n = record { held = λ _. refl; priority = λ _. refl; current = λ _. refl; kept = λ _. refl; isheld = λ _. refl; holder = λ _ _. refl }

pub tick_tree : (s : State) → Sound s → Tree s → TreeOf (tick s)
tick_tree s h g = quiet (wake_all s l) (set_clock (wake_all s l) n) (quiet s (wake_all s l) g (wake_all_quiet l s h in_l)) (quiet_clock (wake_all s l) n)
  where
    n : ℕ
    n = after s.clock 1

    l : List ℕ
    l = due_at s (after s.clock 1)

    in_l : (u : ℕ) → 0 < count u l → (0 < u) × (u ≤ length s.tasks) × (is_held (place_of s u) ≡ false)
    in_l u k =
        let d = due_is n (timer_of s u) (in_filter (λ t. is_due n (timer_of s t)) u s.delays k).0 in
        let i = timed_there s u (rw d) in
        (i.0, i.1, (timed_waits_place s u h (rw d)).2)

-- ── ADVANCE ──

pub advance_tree : (n : ℕ) (s : State) → Sound s → Tree s → Tree (advanced n s)
advance_tree zero s h g = g
advance_tree (suc n) s h g = advance_tree n (tick_to s (after s.clock 1)) (tick_kept s h) (tick_tree s h g)

-- ── CREATE ──

module _ (s : State) (p n : ℕ) (h : Sound s) (g : Tree s) where
  abbrev s1 : State
  s1 = add s p n

  line_held : (x : ℕ) → 0 < count x s.held → is_held (place_of s x) ≡ true
  line_held x j = bit_true (is_held (place_of s x)) (omega (arith, j, h.held x))

  old1 : (x : ℕ) → x ≤ length s.tasks → task_of s1 x ≡ task_of s x
  old1 x k = nth_old s.tasks (fresh p n) x k

  new1 : task_of s1 (suc (length s.tasks)) ≡ fresh p n
  new1 = nth_new s.tasks (fresh p n)

  held1 : (x : ℕ) → held_by s1 x ≡ held_by s x
  held1 x =
      filter_same (holds s1 x) (holds s x) s.held
      (λ y j. ap (λ (z : Task). is_held z.place && eqb (partner_of z.place) x) (old1 y (held_in s y h (line_held y j)).1))

  none1 : held_by s (suc (length s.tasks)) ≡ []
  none1 =
      filter_none (holds s (suc (length s.tasks))) s.held
      (λ y j. let e = line_held y j in rw (e, ne_eqb (partner_of (place_of s y)) (suc (length s.tasks)) (λ q. omega (arith, (held_in s y h e).2, q))))

  -- all but the new one are as they were
  same1 : (x : ℕ) → (x ≡ suc (length s.tasks) → ⊥) → task_of s1 x ≡ task_of s x
  same1 x m =
      by_bool (leb x (length s.tasks))
      (λ e. old1 x (leb-true x (length s.tasks) e))
      (λ e. let k = leb-false x (length s.tasks) e in nth_further s.tasks (fresh p n) x (omega (arith, k, m)) ∙ sym (nth_beyond s.tasks x k))

  member1 : (x y : ℕ) → 0 < count x (held_by s y) → task_of s1 x ≡ task_of s x
  member1 x y j = old1 x (held_in s x h (line_held x (in_line s x y j))).1

  agree1 : Agree s1
  agree1 t =
      by_eq t (suc (length s.tasks))
      (λ q. rw q (record { kept = rw (held1 (suc (length s.tasks)), none1) tt; current = rw (held1 (suc (length s.tasks)), none1) (ap (λ (z : Task). z.current) new1 ∙ sym (ap (λ (z : Task). z.priority) new1)) }))
      (λ m. record {
        kept = rw (held1 t, same1 t m) (keeps_alike s s1 (task_of s t).priority (held_by s t) (λ x j. (ap (λ (z : Task). z.current) (member1 x t j), ap (λ (z : Task). kept_of z.place) (member1 x t j))) (g.agree t).kept);
        current = rw (held1 t, same1 t m) (ap (λ (z : Task). z.current) (same1 t m) ∙ (g.agree t).current ∙ sym (from_alike (current_of s1) (current_of s) (task_of s t).priority (held_by s t) (λ x j. ap (λ (z : Task). z.current) (member1 x t j))));
      })

  moves1 : (k t : ℕ) → Moves s k t → Moves s1 k t
  moves1 zero t i =
      by_eq t (suc (length s.tasks))
      (λ q. rw q (ap (λ (z : Task). is_held z.place) new1))
      (λ m. ap (λ (z : Task). is_held z.place) (same1 t m) ∙ i)
  moves1 (suc k) t i =
      let e = old1 t (held_in s t h i.0).1 in
      (ap (λ (z : Task). is_held z.place) e ∙ i.0, rw (ap (λ (z : Task). partner_of z.place) e) (moves1 k (partner_of (place_of s t)) i.1))

  create_tree : TreeOf (create s p n)
  create_tree =
      by_test TreeOf (not (in_range p n)) (λ _. tt) λ _.
      by_test TreeOf (leb 31 (created s)) (λ _. tt) (λ _. record { agree = agree1; no_ring = λ t. ((g.no_ring t).0, moves1 (g.no_ring t).0 t (g.no_ring t).1) })

-- ── every call ──

pub keeps_tree : (s : State) (c : C.Call) → Sound s → Tree s → TreeOf (take_call s c)
keeps_tree s (Create p n) h g = create_tree s p n h g
keeps_tree s (Delay d) h g = by_runner TreeOf s (λ t. delay_for s t (ticks d)) h tt (λ t e r. delay_tree s t (ticks d) h g r)
keeps_tree s (Call f e m) h g = by_runner TreeOf s (λ t. call s t f e m) h tt (λ t z r. call_tree s t f e m h g r)
keeps_tree s (Select o m) h g = by_runner TreeOf s (λ t. select s t o m) h tt (λ t z r. select_tree s t o m h g r)
keeps_tree s End h g = by_runner TreeOf s (λ t. end s t) h tt (λ t z r. end_tree s t h g r)
keeps_tree s Finish h g = by_runner TreeOf s (λ t. finish s t) h tt (λ t z r. finish_tree s t h g r)
keeps_tree s Tick h g = tick_tree s h g
keeps_tree s (Advance n) h g = advance_tree n s h g
