-- The test `sound` passes exactly where the propositions hold.
-- Assumes nothing.
use Prim.Native.Nat.{ℕ, zero, suc, ◌+◌, ◌≤◌, ◌<◌, ◌^◌}
use mathlib.Core.Path.{◌≡◌, refl, sym, ap}
use mathlib.Core.Bool.{Bool, true, false, not, ◌&&◌, ◌||◌}
use mathlib.Core.List.{List, [], ◌∷◌, ◌++◌}
use native.Mathlib.Omega.{arith}
use lib.Dec.{eqb, ltb, leb}
use lib.ListN.{get_or}
use borrow.Author.Tests.{eqb-true, eq-eqb, ne_eqb, ltb-true, leb-true, leb-false, lt-ltb, le-leb, not-true}
use Rattle.lists.specs.Lists.{bit, count, every, in_order_by, down_from}
use Rattle.rules.specs.State.{State, blank, task_of, place_of, timer_of, created, is_task, is_ready, is_queued, is_held, is_completed, partner_of, has_time, ticks_left}
use Rattle.rules.specs.Sound.{is_priority, calls, fits, time_in_range, good_task, stands_right, tree_right, standing, sound}
use Rattle.rules.specs.SoundFacts.{InPriorities}
use Rattle.rules.specs.declared.Task.{Task}
use Rattle.rules.specs.declared.Timer.{Timer}
use Rattle.rules.specs.declared.Timer.TheVariants.{Off, Due}
use Rattle.rules.specs.declared.Place.{Place}
use Rattle.rules.specs.declared.Place.TheVariants.{Blank, Ready, Delayed, Queued, Held, Accepting, Completed}
use Rattle.lists.proofs.Tests.{each, between, differ, and_first, and_second, and_both}
use Rattle.lists.proofs.ListLaws.{clash, by_eq, by_bool, by_member, not_in, every_at, every_of, count_append, in_order, ordered_of, down_at}
use Rattle.rules.proofs.Invariant.{Calls, Fits, InTime, Good, Sound}
use Rattle.rules.proofs.Members.{nth_beyond}
use Rattle.rules.proofs.TreeLaws.{Tree}
use Rattle.rules.proofs.TreeTest.{not-task, tree_test, tree_of}

-- ── from the propositions to the test ──

calls_test : (g : Task) (e : ℕ) → Calls g e → calls g e ≡ true
calls_test g e c = and_both (and_both (lt-ltb 0 e c.low) (le-leb e g.entries c.high)) (ap not c.alive)

or_test : (o : ℕ) (b : Bool) → (o ≡ 0 → b ≡ true) → (ltb 0 o || b) ≡ true
or_test zero b h = h refl
or_test (suc o) b h = rw (lt-ltb 0 (suc o) (omega arith))

pub priority_test : (p : ℕ) → InPriorities p → is_priority p ≡ true
priority_test p h = and_both (lt-ltb 0 p h.0) (le-leb p 15 h.1)

fits-test : (me g : Task) (p : Place) (w : Timer) → Fits me g p w → fits me g p w ≡ true
fits-test me g Blank w h = absurd h
fits-test me g Ready w h = ap not h
fits-test me g Delayed w h = h
fits-test me g (Queued q) w h = and_both (calls_test g q.entry h.0) (ap not h.1)
fits-test me g (Held m) w h = and_both (and_both (calls_test g m.entry h.0) (ap not h.1)) (priority_test m.kept h.2)
fits-test me g (Accepting o) w h = and_both (lt-ltb o.opens (2 ^ me.entries) h.0) (or_test o.opens (has_time w) h.1)
fits-test me g Completed w h = ap not h

time_test : (now : ℕ) (w : Timer) → InTime now w → time_in_range now w ≡ true
time_test now Off h = refl
time_test now (Due d) h = and_both (and_both (lt-ltb 0 _ h.0) (le-leb _ 2147483647 h.1)) (lt-ltb d 4294967296 h.2)

good_test : (now : ℕ) (me g : Task) → Good now me g → good_task now me g ≡ true
good_test now me g h =
    and_both
    (and_both
    (and_both (and_both (priority_test me.priority h.numbers.own) (le-leb _ 8 h.numbers.few)) (fits-test me g me.place me.timer h.place))
    (time_test now me.timer h.time))
    (priority_test me.current h.numbers.current)

pub in_down : (x n : ℕ) → 0 < count x (down_from n) → (0 < x) × (x ≤ n)
in_down x zero h = absurd (omega arith)
in_down x (suc n) h = by_eq (suc n) x (λ e. (omega arith, omega arith)) (λ k. let i = in_down x n (omega (arith, rw (ne_eqb (suc n) x k) at h)) in (i.0, omega (arith, i.1)))

-- a number that stands in a line is a created task's
line_test : (s : State) (q : Task → Bool) (l : List ℕ) → q blank ≡ false → ((u : ℕ) → count u l ≡ bit (q (task_of s u))) → (u : ℕ) → 0 < count u l → is_task s u ≡ true
line_test s q l b h zero k = absurd (omega (arith, rw b at (h zero)))
line_test s q l b h (suc u) k =
    and_both (lt-ltb 0 (suc u) (omega arith))
    (by_bool (leb (suc u) (created s)) (λ e. e) (λ e. absurd (omega (arith, k, rw (nth_beyond s.tasks (suc u) (leb-false (suc u) (created s) e), b) at (h (suc u))))))

-- how often a number stands in the lines together
sum : (s : State) (u : ℕ) → count u (s.ready ++ s.callers ++ s.held ++ s.delays) ≡ count u s.ready + count u s.callers + count u s.held + count u s.delays
sum s u = omega (arith, count_append u (s.ready ++ s.callers ++ s.held) s.delays, count_append u (s.ready ++ s.callers) s.held, count_append u s.ready s.callers)

pub standing_test : (s : State) → Sound s → standing s ≡ true
unfolding standing
standing_test s h =
    and_both
    (and_both
    (and_both (le-leb (created s) 31 h.few) (every_of (stands_right s) (down_from (created s)) (λ u k. let i = in_down u (created s) k in stands u i.0 i.1)))
    (every_of (is_task s) lines there))
    (in_order (λ u. ticks_left s.clock (timer_of s u)) s.delays h.order)
  where
    lines : List ℕ
    lines = s.ready ++ s.callers ++ s.held ++ s.delays

    stands : (u : ℕ) → 0 < u → u ≤ created s → stands_right s u ≡ true
    stands u a b =
        and_both
        (and_both
        (and_both (and_both (good_test s.clock (task_of s u) (task_of s (partner_of (place_of s u))) (h.good u a b)) (eq-eqb _ _ (h.ready u))) (eq-eqb _ _ (h.callers u)))
        (eq-eqb _ _ (h.held u)))
        (eq-eqb _ _ (h.delays u))

    there : (u : ℕ) → 0 < count u lines → is_task s u ≡ true
    there u k =
        by_member u s.ready (line_test s (λ x. is_ready x.place) s.ready refl h.ready u) λ a.
        by_member u s.callers (line_test s (λ x. is_queued x.place) s.callers refl h.callers u) λ b.
        by_member u s.held (line_test s (λ x. is_held x.place) s.held refl h.held u) λ c.
        line_test s (λ x. has_time x.timer) s.delays refl h.delays u (omega (arith, k, a, b, c, sum s u))

pub sound_test : (s : State) → Sound s → Tree s → sound s ≡ true
unfolding sound
sound_test s h g =
    and_both (standing_test s h) (every_of (tree_right s) (down_from (created s)) (λ u k. let i = in_down u (created s) k in tree_test s h g u i.0 i.1))

-- ── from the test to the propositions ──

calls_of : (g : Task) (e : ℕ) → calls g e ≡ true → Calls g e
calls_of g e h =
    let p = each (ltb 0 e) (leb e g.entries ∷ not (is_completed g.place) ∷ []) h in
    record { low = ltb-true 0 e (p 0); high = leb-true e g.entries (p 1); alive = not-true _ (p 2) }

pub priority_of : (p : ℕ) → is_priority p ≡ true → InPriorities p
priority_of p h = between p 15 h

fits-of : (me g : Task) (p : Place) (w : Timer) → fits me g p w ≡ true → Fits me g p w
fits-of me g Blank w h = differ (sym h)
fits-of me g Ready w h = not-true _ h
fits-of me g Delayed w h = h
fits-of me g (Queued q) w h = (calls_of g q.entry (and_first (calls g q.entry) _ h), not-true _ (and_second (calls g q.entry) _ h))
fits-of me g (Held m) w h =
    let b = and_first (calls g m.entry && not (has_time w)) (is_priority m.kept) h in
    (calls_of g m.entry (and_first (calls g m.entry) _ b), not-true _ (and_second (calls g m.entry) _ b), priority_of m.kept (and_second (calls g m.entry && not (has_time w)) (is_priority m.kept) h))
fits-of me g (Accepting o) w h =
    let p = each (ltb o.opens (2 ^ me.entries)) ((ltb 0 o.opens || has_time w) ∷ []) h in
    (ltb-true o.opens (2 ^ me.entries) (p 0), λ z. rw z at (p 1))
fits-of me g Completed w h = not-true _ h

time_of : (now : ℕ) (w : Timer) → time_in_range now w ≡ true → InTime now w
time_of now Off h = tt
time_of now (Due d) h =
    let p = each (ltb 0 (ticks_left now (Due d))) (leb (ticks_left now (Due d)) 2147483647 ∷ ltb d 4294967296 ∷ []) h in
    (ltb-true 0 _ (p 0), leb-true _ 2147483647 (p 1), ltb-true d 4294967296 (p 2))

good_of : (now : ℕ) (me g : Task) → good_task now me g ≡ true → Good now me g
good_of now me g h =
    let p = each (is_priority me.priority) (leb me.entries 8 ∷ fits me g me.place me.timer ∷ time_in_range now me.timer ∷ is_priority me.current ∷ []) h in
    record {
      numbers = record { own = priority_of me.priority (p 0); current = priority_of me.current (p 4); few = leb-true _ 8 (p 1) };
      place = fits-of me g me.place me.timer (p 2);
      time = time_of now me.timer (p 3);
    }

pub standing_props : (s : State) → s.clock < 4294967296 → standing s ≡ true → Sound s
unfolding standing
standing_props s hc e = record {
  clock = hc;
  few = leb-true (created s) 31 (parts 0);
  good = λ u p q. good_of s.clock (task_of s u) (task_of s (partner_of (place_of s u))) (stands u p q 0);
  ready = λ u. lined s.ready (λ x. is_ready x.place) u refl (λ p q. eqb-true _ _ (stands u p q 1)) (λ k. omega (arith, k, sum s u));
  callers = λ u. lined s.callers (λ x. is_queued x.place) u refl (λ p q. eqb-true _ _ (stands u p q 2)) (λ k. omega (arith, k, sum s u));
  held = λ u. lined s.held (λ x. is_held x.place) u refl (λ p q. eqb-true _ _ (stands u p q 3)) (λ k. omega (arith, k, sum s u));
  delays = λ u. lined s.delays (λ x. has_time x.timer) u refl (λ p q. eqb-true _ _ (stands u p q 4)) (λ k. omega (arith, k, sum s u));
  order = ordered_of (λ u. ticks_left s.clock (timer_of s u)) s.delays (parts 3);
}
  where
    lines : List ℕ
    lines = s.ready ++ s.callers ++ s.held ++ s.delays

    rest : List Bool
    rest =
        every (stands_right s) (down_from (created s)) ∷ every (is_task s) lines
        ∷ in_order_by (λ x y. leb (ticks_left s.clock (timer_of s x)) (ticks_left s.clock (timer_of s y))) s.delays ∷ []

    parts : (i : ℕ) → get_or (leb (created s) 31 ∷ rest) i true ≡ true
    parts = each (leb (created s) 31) rest e

    good : ℕ → Bool
    good u = good_task s.clock (task_of s u) (task_of s (partner_of (place_of s u)))

    once : ℕ → List Bool
    once u =
        eqb (count u s.ready) (bit (is_ready (place_of s u))) ∷ eqb (count u s.callers) (bit (is_queued (place_of s u)))
        ∷ eqb (count u s.held) (bit (is_held (place_of s u))) ∷ eqb (count u s.delays) (bit (has_time (timer_of s u))) ∷ []

    stands : (u : ℕ) → 0 < u → u ≤ created s → (i : ℕ) → get_or (good u ∷ once u) i true ≡ true
    stands u p q = each (good u) (once u) (down_at (stands_right s) (created s) (parts 1) u p q)

    -- a number that is no created task's stands in no line
    lined : (l : List ℕ) (q : Task → Bool) (u : ℕ) → q blank ≡ false → (0 < u → u ≤ created s → count u l ≡ bit (q (task_of s u))) → (0 < count u l → 0 < count u lines) → count u l ≡ bit (q (task_of s u))
    lined l q u z f m =
        by_bool (is_task s u)
        (λ t. let i = between u (created s) t in f i.0 i.1)
        (λ t. rw (not-task s u t, z)
        (not_in u l (λ k. clash (every_at (is_task s) lines (parts 2) u (m k)) t)))

pub sound_props : (s : State) → s.clock < 4294967296 → sound s ≡ true → Sound s
unfolding sound
sound_props s hc e = standing_props s hc (and_first (standing s) (every (tree_right s) (down_from (created s))) e)

pub tree_props : (s : State) → Sound s → sound s ≡ true → Tree s
unfolding sound
tree_props s h e =
    tree_of s h (λ t a b. down_at (tree_right s) (created s) (and_second (standing s) (every (tree_right s) (down_from (created s))) e) t a b)
