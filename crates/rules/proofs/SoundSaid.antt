-- The facts of specs/SoundFacts.antt hold exactly where the tests of soundness pass.
-- Assumes nothing.
use Prim.Native.Nat.{ℕ, zero, suc, ◌≤◌, ◌<◌, ◌^◌}
use mathlib.Core.Path.{◌≡◌, refl, sym, ◌∙◌, ap}
use mathlib.Core.Bool.{true, false, ◌&&◌}
use mathlib.Core.List.{List, [], ◌∷◌}
use native.Mathlib.Nat.{div-eq_of_lt, pow-le-pow_right}
use native.Mathlib.Omega.{arith}
use lib.ListN.{get_or, drop}
use lib.Dec.{eqb, leb}
use borrow.Author.Tests.{eq-eqb, le-leb, leb-true, leb-false}
use Rattle.lists.specs.Lists.{bit, count, every}
use Rattle.lists.specs.Line.{tidy, blanks}
use Rattle.rules.specs.State.{State, blank, task_of, place_of, timer_of, is_ready, is_completed, partner_of, has_time, opens, accepts, queue, held_by, level, ticks_left, waits_on, holds, at_level, current_of, priority_of}
use Rattle.rules.specs.Whole.{view, is_blank, unused, sound_whole}
use Rattle.rules.specs.SoundFacts.{Created, may_be_timed, SoundFacts, BlankBehind, SoundStruct, SoundnessSaid}
use Rattle.rules.specs.declared.Task.{Task}
use Rattle.rules.specs.declared.Timer.{Timer}
use Rattle.rules.specs.declared.Timer.TheVariants.{Off, Due}
use Rattle.rules.specs.declared.Waiting.{Waiting}
use Rattle.rules.specs.declared.Meeting.{Meeting}
use Rattle.rules.specs.declared.Place.{Place}
use Rattle.rules.specs.declared.Place.TheVariants.{Blank, Ready, Delayed, Queued, Held, Accepting, Completed}
use Rattle.rules.specs.declared.Supervisor.{Supervisor}
use Rattle.lists.proofs.Tests.{no, and_first, and_second, and_both}
use Rattle.lists.proofs.LineLaws.{blanks_at}
use Rattle.lists.proofs.ListLaws.{clash, by_bool, count_filter_yes, count_filter_no, ordered_of, in_order, nobody}
use Rattle.rules.proofs.Invariant.{Calls, Fits, InTime, Sound}
use Rattle.rules.proofs.Members.{of_queue, of_held, queued_good, timed_there, there}
use Rattle.rules.proofs.Passes.{in_time}
use Rattle.rules.proofs.SoundTest.{sound_test, sound_props, tree_props}
use Rattle.rules.proofs.TreeLaws.{Tree}
use Rattle.rules.proofs.TreeMoves.{highest_is}
use Rattle.rules.proofs.TreeTest.{keeps_test, no_ring_test, keeps_of, tops_of, agree_of, local_of}
use Rattle.rules.proofs.Fate.{accepts_is}
use Rattle.rules.proofs.WholeLaws.{blank_is, parts, core_parts}

-- ── members ──

-- nobody stands in an empty list
someone : (u : ℕ) (l : List ℕ) → l ≡ [] → 0 < count u l → ⊥
someone u l e k = omega (arith, rw e at k)

completed_is : (p : Place) → is_completed p ≡ true → p ≡ Completed
completed_is Completed e = refl
completed_is Blank e = cc
completed_is Ready e = cc
completed_is Delayed e = cc
completed_is (Queued q) e = cc
completed_is (Held m) e = cc
completed_is (Accepting o) e = cc

-- an open set below 2 ^ n opens none but the entries 1..n
own_entry : (o e n : ℕ) → opens o e ≡ true → o < 2 ^ n → (0 < e) × (e ≤ n)
own_entry o zero n y h = clash y refl
own_entry o (suc k) n y h =
    by_bool (leb (suc k) n)
    (λ b. (omega arith, leb-true (suc k) n b))
    (λ b. let w : 2 ^ n ≤ 2 ^ k = pow-le-pow_right {n = 2} (omega arith) {i = n} {j = k} (omega (arith, leb-false (suc k) n b)) in
    clash y (rw (div-eq_of_lt {n = o} {m = 2 ^ k} (omega (arith, w, h)))))

-- ── from soundness to the facts ──

module _ (s : State) (h : Sound s) where
  fits-at : (t : ℕ) (p : Place) → place_of s t ≡ p → (p ≡ Blank → ⊥) → Fits (task_of s t) (task_of s (partner_of p)) p (timer_of s t)
  fits-at t p e n = let i = there s.tasks t (λ b. n (sym e ∙ b)) in rw e at (h.good t i.0 i.1).place

  held_good : (c : ℕ) (m : Meeting) → place_of s c ≡ Held m → Calls (task_of s m.holder) m.entry
  held_good c m e = (fits-at c (Held m) e (λ b. no (cc))).0

  six : (t : ℕ) → Created s t → (p : Place) → Fits (task_of s t) (task_of s (partner_of p)) p (timer_of s t) → is_blank p ≡ false
  six t c Blank f = absurd f
  six t c Ready f = refl
  six t c Delayed f = refl
  six t c (Queued q) f = refl
  six t c (Held m) f = refl
  six t c (Accepting o) f = refl
  six t c Completed f = refl

  pub timed : (t : ℕ) (p : Place) → place_of s t ≡ p → has_time (timer_of s t) ≡ true → may_be_timed p ≡ true
  timed t Blank e w = let i = timed_there s t w in absurd (rw e at (h.good t i.0 i.1).place)
  timed t Ready e w = clash w (fits-at t Ready e (λ b. no (cc)))
  timed t Delayed e w = refl
  timed t (Queued q) e w = refl
  timed t (Held m) e w = clash w (fits-at t (Held m) e (λ b. no (cc))).1
  timed t (Accepting o) e w = refl
  timed t Completed e w = clash w (fits-at t Completed e (λ b. no (cc)))

  at_level_lem : (t p : ℕ) → count t (level s p) ≡ bit (is_ready (place_of s t) && eqb (current_of s t) p)
  at_level_lem t p =
      by_bool (at_level s p t)
      (λ e. count_filter_yes (at_level s p) t s.ready e ∙ h.ready t ∙ by_bool (is_ready (place_of s t)) (λ r. rw (r, e)) (λ r. rw r))
      (λ e. count_filter_no (at_level s p) t s.ready e ∙ by_bool (is_ready (place_of s t)) (λ r. rw (r, e)) (λ r. rw r))

  pub facts_of : Tree s → SoundFacts s
  facts_of g = record {
    at_most_31 = h.few;
    priorities = λ t c. (h.good t c.0 c.1).numbers.own;
    entry_counts = λ t c. (h.good t c.0 c.1).numbers.few;
    one_of_six = λ t c. six t c (place_of s t) (h.good t c.0 c.1).place;
    ready = h.ready;
    queued = h.callers;
    held = h.held;
    own_level = at_level_lem;
    current = λ t c. (h.good t c.0 c.1).numbers.current;
    kept = λ c m e. (fits-at c (Held m) e (λ b. no (cc))).2;
    no_ring = λ t c. no_ring_test s h g.no_ring t c.0 c.1;
    current_agrees = λ t c. sym (highest_is s 30 (g.no_ring t).0 t h g (g.no_ring t).1 (omega arith));
    kept_agrees = λ t c. keeps_test s (priority_of s t) (held_by s t) (g.agree t).kept;
    holds_nobody = λ t e. nobody (held_by s t) (λ u k. let q = of_held s u t k in clash (rw (ap (place_of s) q.2, e)) (held_good u q.0 q.1).alive);
    nobody_queued = λ t e z. nobody (queue s t e) (λ u k. let q = of_queue s u t e k in clash (rw (ap (place_of s) q.2, z)) (queued_good s u q.0 h q.1).alive);
    queued_entry = λ c q e. let k = queued_good s c q h e in (k.low, k.high);
    held_entry = λ c m e. let k = held_good c m e in (k.low, k.high);
    delays = h.delays;
    delayed_timed = λ t e. fits-at t Delayed e (λ b. no (cc));
    none_else = λ t w. timed t (place_of s t) refl w;
    due = λ t d e. let i = in_time s t d h e in (i.2, i.0, i.1);
    in_order = in_order (λ u. ticks_left s.clock (timer_of s u)) s.delays h.order;
    own_entries = λ t e o p y. own_entry o.opens e (task_of s t).entries y (fits-at t (Accepting o) p (λ b. no (cc))).0;
    no_further = λ t o e. (fits-at t (Accepting o) e (λ b. no (cc))).0;
    not-empty = λ t o e z. (fits-at t (Accepting o) e (λ b. no (cc))).1 z;
    no_caller = λ t e o z y. nobody (queue s t e) (λ u k. let q = of_queue s u t e k in
        clash (rw (ap (place_of s) q.2, z, q.3) y) (fits-at u (Queued q.0) q.1 (λ b. no (cc))).1);
  }

-- ── from the facts to soundness ──

module _ (s : State) (f : SoundFacts s) where
  queued_in : (c : ℕ) (q : Waiting) → place_of s c ≡ Queued q → 0 < count c (queue s q.target q.entry)
  queued_in c q e =
      omega (
        arith,
        count_filter_yes (waits_on s q.target q.entry) c s.callers (rw (e, eq-eqb q.target q.target refl, eq-eqb q.entry q.entry refl)),
        rw e at (f.queued c),
      )

  held_in : (c : ℕ) (m : Meeting) → place_of s c ≡ Held m → 0 < count c (held_by s m.holder)
  held_in c m e = omega (arith, count_filter_yes (holds s m.holder) c s.held (rw (e, eq-eqb m.holder m.holder refl)), rw e at (f.held c))

  untimed : (t : ℕ) (p : Place) → place_of s t ≡ p → may_be_timed p ≡ false → has_time (timer_of s t) ≡ false
  untimed t p e m = by_bool (has_time (timer_of s t)) (λ w. clash (rw e at (f.none_else t w)) m) (λ w. w)

  shut : (c : ℕ) (q : Waiting) → place_of s c ≡ Queued q → accepts (place_of s q.target) q.entry ≡ false
  shut c q e = by_bool (accepts (place_of s q.target) q.entry) open_there (λ a. a)
    where
      open_there : accepts (place_of s q.target) q.entry ≡ true → accepts (place_of s q.target) q.entry ≡ false
      open_there a =
          let o = accepts_is (place_of s q.target) q.entry a in
          absurd (someone c (queue s q.target q.entry) (f.no_caller q.target q.entry o.0 o.1 (rw o.1 at a)) (queued_in c q e))

  alive_queued : (c : ℕ) (q : Waiting) → place_of s c ≡ Queued q → is_completed (place_of s q.target) ≡ false
  alive_queued c q e =
      by_bool (is_completed (place_of s q.target))
      (λ z. absurd (someone c (queue s q.target q.entry) (f.nobody_queued q.target q.entry (completed_is _ z)) (queued_in c q e)))
      (λ z. z)

  alive_held : (c : ℕ) (m : Meeting) → place_of s c ≡ Held m → is_completed (place_of s m.holder) ≡ false
  alive_held c m e =
      by_bool (is_completed (place_of s m.holder))
      (λ z. absurd (someone c (held_by s m.holder) (f.holds_nobody m.holder (completed_is _ z)) (held_in c m e)))
      (λ z. z)

  fits-fact : (t : ℕ) → Created s t → (p : Place) → place_of s t ≡ p → Fits (task_of s t) (task_of s (partner_of p)) p (timer_of s t)
  fits-fact t c Blank e = clash (rw e refl) (f.one_of_six t c)
  fits-fact t c Ready e = untimed t Ready e refl
  fits-fact t c Delayed e = f.delayed_timed t e
  fits-fact t c (Queued q) e = let k = f.queued_entry t q e in (record { low = k.0; high = k.1; alive = alive_queued t q e }, shut t q e)
  fits-fact t c (Held m) e = let k = f.held_entry t m e in (record { low = k.0; high = k.1; alive = alive_held t m e }, untimed t (Held m) e refl, f.kept t m e)
  fits-fact t c (Accepting o) e = (f.no_further t o e, f.not-empty t o e)
  fits-fact t c Completed e = untimed t Completed e refl

  in_time_fact : (t : ℕ) (w : Timer) → timer_of s t ≡ w → InTime s.clock w
  in_time_fact t Off e = tt
  in_time_fact t (Due d) e = let i = f.due t d e in (i.1, i.2, i.0)

  pub sound_of : s.clock < 4294967296 → Sound s
  sound_of k = record {
    clock = k;
    few = f.at_most_31;
    good = λ u a b. record {
      numbers = record { own = f.priorities u (a, b); current = f.current u (a, b); few = f.entry_counts u (a, b) };
      place = fits-fact u (a, b) (place_of s u) refl;
      time = in_time_fact u (timer_of s u) refl;
    };
    ready = f.ready;
    callers = f.queued;
    held = f.held;
    delays = f.delays;
    order = ordered_of (λ u. ticks_left s.clock (timer_of s u)) s.delays f.in_order;
  }

  pub tree_facts : Sound s → Tree s
  tree_facts h =
      let r = tops_of s (λ t a b. f.no_ring t (a, b)) in
      record {
        agree = agree_of s h λ t a b. record {
          kept = keeps_of s (priority_of s t) (held_by s t) (f.kept_agrees t (a, b));
          current = local_of s t h r (λ u i j. f.current_agrees u (i, j)) a b;
        };
        no_ring = r;
      }

-- ── unused places ──

blanks_of : (a : List ℕ) → ((i : ℕ) → get_or a i 0 ≡ 0) → blanks a ≡ true
blanks_of [] h = refl
blanks_of (x ∷ xs) h = and_both (eq-eqb x 0 (h 0)) (blanks_of xs (λ i. h (suc i)))

tidy_at : (a : List ℕ) → tidy a ≡ true → BlankBehind a
tidy_at [] h i k = refl
tidy_at (zero ∷ xs) h zero k = refl
tidy_at (zero ∷ xs) h (suc i) k = blanks_at xs h i
tidy_at (suc n ∷ xs) h zero k = absurd (omega arith)
tidy_at (suc n ∷ xs) h (suc i) k = tidy_at xs h i (omega arith)

tidy_of : (a : List ℕ) → BlankBehind a → tidy a ≡ true
tidy_of [] h = refl
tidy_of (zero ∷ xs) h = blanks_of xs (λ i. h (suc i) (omega arith))
tidy_of (suc n ∷ xs) h = tidy_of xs (λ i k. h (suc i) (omega (arith, k)))

unused_at : (n : ℕ) (ts : List Task) → every unused (drop n ts) ≡ true → (i : ℕ) → n ≤ i → get_or ts i blank ≡ blank
unused_at n [] h i k = refl
unused_at zero (x ∷ xs) h zero k = blank_is x (and_first (unused x) (every unused xs) h)
unused_at zero (x ∷ xs) h (suc i) k = unused_at zero xs (and_second (unused x) (every unused xs) h) i (omega arith)
unused_at (suc n) (x ∷ xs) h zero k = absurd (omega arith)
unused_at (suc n) (x ∷ xs) h (suc i) k = unused_at n xs h i (omega arith)

unused_of : (n : ℕ) (ts : List Task) → ((i : ℕ) → n ≤ i → get_or ts i blank ≡ blank) → every unused (drop n ts) ≡ true
unused_of zero [] h = refl
unused_of (suc n) [] h = refl
unused_of zero (x ∷ xs) h = and_both (ap unused (h 0 (omega arith))) (unused_of zero xs (λ i k. h (suc i) (omega arith)))
unused_of (suc n) (x ∷ xs) h = unused_of n xs (λ i k. h (suc i) (omega arith))

-- ── both ways ──

struct_of : (s : Supervisor) → s.core.clock < 4294967296 → sound_whole s ≡ true → SoundStruct s
struct_of s c e =
    let p = parts s e in
    let k = core_parts s.core p.core in
    record {
      few = k.few;
      tasks = unused_at s.core.created s.core.tasks k.blank_behind;
      ready = tidy_at s.core.ready k.ready;
      callers = tidy_at s.callers p.callers;
      held = tidy_at s.core.held k.held;
      delays = tidy_at s.core.delays k.delays;
      state = let h = sound_props (view s) c p.state in facts_of (view s) h (tree_props (view s) h p.state);
    }

of_struct : (s : Supervisor) → s.core.clock < 4294967296 → SoundStruct s → sound_whole s ≡ true
of_struct s k f =
    rw (
      le-leb s.core.created 31 f.few,
      unused_of s.core.created s.core.tasks f.tasks,
      tidy_of s.core.ready f.ready,
      tidy_of s.callers f.callers,
      tidy_of s.core.held f.held,
      tidy_of s.core.delays f.delays,
    ) (sound_test (view s) (sound_of (view s) f.state k) (tree_facts (view s) f.state (sound_of (view s) f.state k)))

pub soundness_said : SoundnessSaid
soundness_said = record {
  of_state = λ s k. (λ e. let h = sound_props s k e in facts_of s h (tree_props s h e), λ f. let h = sound_of s f k in sound_test s h (tree_facts s f h));
  of_struct = λ s k. (struct_of s k, of_struct s k);
}
