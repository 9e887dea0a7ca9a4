-- Who stands in a line or a queue, and what is known of the running task.
-- Assumes nothing.
use Prim.Native.Nat.{ℕ, zero, suc, ◌≤◌, ◌<◌}
use mathlib.Core.Path.{◌≡◌, refl, ap}
use mathlib.Core.Bool.{Bool, true, false, ◌&&◌}
use mathlib.Core.List.{List, [], ◌∷◌}
use native.Mathlib.Omega.{arith}
use lib.ListN.{length, get_or-eq_default}
use lib.Dec.{eqb, leb}
use borrow.Author.Tests.{eqb-true, eq-eqb, leb-true, leb-false}
use Rattle.lists.specs.Lists.{bit, count, filter, first, last}
use Rattle.rules.specs.State.{State, blank, nth, task_of, place_of, timer_of, is_ready, is_queued, is_held, partner_of, entry_of, has_time, queue, held_by, level, head_up_to, running, waits_on, holds, at_level}
use Rattle.rules.specs.Runs.{is_waiting}
use Rattle.rules.specs.declared.Task.{Task}
use Rattle.rules.specs.declared.Waiting.{Waiting}
use Rattle.rules.specs.declared.Meeting.{Meeting}
use Rattle.rules.specs.declared.Place.{Place}
use Rattle.rules.specs.declared.Place.TheVariants.{Blank, Ready, Delayed, Queued, Held, Accepting, Completed}
use Rattle.lists.proofs.Tests.{no, and_first, and_second}
use Rattle.lists.proofs.ListLaws.{clash, by_bool, count_filter_yes, count_filter_no}
use Rattle.rules.proofs.Invariant.{Calls, Sound}

-- ── members of a filtered list, the first and the last ──

pub in_filter : (f : ℕ → Bool) (u : ℕ) (l : List ℕ) → 0 < count u (filter f l) → (f u ≡ true) × (0 < count u l)
in_filter f u l h = by_bool (f u) (λ e. (e, omega (arith, count_filter_yes f u l e))) (λ e. absurd (omega (arith, count_filter_no f u l e)))

pub last_in : (t : ℕ) (l : List ℕ) → last l ≡ suc t → 0 < count (suc t) l
last_in t [] e = absurd (omega arith)
last_in t (x ∷ []) e = rw (eq-eqb x (suc t) e) (omega arith)
last_in t (x ∷ y ∷ ys) e = omega (arith, last_in t (y ∷ ys) e)

pub running_in : (s : State) (t p : ℕ) → head_up_to s p ≡ suc t → 0 < count (suc t) s.ready
running_in s t zero e = absurd (omega arith)
running_in s t (suc p) e = go (level s (suc p)) refl e (running_in s t p)
  where
    go : (l : List ℕ) → level s (suc p) ≡ l → elim l as (λ _. ℕ) [ [] ↦ head_up_to s p | x ∷ xs ↦ x ] ≡ suc t → (head_up_to s p ≡ suc t → 0 < count (suc t) s.ready) → 0 < count (suc t) s.ready
    go [] q e k = k e
    go (x ∷ xs) q e k = (in_filter (at_level s (suc p)) (suc t) s.ready (rw q (rw (eq-eqb x (suc t) e) (omega arith)))).1

-- ── what the places say ──

pub ready_is : (p : Place) → is_ready p ≡ true → p ≡ Ready
ready_is Ready e = refl
ready_is Blank e = cc
ready_is Delayed e = cc
ready_is (Queued q) e = cc
ready_is (Held m) e = cc
ready_is (Accepting o) e = cc
ready_is Completed e = cc

pub bit_true : (b : Bool) → 0 < bit b → b ≡ true
bit_true true h = refl
bit_true false h = absurd (omega arith)

-- a number that was never given is blank
pub nth_beyond : (l : List Task) (u : ℕ) → length l < u → nth l u ≡ blank
nth_beyond l zero h = absurd (omega arith)
nth_beyond l (suc u) h = get_or-eq_default l blank (omega arith)

-- a task that is not blank was created
given : (ts : List Task) (u : ℕ) → (nth ts u ≡ blank → ⊥) → (0 < u) × (u ≤ length ts)
given ts zero h = absurd (h refl)
given ts (suc u) h = by_bool (leb (suc u) (length ts)) (λ e. (omega arith, leb-true (suc u) (length ts) e)) (λ e. absurd (h (nth_beyond ts (suc u) (leb-false (suc u) (length ts) e))))

pub there : (ts : List Task) (u : ℕ) → ((nth ts u).place ≡ Blank → ⊥) → (0 < u) × (u ≤ length ts)
there ts u h = given ts u (λ b. h (ap (λ (x : Task). x.place) b))

pub not-blank : (p : Place) → p ≡ Ready → p ≡ Blank → ⊥
not-blank p a b = no (cc)

-- ── the running task ──

pub record Runs (s : State) (t : ℕ) : Type 0 where
  pub low : 0 < t
  pub high : t ≤ length s.tasks
  pub place : place_of s t ≡ Ready

pub runs : (s : State) (t : ℕ) → Sound s → running s ≡ suc t → Runs s (suc t)
unfolding running
runs s t h e = record { low = omega arith; high = (there s.tasks (suc t) (not-blank (place_of s (suc t)) is)).1; place = is }
  where
    is : place_of s (suc t) ≡ Ready
    is = ready_is (place_of s (suc t)) (bit_true (is_ready (place_of s (suc t))) (omega (arith, running_in s t 15 e, h.ready (suc t))))

-- ── queues ──

pub first_member : (l : List ℕ) → 0 < length l → 0 < count (first l) l
first_member [] h = absurd (omega arith)
first_member (x ∷ xs) h = rw (eq-eqb x x refl) (omega arith)

pub some_length : (u : ℕ) (l : List ℕ) → 0 < count u l → 0 < length l
some_length u [] h = h
some_length u (x ∷ xs) h = omega arith

-- the place of a caller that waits on entry e of task t
abbrev pub WaitsOn : Place → ℕ → ℕ → Type 0
WaitsOn p t e = (q : Waiting) × (p ≡ Queued q) × (q.target ≡ t) × (q.entry ≡ e)

pub queued_is : (p : Place) (t e : ℕ) → (is_queued p && eqb (partner_of p) t && eqb (entry_of p) e) ≡ true → WaitsOn p t e
queued_is (Queued q) t e h = (q, refl, eqb-true q.target t (and_first (eqb q.target t) (eqb q.entry e) h), eqb-true q.entry e (and_second (eqb q.target t) (eqb q.entry e) h))
queued_is Blank t e h = clash h refl
queued_is Ready t e h = clash h refl
queued_is Delayed t e h = clash h refl
queued_is (Held m) t e h = clash h refl
queued_is (Accepting o) t e h = clash h refl
queued_is Completed t e h = clash h refl

pub held_is : (p : Place) (t : ℕ) → (is_held p && eqb (partner_of p) t) ≡ true → (m : Meeting) × (p ≡ Held m) × (m.holder ≡ t)
held_is (Held m) t h = (m, refl, eqb-true m.holder t h)
held_is Blank t h = clash h refl
held_is Ready t h = clash h refl
held_is Delayed t h = clash h refl
held_is (Queued q) t h = clash h refl
held_is (Accepting o) t h = clash h refl
held_is Completed t h = clash h refl

pub of_queue : (s : State) (u t e : ℕ) → 0 < count u (queue s t e) → WaitsOn (place_of s u) t e
of_queue s u t e h =
    queued_is (place_of s u) t e
    (in_filter (waits_on s t e) u s.callers h).0

pub in_queue : (s : State) (u : ℕ) (q : Waiting) → Sound s → place_of s u ≡ Queued q → 0 < count u (queue s q.target q.entry)
in_queue s u q h e =
    omega (
      arith,
      count_filter_yes (waits_on s q.target q.entry) u s.callers (rw (e, eq-eqb q.target q.target refl, eq-eqb q.entry q.entry refl)),
      rw e at (h.callers u),
    )

pub of_held : (s : State) (u t : ℕ) → 0 < count u (held_by s t) → (m : Meeting) × (place_of s u ≡ Held m) × (m.holder ≡ t)
of_held s u t h = held_is (place_of s u) t (in_filter (holds s t) u s.held h).0

pub in_held : (s : State) (u : ℕ) (m : Meeting) → Sound s → place_of s u ≡ Held m → 0 < count u (held_by s m.holder)
in_held s u m h q =
    omega (arith, count_filter_yes (holds s m.holder) u s.held (rw (q, eq-eqb m.holder m.holder refl)), rw q at (h.held u))

pub queued_there : (s : State) (u : ℕ) (q : Waiting) → place_of s u ≡ Queued q → (0 < u) × (u ≤ length s.tasks)
queued_there s u q e = there s.tasks u (λ b. no (cc))

pub held_there : (s : State) (u : ℕ) (m : Meeting) → place_of s u ≡ Held m → (0 < u) × (u ≤ length s.tasks)
held_there s u m q = there s.tasks u (λ b. no (cc))

pub queued_good : (s : State) (u : ℕ) (q : Waiting) → Sound s → place_of s u ≡ Queued q → Calls (task_of s q.target) q.entry
queued_good s u q h e = let i = queued_there s u q e in (rw e at (h.good u i.0 i.1).place).0

pub timed_there : (s : State) (u : ℕ) → has_time (timer_of s u) ≡ true → (0 < u) × (u ≤ length s.tasks)
timed_there s u h = given s.tasks u (λ b. clash h (ap (λ (x : Task). has_time x.timer) b))

-- who is queued waits
pub queued_waits : (p : Place) → is_queued p ≡ true → is_waiting p ≡ true
queued_waits (Queued q) e = refl
queued_waits Blank e = clash e refl
queued_waits Ready e = clash e refl
queued_waits Delayed e = clash e refl
queued_waits (Held m) e = clash e refl
queued_waits (Accepting o) e = clash e refl
queued_waits Completed e = clash e refl
