-- When a state is sound, fact by fact, in the words of document 01 ("State, and when it is sound"): for the reader.
-- The tests of Sound.antt and Whole.antt pass exactly where these facts hold: `SoundnessSaid`, at the end.
-- Assumes nothing.
use Rattle.std.specs.Prelude.{ℕ, ◌≤◌, ◌<◌, ◌^◌, ◌≡◌, ◌↔◌, Bool, true, false, ◌&&◌, List, [], length, get_or, eqb, leb}
use Rattle.lists.specs.Lists.{bit, count, in_order_by}
use Rattle.lists.specs.Line.{line}
use Rattle.rules.specs.State.{State, blank, task_of, place_of, timer_of, priority_of, current_of, created, is_ready, is_queued, is_held, has_time, opens, queue, held_by, level, left, ticks_left}
use Rattle.rules.specs.Sound.{sound}
use Rattle.rules.specs.Tree.{highest_of, keeps, reaches_top}
use Rattle.rules.specs.Whole.{view, is_blank, sound_whole}
use Rattle.rules.specs.declared.Timer.TheVariants.{Due}
use Rattle.rules.specs.declared.Waiting.{Waiting}
use Rattle.rules.specs.declared.Meeting.{Meeting}
use Rattle.rules.specs.declared.Offer.{Offer}
use Rattle.rules.specs.declared.Place.{Place}
use Rattle.rules.specs.declared.Place.TheVariants.{Blank, Ready, Delayed, Queued, Held, Accepting, Completed}
use Rattle.rules.specs.declared.Supervisor.{Supervisor}

-- a priority is 1 to 15
abbrev pub InPriorities : ℕ → Type 0
InPriorities p = (1 ≤ p) × (p ≤ 15)

-- t is the number of a created task
abbrev pub Created : State → ℕ → Type 0
Created s t = (0 < t) × (t ≤ created s)

-- entry e is one that task t has
abbrev pub HasEntry : State → ℕ → ℕ → Type 0
HasEntry s t e = (0 < e) × (e ≤ (task_of s t).entries)

-- the places in which a task may wait with a time: delayed, queued, waiting to accept
abbrev pub may_be_timed : Place → Bool
may_be_timed Blank = false
may_be_timed Ready = false
may_be_timed Delayed = true
may_be_timed (Queued q) = true
may_be_timed (Held m) = false
may_be_timed (Accepting o) = true
may_be_timed Completed = false

-- a reading d of the clock is 1 to 2147483647 ticks from now, counted round the clock
abbrev pub DueLater : ℕ → ℕ → Type 0
DueLater now d = (d < 4294967296) × (1 ≤ left now d) × (left now d ≤ 2147483647)

-- a has no more ticks left than b
abbrev pub no_later : State → ℕ → ℕ → Bool
no_later s a b = leb (ticks_left s.clock (timer_of s a)) (ticks_left s.clock (timer_of s b))

-- a state is sound exactly when all of this holds
pub record SoundFacts (s : State) : Type 0 where
  -- the tasks are 1..n, n at most 31
  pub at_most_31 : created s ≤ 31
  -- with priority and entry count in range
  pub priorities : (t : ℕ) → Created s t → InPriorities (priority_of s t)
  pub entry_counts : (t : ℕ) → Created s t → (task_of s t).entries ≤ 8
  -- each created task is ready, delayed, queued on an entry, held in a rendezvous, waiting to accept, or completed
  pub one_of_six : (t : ℕ) → Created s t → is_blank (place_of s t) ≡ false
  -- and stands in exactly one of those places: once in the line of its place, in no other, and no other number in any
  pub ready : (t : ℕ) → count t s.ready ≡ bit (is_ready (place_of s t))
  pub queued : (t : ℕ) → count t s.callers ≡ bit (is_queued (place_of s t))
  pub held : (t : ℕ) → count t s.held ≡ bit (is_held (place_of s t))
  -- a ready one in the queue of its current priority
  pub own_level : (t p : ℕ) → count t (level s p) ≡ bit (is_ready (place_of s t) && eqb (current_of s t) p)
  -- current and kept ones in 1..15
  pub current : (t : ℕ) → Created s t → InPriorities (current_of s t)
  pub kept : (c : ℕ) (m : Meeting) → place_of s c ≡ Held m → InPriorities m.kept
  -- no ring: going from a task to its holder, and on, reaches a task that nobody holds after at most 30 moves
  pub no_ring : (t : ℕ) → Created s t → reaches_top s 30 t ≡ true
  -- a current priority is the highest created one among the task and everyone below it in the tree of held callers
  pub current_agrees : (t : ℕ) → Created s t → current_of s t ≡ highest_of s 30 t
  -- and each caller keeps the highest of the created one of its holder and the current ones of those held before it
  pub kept_agrees : (t : ℕ) → Created s t → keeps s (priority_of s t) (held_by s t) ≡ true
  -- a completed task holds nobody and has nobody queued
  pub holds_nobody : (t : ℕ) → place_of s t ≡ Completed → held_by s t ≡ []
  pub nobody_queued : (t e : ℕ) → place_of s t ≡ Completed → queue s t e ≡ []
  -- a queued or held caller's entry is one the called task has
  pub queued_entry : (c : ℕ) (q : Waiting) → place_of s c ≡ Queued q → HasEntry s q.target q.entry
  pub held_entry : (c : ℕ) (m : Meeting) → place_of s c ≡ Held m → HasEntry s m.holder m.entry
  -- the delay queue contains exactly the delayed tasks and those queued callers and acceptors that wait with a time
  pub delays : (t : ℕ) → count t s.delays ≡ bit (has_time (timer_of s t))
  pub delayed_timed : (t : ℕ) → place_of s t ≡ Delayed → has_time (timer_of s t) ≡ true
  pub none_else : (t : ℕ) → has_time (timer_of s t) ≡ true → may_be_timed (place_of s t) ≡ true
  -- each due 1 to 2147483647 ticks from now, counted round the clock
  pub due : (t d : ℕ) → timer_of s t ≡ Due d → DueLater s.clock d
  -- in order of ticks left
  pub in_order : in_order_by (no_later s) s.delays ≡ true
  -- an acceptor's open set names its own entries only
  pub own_entries : (t e : ℕ) (o : Offer) → place_of s t ≡ Accepting o → opens o.opens e ≡ true → HasEntry s t e
  -- and has no bit behind them
  pub no_further : (t : ℕ) (o : Offer) → place_of s t ≡ Accepting o → o.opens < 2 ^ (task_of s t).entries
  -- is not empty unless it waits with a time
  pub not-empty : (t : ℕ) (o : Offer) → place_of s t ≡ Accepting o → o.opens ≡ 0 → has_time (timer_of s t) ≡ true
  -- and none of its open entries has a caller queued
  pub no_caller : (t e : ℕ) (o : Offer) → place_of s t ≡ Accepting o → opens o.opens e ≡ true → queue s t e ≡ []

-- the places of an array behind its line are blank
abbrev pub BlankBehind : List ℕ → Type 0
BlankBehind a = (i : ℕ) → length (line a) ≤ i → get_or a i 0 ≡ 0

-- the struct: at most 31 tasks created, all unused places blank, and the state that it stands for is sound
pub record SoundStruct (s : Supervisor) : Type 0 where
  pub few : s.core.created ≤ 31
  pub tasks : (i : ℕ) → s.core.created ≤ i → get_or s.core.tasks i blank ≡ blank
  pub ready : BlankBehind s.core.ready
  pub callers : BlankBehind s.callers
  pub held : BlankBehind s.core.held
  pub delays : BlankBehind s.core.delays
  pub state : SoundFacts (view s)

-- the tests pass exactly where the facts hold (a clock reads 0..4294967295: it is a 32-bit word)
pub record SoundnessSaid : Type 0 where
  pub of_state : (s : State) → s.clock < 4294967296 → (sound s ≡ true) ↔ SoundFacts s
  pub of_struct : (s : Supervisor) → s.core.clock < 4294967296 → (sound_whole s ≡ true) ↔ SoundStruct s
