-- Statement 3: what holds of every run from an empty supervisor, whatever its clock, its calls and its rooms.
-- Assumes nothing.
use Rattle.std.specs.Prelude.{ℕ, ◌+◌, ◌≤◌, ◌<◌, ◌≡◌, ◌↔◌, ◌⊎◌, Bool, true, false, ◌&&◌, List, [], ◌∷◌, length, ltb, leb}
use Rattle.lists.specs.Lists.{bit, count, every, last}
use Rattle.rules.specs.State.{State, place_of, queue, held_by, running, current_of}
use Rattle.rules.specs.Tree.{highest_of, reaches_top}
use Rattle.rules.specs.Step.{item, SERVED}
use Rattle.rules.specs.Whole.{view, sound_whole}
use Rattle.rules.specs.Runs.{Ask, Entry, start, after_step, entry_whole, log_whole, reach_whole, is_waiting, begins, begun, reasons, ended, ticks_in, tick_count, duration, time_reason, engaged, completed, target}
use Rattle.rules.specs.declared.Item.{Item}
use Rattle.rules.specs.declared.Meeting.{Meeting}
use Rattle.rules.specs.declared.Place.TheVariants.{Ready, Held}
use Rattle.calls.specs.declared.Call as C
use Rattle.calls.specs.declared.Call.TheVariants.{End}

-- ── waits begun and ended ──

-- each task's waits begun are its waits ended, and one more if it waits in the state that the run has reached
abbrev pub WaitsCounted : List Entry → State → Type 0
WaitsCounted log s = (t : ℕ) → begun t log ≡ ended t log + bit (is_waiting (place_of s t))

-- a step x ends no two waits of a task; once it has ended one, none of that task ends in the log behind it before another has begun
pub record EndsOnce (x : Entry) (log : List Entry) : Type 0 where
  pub one : (t : ℕ) → length (reasons t x.out.ended) ≤ 1
  pub again : (t : ℕ) → 0 < length (reasons t x.out.ended) → begun t log ≡ 0 → ended t log ≡ 0

-- every task whose wait a step ends was waiting before the step
abbrev pub WereWaiting : Entry → Type 0
WereWaiting x = every (λ (i : Item). is_waiting (place_of x.before i.task)) x.out.ended ≡ true

-- the six reasons for which a wait ends: 1 ELAPSED, 2 SERVED, 3 CALL_EXPIRED, 4 TASKING_ERROR, 5 ACCEPTED, 6 DELAY_TAKEN
abbrev pub is_reason : ℕ → Bool
is_reason r = ltb 0 r && leb r 6

-- every wait that a step ends, it ends for one of them
abbrev pub SixReasons : Entry → Type 0
SixReasons x = every (λ (i : Item). is_reason i.result) x.out.ended ≡ true

-- a step ends at most 31 waits: at four bytes each, 124 bytes suffice
abbrev pub FewEnds : Entry → Type 0
FewEnds x = length x.out.ended ≤ 31

-- ── whose wait has ended stands in no queue any more ──

-- task t is ready, and stands in no entry queue, not in the line of callers, not among those held, and not in the delay queue
pub record Gone (t : ℕ) (s : State) : Type 0 where
  pub place : place_of s t ≡ Ready
  pub queues : (g e : ℕ) → count t (queue s g e) ≡ 0
  pub callers : count t s.callers ≡ 0
  pub held : count t s.held ≡ 0
  pub delays : count t s.delays ≡ 0

-- The fault that started this: "a timed entry call, on expiring, left the delay queue and stayed in its entry queue", and a task "later accepted the dead
-- call". It cannot be: whoever a step lists as ended, for whatever reason, has left all of them in that same step
abbrev pub LeavesAll : Entry → Type 0
LeavesAll x = (t : ℕ) → 0 < length (reasons t x.out.ended) → Gone t x.out.state

-- ── a caller in rendezvous ──

-- the caller c in the rendezvous m stays in it, and its wait does not end
pub record Stays (c : ℕ) (m : Meeting) (x : Entry) : Type 0 where
  pub place : place_of x.out.state c ≡ Held m
  pub ended : reasons c x.out.ended ≡ []

-- the step is its holder's END, with c the last that it holds, and lists c alone: SERVED, with the called entry and task
pub record Released (c : ℕ) (m : Meeting) (x : Entry) : Type 0 where
  pub call : x.call ≡ End
  pub by : running x.before ≡ m.holder
  pub latest : last (held_by x.before m.holder) ≡ c
  pub place : place_of x.out.state c ≡ Ready
  pub ended : x.out.ended ≡ item c SERVED m.entry m.holder ∷ []

-- a caller in rendezvous is released only by the end of that rendezvous
abbrev pub HeldTillEnd : Entry → Type 0
HeldTillEnd x = (c : ℕ) (m : Meeting) → place_of x.before c ≡ Held m → Stays c m x ⊎ Released c m x

-- ── a wait with a time ──

-- the wait of t that began with call c has not ended in the log, and ends by time in the step y
pub record EndsByTime (t : ℕ) (c : C.Call) (log : List Entry) (y : Entry) : Type 0 where
  pub still : ended t log ≡ 0
  pub time : reasons t y.out.ended ≡ time_reason c ∷ []

-- the d-th tick falls in the step y, no rendezvous on the wait of t that began in the step x has started before it,
-- and the task that it has called, if any, has not completed before it
pub record TimeReached (t d : ℕ) (x : Entry) (log : List Entry) (y : Entry) : Type 0 where
  pub later : tick_count log < d
  pub reached : d ≤ tick_count log + ticks_in y
  pub free : engaged t (x ∷ log) ≡ false
  pub alive : completed (target x.call) log ≡ false

-- a wait that begins in the step x with a time, then the steps of the log, then the step y
abbrev pub TimedWaits : Entry → List Entry → Entry → Type 0
TimedWaits x log y = (t : ℕ) → begins t x ≡ true → 0 < duration x.call → EndsByTime t x.call log y ↔ TimeReached t (duration x.call) x log y

-- ── the statement ──

-- of every run from an empty supervisor with its clock at n, and of every further step a
pub record OverRunsWhole : Type 0 where
  -- every state reached is sound
  pub always_sound : (n : ℕ) → n < 4294967296 → (run : List Ask) → sound_whole (reach_whole (start n) run) ≡ true
  -- no ring of holders: from each task at most 30 moves, each to the holder, reach a task that nobody holds
  pub no_ring : (n : ℕ) → n < 4294967296 → (run : List Ask) (t : ℕ) → reaches_top (view (reach_whole (start n) run)) 30 t ≡ true
  -- a task's current priority is the highest created one among itself and everyone below it in the tree of held callers
  pub current_highest : (n : ℕ) → n < 4294967296 → (run : List Ask) (t : ℕ)
      → let s = view (reach_whole (start n) run) in current_of s t ≡ highest_of s 30 t
  -- the waits begun equal the waits ended plus one if the task is waiting now
  pub waits_counted : (n : ℕ) → n < 4294967296 → (run : List Ask) → WaitsCounted (log_whole (start n) run) (view (reach_whole (start n) run))
  -- each ended wait ended once
  pub ends_once : (n : ℕ) → n < 4294967296 → (pre : List Ask) (a : Ask) (mid : List Ask)
      → let s = reach_whole (start n) pre in EndsOnce (entry_whole s a) (log_whole (after_step s a) mid)
  -- what ended was a wait
  pub were_waiting : (n : ℕ) → n < 4294967296 → (run : List Ask) (a : Ask) → WereWaiting (entry_whole (reach_whole (start n) run) a)
  -- for one of six named reasons
  pub six_reasons : (n : ℕ) → n < 4294967296 → (run : List Ask) (a : Ask) → SixReasons (entry_whole (reach_whole (start n) run) a)
  -- 124 bytes of room suffice
  pub few_ends : (n : ℕ) → n < 4294967296 → (run : List Ask) (a : Ask) → FewEnds (entry_whole (reach_whole (start n) run) a)
  -- whose wait has ended stands in no queue any more
  pub leaves_all : (n : ℕ) → n < 4294967296 → (run : List Ask) (a : Ask) → LeavesAll (entry_whole (reach_whole (start n) run) a)
  -- a caller in rendezvous is released only by the end of that rendezvous
  pub held_till_end : (n : ℕ) → n < 4294967296 → (run : List Ask) (a : Ask) → HeldTillEnd (entry_whole (reach_whole (start n) run) a)
  -- a wait with a time ends by that time at its tick, exactly when the run reaches that tick with nothing before it
  pub timed_waits : (n : ℕ) → n < 4294967296 → (pre : List Ask) (a : Ask) (mid : List Ask) (b : Ask)
      → let s = reach_whole (start n) pre in let s' = after_step s a in TimedWaits (entry_whole s a) (log_whole s' mid) (entry_whole (reach_whole s' mid) b)
