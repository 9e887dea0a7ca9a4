-- Statement 3. Take any sequence of steps from an empty supervisor, refused steps included: soundness, every wait ended once for a
-- named reason, a caller in rendezvous released only by its end, timed waits exact.
-- A step here is any use of the function `step` that keeps its contract; all that is said is read off its answers and the bytes it wrote.
-- Assumes nothing.
use Rattle.std.specs.Prelude.{ℕ, ◌<◌, ◌≡◌, true, List, [], ◌∷◌}
use Rattle.rules.specs.Whole.{view, sound_whole}
use Rattle.rules.specs.SoundFacts.{SoundnessSaid}
use Rattle.rules.specs.Runs.{Entry, start}
use Rattle.rules.specs.OverRuns.{WaitsCounted, EndsOnce, WereWaiting, SixReasons, FewEnds, LeavesAll, HeldTillEnd, TimedWaits}
use Rattle.rules.specs.Orders.{OfThree, TimesInOrder, LongestFirst, LastFirst}
use Rattle.rules.specs.State.{current_of}
use Rattle.rules.specs.Tree.{highest_of, reaches_top}
use Rattle.rules.specs.Uses.{Use, Keeps, Chain, read_entry, read_log}
use Rattle.rules.specs.declared.Supervisor.{Supervisor}
use Rattle.supervisor.proofs.empty.Reads as empty

-- the state that the uses reach
abbrev pub reached : Supervisor → List Use → Supervisor
reached s [] = s
reached s (u ∷ us) = reached u.gave.state us

-- a sequence of uses of `step` from an empty supervisor with its clock at n
pub record Run (n : ℕ) : Type 0 where
  pub clock : n < 4294967296
  pub uses : List Use
  pub kept : Chain (start n) uses

-- the state that a run reaches, and its log
abbrev pub state_of : {n : ℕ} → Run n → Supervisor
state_of {n} run = reached (start n) run.uses

abbrev pub log_of : {n : ℕ} → Run n → List Entry
log_of {n} run = read_log (start n) run.uses

pub record Statement3 : Type 1 where
  -- "from an empty supervisor": whatever the contract of `empty` allows is the start of a run with that clock
  pub starts : (κs : _) (x : _) (r : _) (y : _) → empty.Learnt κs x r y → r ≡ start x.0
  -- "every state reached is sound"
  pub always_sound : (n : ℕ) (run : Run n) → sound_whole (state_of run) ≡ true
  -- and what is called sound is what document 01 calls so: the test holds exactly where its facts do
  pub soundness_said : SoundnessSaid
  -- no ring of holders: from each task at most 30 moves, each to the holder, reach a task that nobody holds
  pub no_ring : (n : ℕ) (run : Run n) (t : ℕ) → reaches_top (view (state_of run)) 30 t ≡ true
  -- a task's current priority is the highest created one among itself and everyone below it in the tree of held callers
  pub current_highest : (n : ℕ) (run : Run n) (t : ℕ) → current_of (view (state_of run)) t ≡ highest_of (view (state_of run)) 30 t
  -- "for each task the waits begun equal the waits ended plus one if it is waiting now"
  pub waits_counted : (n : ℕ) (run : Run n) → WaitsCounted (log_of run) (view (state_of run))
  -- "each ended wait ended once": then, and not again in the uses behind it before another has begun
  pub ends_once : (n : ℕ) (run : Run n) (u : Use) → Keeps (state_of run) u → (mid : List Use) → Chain u.gave.state mid
      → EndsOnce (read_entry (state_of run) u) (read_log u.gave.state mid)
  -- what ended was a wait
  pub were_waiting : (n : ℕ) (run : Run n) (u : Use) → Keeps (state_of run) u → WereWaiting (read_entry (state_of run) u)
  -- "for one of six named reasons"
  pub six_reasons : (n : ℕ) (run : Run n) (u : Use) → Keeps (state_of run) u → SixReasons (read_entry (state_of run) u)
  -- 124 bytes of room suffice
  pub few_ends : (n : ℕ) (run : Run n) (u : Use) → Keeps (state_of run) u → FewEnds (read_entry (state_of run) u)
  -- the fault that started this cannot be: whose wait has ended, by time or otherwise, stands in no entry queue, not among the callers or the held, and
  -- not in the delay queue, from that same step on
  pub leaves_all : (n : ℕ) (run : Run n) (u : Use) → Keeps (state_of run) u → LeavesAll (read_entry (state_of run) u)
  -- "a caller in rendezvous is released only by the end of that rendezvous"
  pub held_till_end : (n : ℕ) (run : Run n) (u : Use) → Keeps (state_of run) u → HeldTillEnd (read_entry (state_of run) u)
  -- the orders of document 01, of any three steps of a run: equal times end in the order in which the waits began; the caller that is taken is the
  -- longest-waiting one of its entry; of those whom a task holds, the rendezvous that began last ends first
  pub equal_times : (n : ℕ) (run : Run n) → OfThree (log_of run) TimesInOrder
  pub longest_first : (n : ℕ) (run : Run n) → OfThree (log_of run) LongestFirst
  pub last_first : (n : ℕ) (run : Run n) → OfThree (log_of run) LastFirst
  -- "a wait with a time of d ticks ends by that time at the d-th tick after it began, exactly when .."
  pub timed_waits : (n : ℕ) (run : Run n) (u : Use) → Keeps (state_of run) u → (mid : List Use) → Chain u.gave.state mid
      → (v : Use) → Keeps (reached u.gave.state mid) v
      → TimedWaits (read_entry (state_of run) u) (read_log u.gave.state mid) (read_entry (reached u.gave.state mid) v)
