-- ADVANCE through the contract of `step`: n ticks in one step, a stretch that is cut in two, and ADVANCE 0.
-- Assumes nothing.
use Rattle.std.specs.Prelude.{ℕ, ◌+◌, ◌≤◌, ◌<◌, ◌≡◌, List, [], ◌++◌, ltb, length}
use Rattle.lists.specs.Lists.{count}
use Rattle.rules.specs.Whole.{Typed, step_whole}
use Rattle.rules.specs.Runs.{reach_whole, log_whole}
use Rattle.rules.specs.Advance.{tick_asks, joined, moments}
use Rattle.rules.specs.Uses.{Use, Keeps, items_in}
use Rattle.rules.specs.declared.Item.{Item}
use Rattle.rules.specs.declared.Supervisor.{Supervisor}
use Rattle.calls.specs.declared.Call.TheVariants.{Tick, Advance}
use Rattle.statements.specs.Statement3.{Run, state_of}

-- the waits that a use ended, read off the bytes that it wrote
abbrev pub ended_in : Use → List Item
ended_in u = items_in u.gave.answer.ended u.wrote

-- both rooms are enough for a step, or both are too short
abbrev pub RoomsAlike : Use → Use → Type 0
RoomsAlike u v = ltb (length u.lent) 124 ≡ ltb (length v.lent) 124

-- u is answered as one TICK in its place is: refusal, result, task and partner
pub record LikeTick (s : Supervisor) (u : Use) : Type 0 where
  pub refusal : u.gave.answer.refusal ≡ (step_whole s Tick (length u.lent)).refusal
  pub result : u.gave.answer.result ≡ (step_whole s Tick (length u.lent)).answer.result
  pub task : u.gave.answer.task ≡ (step_whole s Tick (length u.lent)).answer.task
  pub partner : u.gave.answer.partner ≡ (step_whole s Tick (length u.lent)).answer.partner

-- the state and the list of u are those of n TICKs with their lists joined; its entry field counts the readings at which a wait ended,
-- all different, never above 31; it is answered like TICK
pub record TicksAlike (s : Supervisor) (n : ℕ) (u : Use) : Type 0 where
  pub state : u.gave.state ≡ reach_whole s (tick_asks n (length u.lent))
  pub ends : ended_in u ≡ joined (log_whole s (tick_asks n (length u.lent)))
  pub readings : u.gave.answer.entry ≡ length (moments (log_whole s (tick_asks n (length u.lent))))
  pub different : n < 4294967296 → (r : ℕ) → count r (moments (log_whole s (tick_asks n (length u.lent)))) ≤ 1
  pub few : u.gave.answer.entry ≤ 31
  pub answer : LikeTick s u

-- the list of u and then that of v are the list of w
abbrev pub EndsJoined : Use → Use → Use → Type 0
EndsJoined u v w = ended_in w ≡ ended_in u ++ ended_in v

-- the readings of u and those of v are as many as those of w
abbrev pub ReadingsAdded : Use → Use → Use → Type 0
ReadingsAdded u v w = w.gave.answer.entry ≡ u.gave.answer.entry + v.gave.answer.entry

-- u and then v leave the state of w, their lists joined are its list, and their numbers of readings add up to its;
-- the task dispatched at the end is the same, and if one of the three is refused, all are, with the same number
pub record CutAlike (u v w : Use) : Type 0 where
  pub state : w.gave.state ≡ v.gave.state
  pub ends : EndsJoined u v w
  pub readings : ReadingsAdded u v w
  pub next : w.gave.answer.next ≡ v.gave.answer.next
  pub refusals : (w.gave.answer.refusal ≡ u.gave.answer.refusal) × (w.gave.answer.refusal ≡ v.gave.answer.refusal)

-- u changes nothing: the state is the given one, no wait has ended, every byte of the room stays, no reading is counted
pub record Unchanged (s : Supervisor) (u : Use) : Type 0 where
  pub state : u.gave.state ≡ s
  pub ends : ended_in u ≡ []
  pub room : u.wrote ≡ u.lent
  pub readings : u.gave.answer.entry ≡ 0

-- of every struct of the type, sound or not, however it came about; a use is any that keeps the contract of `step`
pub record Cutting : Type 0 where
  -- ADVANCE n is n TICKs
  pub as_ticks : (s : Supervisor) → Typed s → (n : ℕ) (u : Use) → Keeps s u → u.call ≡ Advance n → TicksAlike s n u
  -- ADVANCE a followed by ADVANCE b is ADVANCE a + b, for all a and b
  pub cut : (s : Supervisor) → Typed s → (a b : ℕ) (u v w : Use) → Keeps s u → Keeps u.gave.state v → Keeps s w
      → u.call ≡ Advance a → v.call ≡ Advance b → w.call ≡ Advance (a + b) → RoomsAlike u v → RoomsAlike u w → CutAlike u v w
  -- ADVANCE 0 changes nothing
  pub nothing : (s : Supervisor) → Typed s → (u : Use) → Keeps s u → u.call ≡ Advance 0 → Unchanged s u
  -- a step gives such a struct again, so a stretch may be cut again and again; and a run from an empty supervisor reaches no others
  pub onward : (s : Supervisor) → Typed s → (u : Use) → Keeps s u → Typed u.gave.state
  pub reached : (clock : ℕ) (run : Run clock) → Typed (state_of run)
