-- Statement 1. Each public operation ends and does nothing undefined on every input, a damaged supervisor state or a garbled
-- call record included. Bad input gets its refusal number. A refused step returns the state it was given, an empty list of
-- ended waits, and lent room untouched.
-- A struct is any value of its type, sound or damaged: `Typed` (rules, Whole.antt) says no more of it. A use is any use of `step` that keeps its contract: `Keeps`.
-- Assumes nothing.
use Rattle.std.specs.Prelude.{ℕ, ◌*◌, ◌≤◌, ◌<◌, ◌≡◌, ◌↔◌, true, false, List, length}
use Rattle.lists.specs.Once.{AsksNothing}
use Rattle.rules.specs.State as state
use Rattle.rules.specs.State.{queue}
use Rattle.rules.specs.Whole.{Typed, view, sound_whole, refused_answer}
use Rattle.rules.specs.Questions.{refusal_in, number_in, yes_in, count_whole, callable_whole, running_whole, priority_whole}
use Rattle.rules.specs.Uses.{Use, Keeps}
use Rattle.rules.specs.declared.Supervisor.{Supervisor}
use Rattle.calls.specs.Record.{encode}
use Rattle.calls.specs.Reading.{read_of, refusal_of, count_of, faulty}
use Rattle.calls.specs.Writing.{written_of, room_written, write_refusal_of}
use Rattle.calls.specs.declared.Call as C
use Rattle.calls.proofs.read_record.Statement as read_record
use Rattle.calls.proofs.write_record.Statement as write_record
use Rattle.supervisor.proofs.empty.Statement as empty
use Rattle.supervisor.proofs.running.Statement as running
use Rattle.supervisor.proofs.priority.Statement as priority
use Rattle.supervisor.proofs.step.Statement as step
use Rattle.supervisor.proofs.count.Statement as count
use Rattle.supervisor.proofs.callable.Statement as callable
use Rattle.supervisor.proofs.sound.Statement as sound
use Rattle.calls.proofs.read_record.Reads as of-read-record
use Rattle.calls.proofs.write_record.Reads as of-write-record
use Rattle.supervisor.proofs.empty.Reads as of-empty
use Rattle.supervisor.proofs.running.Reads as of-running
use Rattle.supervisor.proofs.priority.Reads as of-priority
use Rattle.supervisor.proofs.step.Reads as of_step
use Rattle.supervisor.proofs.count.Reads as of-count
use Rattle.supervisor.proofs.callable.Reads as of-callable
use Rattle.supervisor.proofs.sound.Reads as of-sound
use Rattle.statements.specs.Refusals.{rows, first_row}
use Rattle.statements.specs.Linked.{Linked}

-- a refused step gives back the state it was given, leaves every byte of the lent room, lists no ended wait, and answers 0 in all other numbers but the dispatched task
pub record Refused (s : Supervisor) (u : Use) : Type 0 where
  pub state : u.gave.state ≡ s
  pub room : u.wrote ≡ u.lent
  pub answer : u.gave.answer ≡ refused_answer u.gave.answer.refusal u.gave.answer.next

pub record Statement1 : Type 2 where
  -- "ends and does nothing undefined": what the gate proves of each public operation, under its name
  pub read_record : {M : Type 1} → read_record.statement M
  pub write_record : {M : Type 1} → write_record.statement M
  pub empty : {M : Type 1} → empty.statement M
  pub sound : {M : Type 1} → sound.statement M
  pub running : {M : Type 1} → running.statement M
  pub priority : {M : Type 1} → priority.statement M
  pub step : {M : Type 1} → step.statement M
  pub count : {M : Type 1} → count.statement M
  pub callable : {M : Type 1} → callable.statement M
  -- "on every input": the contract of each asks nothing of who calls
  pub read_record_asks : AsksNothing of-read-record.Asked
  pub write_record_asks : AsksNothing of-write-record.Asked
  pub empty_asks : AsksNothing of-empty.Asked
  pub sound_asks : AsksNothing of-sound.Asked
  pub running_asks : AsksNothing of-running.Asked
  pub priority_asks : AsksNothing of-priority.Asked
  pub step_asks : AsksNothing of_step.Asked
  pub count_asks : AsksNothing of-count.Asked
  pub callable_asks : AsksNothing of-callable.Asked
  -- both of the functions that other programs link: those of `card` and `workspace`, and the small ones of `calls`
  pub linked : Linked
  -- "bad input gets the refusal number": that of the first row of the table that applies, and 0, which is none, where no row does
  pub use_refused : (s : Supervisor) → Typed s → (u : Use) → Keeps s u → u.gave.answer.refusal ≡ first_row (rows s u.call (length u.lent))
  -- a question is refused, with 2, exactly when the state is not sound
  pub count_refused : (s : Supervisor) (t e : ℕ) → (refusal_in (count_whole s t e) ≡ 2) ↔ (sound_whole s ≡ false)
  pub callable_refused : (s : Supervisor) (t : ℕ) → (refusal_in (callable_whole s t) ≡ 2) ↔ (sound_whole s ≡ false)
  pub running_refused : (s : Supervisor) → (refusal_in (running_whole s) ≡ 2) ↔ (sound_whole s ≡ false)
  pub priority_refused : (s : Supervisor) (t : ℕ) → (refusal_in (priority_whole s t) ≡ 2) ↔ (sound_whole s ≡ false)
  -- a refused question answers 0 or no
  pub count_zero : (s : Supervisor) (t e : ℕ) → sound_whole s ≡ false → number_in (count_whole s t e) ≡ 0
  pub callable_no : (s : Supervisor) (t : ℕ) → sound_whole s ≡ false → yes_in (callable_whole s t) ≡ false
  pub running_zero : (s : Supervisor) → sound_whole s ≡ false → number_in (running_whole s) ≡ 0
  pub priority_zero : (s : Supervisor) (t : ℕ) → sound_whole s ≡ false → number_in (priority_whole s t) ≡ 0
  -- "a refused step returns the state it was given, an empty list of ended waits, and lent room untouched"
  pub use_untouched : (s : Supervisor) (u : Use) → Keeps s u → 0 < u.gave.answer.refusal → Refused s u
  -- the dispatched task that it answers is that of the unchanged state; 0 after 1 and 2
  pub refused_next : (s : Supervisor) (u : Use) → Keeps s u → 2 < u.gave.answer.refusal → u.gave.answer.next ≡ state.running (view s)
  pub short_next : (s : Supervisor) (u : Use) → Keeps s u → length u.lent < 124 → u.gave.answer.next ≡ 0
  pub unsound_next : (s : Supervisor) (u : Use) → Keeps s u → sound_whole s ≡ false → u.gave.answer.next ≡ 0
  -- 124 bytes are enough: at four bytes each, the waits that a step lists never need more, whatever the state
  pub room_enough : (s : Supervisor) → Typed s → (u : Use) → Keeps s u → 4 * u.gave.answer.ended ≤ 124
  -- the reader: BAD_RECORD exactly when bytes are left and one of six faults is there, END_OF_LOG exactly when none is left
  pub bad_record : (s : List ℕ) → (refusal_of (read_of s) ≡ 11) ↔ ((0 < length s) × (faulty s ≡ true))
  pub end_of_log : (s : List ℕ) → (refusal_of (read_of s) ≡ 12) ↔ (length s ≡ 0)
  -- a refused read takes 0 bytes
  pub takes_nothing : (s : List ℕ) → 0 < refusal_of (read_of s) → count_of (read_of s) ≡ 0
  -- the writer: SHORT_ROOM exactly when the room is below the record; a refused write leaves its room untouched
  pub short_room : (c : C.Call) (room : List ℕ) → (write_refusal_of (written_of (encode c) room) ≡ 1) ↔ (length room < length (encode c))
  pub writes_nothing : (c : C.Call) (room : List ℕ) → 0 < write_refusal_of (written_of (encode c) room) → room_written (encode c) room ≡ room
  -- how to provoke refusal 10? Not at all: a queue that the running task would join has at most 30 callers (so 10 is retired)
  pub no_overflow : (s : Supervisor) → Typed s → sound_whole s ≡ true → 0 < state.running (view s) → (g e : ℕ) → length (queue (view s) g e) ≤ 30
