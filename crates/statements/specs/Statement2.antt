-- Statement 2. Each step gives the next state, result, list of ended waits and dispatched task that the rules give. The dispatched
-- task heads the highest ready level. Call records are read and written so that each call has one record and each good record one call.
-- Assumes nothing.
use Rattle.std.specs.Prelude.{ℕ, ◌≤◌, ◌≡◌, true, false, List, ◌++◌, length, take, Ok}
use Rattle.rules.specs.State.{State, queue, current_of, is_task}
use Rattle.rules.specs.declared.Item.{Item}
use Rattle.rules.specs.Step.{took, take_call}
use Rattle.rules.specs.Whole.{Typed, view, sound_whole, done, step_whole}
use Rattle.rules.specs.Questions.{number_in, count_whole, callable_whole, running_whole, priority_whole}
use Rattle.rules.specs.EachStep.{Dispatched, waiting_on}
use Rattle.rules.specs.SoundFacts.{HasEntry}
use Rattle.rules.specs.Uses.{Keeps}
use Rattle.rules.specs.declared.Supervisor.{Supervisor}
use Rattle.calls.specs.declared.Call as C
use Rattle.calls.specs.Record.{encode}
use Rattle.calls.specs.Reading.{read_of}
use Rattle.calls.specs.Range.{InRange, Bytes}
use Rattle.calls.specs.Writing.{written_of, room_written}
use Rattle.calls.proofs.read_record.Reads as read_record
use Rattle.calls.proofs.write_record.Reads as write_record
use Rattle.supervisor.proofs.step.Reads as step
use Rattle.supervisor.proofs.sound.Reads as sound
use Rattle.supervisor.proofs.running.Reads as running
use Rattle.supervisor.proofs.priority.Reads as priority
use Rattle.supervisor.proofs.count.Reads as count
use Rattle.supervisor.proofs.callable.Reads as callable

pub record Statement2 : Type 1 where
  -- whatever the contract of `step` allows, in a state x .0 with the call x .1 .0 and a lent room, is a use that keeps the rules' step
  -- (x has what the function is given, r is its answer, y has what is lent as it is afterwards)
  pub as_the_rules : (κs : _) (x : _) (r : _) (y : _) → step.Learnt κs x r y
      → Keeps x.0 (record { call = x.1.0; lent = x.1.1.0.now; gave = r; wrote = y.1.1.0.now })
  -- the same of the reader, the writer and the questions: whatever their contracts allow is what the definitions say
  pub reads : (κs : _) (x : _) (r : _) (y : _) → read_record.Learnt κs x r y → r ≡ read_of x.0.now
  pub writes : (κs : _) (x : _) (r : _) (y : _) → write_record.Learnt κs x r y
      → (r ≡ written_of (encode x.0) x.1.0.now) × (y.1.0.now ≡ room_written (encode x.0) x.1.0.now)
  pub tells_sound : (κs : _) (x : _) (r : _) (y : _) → sound.Learnt κs x r y → r ≡ sound_whole x.0
  pub tells_running : (κs : _) (x : _) (r : _) (y : _) → running.Learnt κs x r y → r ≡ running_whole x.0
  pub tells_count : (κs : _) (x : _) (r : _) (y : _) → count.Learnt κs x r y → r ≡ count_whole x.0 x.1.0 x.1.1.0
  pub tells_priority : (κs : _) (x : _) (r : _) (y : _) → priority.Learnt κs x r y → r ≡ priority_whole x.0 x.1.0
  pub tells_callable : (κs : _) (x : _) (r : _) (y : _) → callable.Learnt κs x r y → r ≡ callable_whole x.0 x.1.0
  -- with room enough and in a sound state, the rules' step is the rule of the call: next state, result, ended waits, dispatched task
  pub the_rule : (s : Supervisor) (c : C.Call) (n : ℕ) → 124 ≤ n → sound_whole s ≡ true → step_whole s c n ≡ done s (take_call (view s) c)
  -- and its struct stands for the rule's next state: `pack` cuts nothing off
  pub next_state : (s : Supervisor) → Typed s → sound_whole s ≡ true → (c : C.Call) (n : ℕ) → 124 ≤ n → (st : State) (a : Item) (l : List Item)
      → take_call (view s) c ≡ took st a l → view (step_whole s c n).state ≡ st
  -- "the dispatched task heads the highest ready level"; it is 0 where nobody is ready
  pub dispatched : (s : Supervisor) → Typed s → sound_whole s ≡ true → (c : C.Call) (n : ℕ) → 124 ≤ n
      → Dispatched (view (step_whole s c n).state) (step_whole s c n).next
  -- "each call has one record": it is read back as that call, whatever bytes follow, and no other call has it
  pub read_back : (c : C.Call) → InRange c → (rest : List ℕ) → read_of (encode c ++ rest) ≡ Ok (record { call = c; count = length (encode c) })
  pub one_call : (c c' : C.Call) → InRange c → InRange c' → encode c ≡ encode c' → c ≡ c'
  -- "each good record one call": what is accepted is the record of the call that it gives
  pub good_record : (s : List ℕ) (c : C.Call) (n : ℕ) → Bytes s → read_of s ≡ Ok (record { call = c; count = n }) → take n s ≡ encode c
  -- COUNT is the length of that queue, 0 for a task or entry that is not there, and so the number of tasks that wait on that entry
  pub count_is_length : (s : Supervisor) (t e : ℕ) → sound_whole s ≡ true → number_in (count_whole s t e) ≡ length (queue (view s) t e)
  pub count_absent : (s : Supervisor) → Typed s → sound_whole s ≡ true → (t e : ℕ) → (HasEntry (view s) t e → ⊥) → number_in (count_whole s t e) ≡ 0
  pub count_is_number : (s : Supervisor) → Typed s → sound_whole s ≡ true → (t e : ℕ) → number_in (count_whole s t e) ≡ length (waiting_on (view s) t e)
  -- the priority worked out afresh down the tree is the current one; 0 for a number not created
  pub priority_is_current : (s : Supervisor) → Typed s → sound_whole s ≡ true → (t : ℕ) → number_in (priority_whole s t) ≡ current_of (view s) t
  pub priority_absent : (s : Supervisor) → Typed s → sound_whole s ≡ true → (t : ℕ) → is_task (view s) t ≡ false → number_in (priority_whole s t) ≡ 0
