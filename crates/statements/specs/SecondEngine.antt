-- The second engine (request (v)): all calls to a task in one queue, whatever the entry. Take any sequence of calls from empty, with any clock
-- and any lent rooms, refused calls included: it answers as the first engine does, lists of ended waits and dispatched tasks included.
-- A step here is any use of either function `step` that keeps its contract; what is compared is the answer's seven numbers, and every byte of
-- the lent room afterwards, in which the list of ended waits stands.
-- Assumes nothing.
use Rattle.std.specs.Prelude.{ℕ, ◌<◌, ◌≤◌, ◌≡◌, true, false, List, [], map}
use Rattle.lists.specs.Once.{AsksNothing}
use Rattle.rules.specs.Questions.{count_whole, callable_whole, running_whole, priority_whole}
use Rattle.rules.specs.Runs.{start}
use Rattle.rules.specs.Second.{view_second, pack_second, sound_second, step_second, start_second, count_second, callable_second, running_second, priority_second, SecondKeeps, second_reached, BothRun, replied_of, second_replied}
use Rattle.rules.specs.Step.{take_call, room_after}
use Rattle.rules.specs.Whole.{done_by}
use Rattle.rules.specs.declared.Second.{Second}
use Rattle.calls.specs.declared.Call as C
use Rattle.second.proofs.empty.Reads as of-empty
use Rattle.second.proofs.step.Reads as of_step
use Rattle.second.proofs.sound.Reads as of-sound
use Rattle.second.proofs.running.Reads as of-running
use Rattle.second.proofs.priority.Reads as of-priority
use Rattle.second.proofs.count.Reads as of-count
use Rattle.second.proofs.callable.Reads as of-callable
use Rattle.second.proofs.empty.Statement as empty
use Rattle.second.proofs.step.Statement as step
use Rattle.second.proofs.sound.Statement as sound
use Rattle.second.proofs.running.Statement as running
use Rattle.second.proofs.priority.Statement as priority
use Rattle.second.proofs.count.Statement as count
use Rattle.second.proofs.callable.Statement as callable
use Rattle.statements.specs.Statement3.{reached}

pub record SecondEngine : Type 2 where
  -- each of its functions ends and does nothing undefined on every input, a damaged state included: what the gate proves of it, under its name
  pub empty : {M : Type 1} → empty.statement M
  pub step : {M : Type 1} → step.statement M
  pub sound : {M : Type 1} → sound.statement M
  pub running : {M : Type 1} → running.statement M
  pub priority : {M : Type 1} → priority.statement M
  pub count : {M : Type 1} → count.statement M
  pub callable : {M : Type 1} → callable.statement M
  -- and their contracts ask nothing of who calls
  pub empty_asks : AsksNothing of-empty.Asked
  pub step_asks : AsksNothing of_step.Asked
  pub sound_asks : AsksNothing of-sound.Asked
  pub running_asks : AsksNothing of-running.Asked
  pub priority_asks : AsksNothing of-priority.Asked
  pub count_asks : AsksNothing of-count.Asked
  pub callable_asks : AsksNothing of-callable.Asked
  -- whatever the contract of `empty` allows is the start of a run with that clock; whatever that of `step` allows, in a state x .0 with the call
  -- x.1.0 and a lent room, is a use that keeps it (x has what the function is given, r is its answer, y has what is lent as it is afterwards)
  pub starts : (κs : _) (x : _) (r : _) (y : _) → of-empty.Learnt κs x r y → r ≡ start_second x.0
  pub steps : (κs : _) (x : _) (r : _) (y : _) → of_step.Learnt κs x r y
      → SecondKeeps x.0 (record { call = x.1.0; lent = x.1.1.0.now; gave = r; wrote = y.1.1.0.now })
  -- the same of the questions
  pub tells_sound : (κs : _) (x : _) (r : _) (y : _) → of-sound.Learnt κs x r y → r ≡ sound_second x.0
  pub tells_running : (κs : _) (x : _) (r : _) (y : _) → of-running.Learnt κs x r y → r ≡ running_second x.0
  pub tells_priority : (κs : _) (x : _) (r : _) (y : _) → of-priority.Learnt κs x r y → r ≡ priority_second x.0 x.1.0
  pub tells_count : (κs : _) (x : _) (r : _) (y : _) → of-count.Learnt κs x r y → r ≡ count_second x.0 x.1.0 x.1.1.0
  pub tells_callable : (κs : _) (x : _) (r : _) (y : _) → of-callable.Learnt κs x r y → r ≡ callable_second x.0 x.1.0
  -- "over every sequence of calls from empty it answers as the first does, lists and dispatched tasks included": two chains of uses, asked the same
  pub answers_alike : (n : ℕ) (run : BothRun n) → map second_replied run.second ≡ map replied_of run.first
  -- and so it answers every question afterwards; its states stay sound
  pub sound_after : (n : ℕ) (run : BothRun n) → sound_second (second_reached (start_second n) run.second) ≡ true
  pub running_alike : (n : ℕ) (run : BothRun n) → running_second (second_reached (start_second n) run.second) ≡ running_whole (reached (start n) run.first)
  pub priority_alike : (n : ℕ) (run : BothRun n) (t : ℕ) → priority_second (second_reached (start_second n) run.second) t ≡ priority_whole (reached (start n) run.first) t
  pub count_alike : (n : ℕ) (run : BothRun n) (t e : ℕ) → count_second (second_reached (start_second n) run.second) t e ≡ count_whole (reached (start n) run.first) t e
  pub callable_alike : (n : ℕ) (run : BothRun n) (t : ℕ) → callable_second (second_reached (start_second n) run.second) t ≡ callable_whole (reached (start n) run.first) t
  -- "the same numbers, BAD_STATE by its state's own soundness rule": SHORT_ROOM first, BAD_STATE where that rule fails, and else the rule of the call
  pub short_room : (x : Second) (c : C.Call) (n : ℕ) → n < 124 → (step_second x c n).refusal ≡ 1
  pub bad_state : (x : Second) (c : C.Call) (n : ℕ) → 124 ≤ n → sound_second x ≡ false → (step_second x c n).refusal ≡ 2
  pub the_rule : (x : Second) (c : C.Call) (n : ℕ) → 124 ≤ n → sound_second x ≡ true → step_second x c n ≡ done_by pack_second x (view_second x) (take_call (view_second x) c)
  -- a refused step returns the state it was given, no ended waits, and lent room untouched
  pub refused_state : (x : Second) (c : C.Call) (n : ℕ) → 0 < (step_second x c n).refusal → (step_second x c n).state ≡ x
  pub refused_list : (x : Second) (c : C.Call) (n : ℕ) → 0 < (step_second x c n).refusal → (step_second x c n).ended ≡ []
  pub refused_room : (x : Second) (c : C.Call) (n : ℕ) → 0 < (step_second x c n).refusal → (room : List ℕ) → room_after room (step_second x c n).ended ≡ room
