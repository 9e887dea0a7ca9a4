-- A run: any calls, refused ones too, with any rooms, one after the other; its log, and what is read off a log.
-- Assumes nothing.
use Rattle.std.specs.Prelude.{ℕ, ◌+◌, Bool, true, false, ◌&&◌, ◌||◌, List, [], ◌∷◌, length, eqb}
use Rattle.lists.specs.Lists.{when◌then◌else◌, bit}
use Rattle.rules.specs.State.{State, empty, place_of, is_held}
use Rattle.rules.specs.Step.{ticks, WAITS, ELAPSED, CALL_EXPIRED, ACCEPTED, DELAY_TAKEN}
use Rattle.rules.specs.Whole.{Whole, view, pack, step_whole}
use Rattle.rules.specs.declared.Item.{Item}
use Rattle.rules.specs.declared.Supervisor.{Supervisor}
use Rattle.rules.specs.declared.Place.{Place}
use Rattle.rules.specs.declared.Place.TheVariants.{Blank, Ready, Delayed, Queued, Held, Accepting, Completed}
use Rattle.calls.specs.declared.CallMode.TheVariants.{Simple, Timed, Conditional}
use Rattle.calls.specs.declared.SelectMode.TheVariants.{Plain, Else}
use Rattle.calls.specs.declared.SelectMode.TheVariants as S
use Rattle.calls.specs.declared.Call as C
use Rattle.calls.specs.declared.Call.TheVariants.{Create, Delay, Call, Select, End, Finish, Tick, Advance}

-- ── a run and its log ──

-- a call, and the length of the room lent with it
pub record Ask : Type 0 where
  pub call : C.Call
  pub room : ℕ

-- what a step gave: a refusal (0 if none), the answer, the ended waits, the dispatched task, and the state afterwards
pub record Given : Type 0 where
  pub refusal : ℕ
  pub answer : Item
  pub ended : List Item
  pub next : ℕ
  pub state : State

-- a step of a run: the state before, the call, and what the step gave
pub record Entry : Type 0 where
  pub before : State
  pub call : C.Call
  pub out : Given

-- what the step of the struct gave, with the state that its struct stands for
abbrev pub viewed : Whole → Given
viewed r = record { refusal = r.refusal; answer = r.answer; ended = r.ended; next = r.next; state = view r.state }

-- the supervisor with no tasks, its clock at n
abbrev pub start : ℕ → Supervisor
start n = pack (empty n)

-- the state after one step
abbrev pub after_step : Supervisor → Ask → Supervisor
after_step s a = (step_whole s a.call a.room).state

-- the log's line of one step
abbrev pub entry_whole : Supervisor → Ask → Entry
entry_whole s a = record { before = view s; call = a.call; out = viewed (step_whole s a.call a.room) }

-- the log of a run from s, step by step
abbrev pub log_whole : Supervisor → List Ask → List Entry
log_whole s [] = []
log_whole s (a ∷ rest) = entry_whole s a ∷ log_whole (after_step s a) rest

-- the state that a run from s reaches
abbrev pub reach_whole : Supervisor → List Ask → Supervisor
reach_whole s [] = s
reach_whole s (a ∷ rest) = reach_whole (after_step s a) rest

-- ── waits begun and ended ──

-- a task in this place waits
abbrev pub is_waiting : Place → Bool
is_waiting Blank = false
is_waiting Ready = false
is_waiting Delayed = true
is_waiting (Queued q) = true
is_waiting (Held m) = true
is_waiting (Accepting o) = true
is_waiting Completed = false

-- the step was accepted
abbrev pub is_accepted : Entry → Bool
is_accepted x = eqb x.out.refusal 0

-- the step was accepted and answers WAITS with task t
abbrev pub begins : ℕ → Entry → Bool
begins t x = is_accepted x && eqb x.out.answer.result WAITS && eqb x.out.answer.task t

-- how many waits of task t began in a log
abbrev pub begun : ℕ → List Entry → ℕ
begun t [] = 0
begun t (x ∷ xs) = bit (begins t x) + begun t xs

-- the reasons for which waits of task t ended, by a list of items
abbrev pub reasons : ℕ → List Item → List ℕ
reasons t [] = []
reasons t (i ∷ is) = when eqb i.task t then i.result ∷ reasons t is else reasons t is

-- how many waits of task t ended in a log
abbrev pub ended : ℕ → List Entry → ℕ
ended t [] = 0
ended t (x ∷ xs) = length (reasons t x.out.ended) + ended t xs

-- ── ticks ──

-- the ticks of a call: ADVANCE n counts as n
abbrev pub ticks_of : C.Call → ℕ
ticks_of (Create p n) = 0
ticks_of (Delay d) = 0
ticks_of (Call g e m) = 0
ticks_of (Select o m) = 0
ticks_of End = 0
ticks_of Finish = 0
ticks_of Tick = 1
ticks_of (Advance n) = n

-- the ticks of a step, refused ones not counted
abbrev pub ticks_in : Entry → ℕ
ticks_in x = when is_accepted x then ticks_of x.call else 0

-- the ticks of a log
abbrev pub tick_count : List Entry → ℕ
tick_count [] = 0
tick_count (x ∷ xs) = ticks_in x + tick_count xs

-- the ticks after which the wait that begins with a call ends by time; 0 where it has no time
abbrev pub duration : C.Call → ℕ
duration (Create p n) = 0
duration (Delay d) = ticks d
duration (Call g e Simple) = 0
duration (Call g e (Timed d)) = ticks d
duration (Call g e Conditional) = 0
duration (Select o Plain) = 0
duration (Select o (S.Delay d)) = ticks d
duration (Select o Else) = 0
duration End = 0
duration Finish = 0
duration Tick = 0
duration (Advance n) = 0

-- the reason for which the wait that begins with a call ends by time
abbrev pub time_reason : C.Call → ℕ
time_reason (Create p n) = 0
time_reason (Delay d) = ELAPSED
time_reason (Call g e m) = CALL_EXPIRED
time_reason (Select o m) = DELAY_TAKEN
time_reason End = 0
time_reason Finish = 0
time_reason Tick = 0
time_reason (Advance n) = 0

-- ── rendezvous and completion ──

-- the reason r is among them
abbrev pub has : ℕ → List ℕ → Bool
has r [] = false
has r (x ∷ xs) = eqb x r || has r xs

-- a rendezvous on the wait of task t has started: t is held now, or its own accept has come
abbrev pub engages : ℕ → Entry → Bool
engages t x = is_held (place_of x.out.state t) || has ACCEPTED (reasons t x.out.ended)

-- it has started somewhere in the log
abbrev pub engaged : ℕ → List Entry → Bool
engaged t [] = false
engaged t (x ∷ xs) = engages t x || engaged t xs

-- the call is FINISH
abbrev pub is_finish : C.Call → Bool
is_finish (Create p n) = false
is_finish (Delay d) = false
is_finish (Call g e m) = false
is_finish (Select o m) = false
is_finish End = false
is_finish Finish = true
is_finish Tick = false
is_finish (Advance n) = false

-- task g completes: an accepted FINISH of it
abbrev pub completes : ℕ → Entry → Bool
completes g x = is_accepted x && is_finish x.call && eqb x.out.answer.task g

-- task g completes somewhere in the log
abbrev pub completed : ℕ → List Entry → Bool
completed g [] = false
completed g (x ∷ xs) = completes g x || completed g xs

-- the task that a call waits for, 0 if it is no CALL
abbrev pub target : C.Call → ℕ
target (Create p n) = 0
target (Delay d) = 0
target (Call g e m) = g
target (Select o m) = 0
target End = 0
target Finish = 0
target Tick = 0
target (Advance n) = 0
