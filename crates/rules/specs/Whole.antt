-- The struct of the code: the lines of a state in arrays of 31, blank behind.
-- Assumes nothing.
use Rattle.std.specs.Prelude.{ℕ, ◌-◌, ◌<◌, ◌≡◌, Bool, true, false, not, ◌&&◌, List, [], ◌++◌, length, take, drop, replicate, eqb, ltb, leb}
use Rattle.lists.specs.Line.{line, pad, tidy}
use Rattle.lists.specs.Lists.{when◌then◌else◌, every}
use Rattle.rules.specs.State.{State, blank, created, has_time}
use Rattle.rules.specs.Sound.{sound}
use Rattle.rules.specs.Step.{Outcome, refused, took, number, none, take_call}
use Rattle.rules.specs.declared.Refusal.{Refusal}
use Rattle.rules.specs.declared.Refusal.TheVariants.{ShortRoom, BadState}
use Rattle.rules.specs.declared.Item.{Item}
use Rattle.rules.specs.State.{running}
use Rattle.calls.specs.declared.Call as C
use Rattle.rules.specs.declared.Task.{Task}
use Rattle.rules.specs.declared.Place.{Place}
use Rattle.rules.specs.declared.Place.TheVariants.{Blank, Ready, Delayed, Queued, Held, Accepting, Completed}
use Rattle.rules.specs.Callers.{with_callers}
use Rattle.rules.specs.declared.Core.{Core}
use Rattle.rules.specs.declared.Supervisor.{Supervisor}
use Rattle.rules.specs.declared.Answer.{Answer}
use Rattle.rules.specs.declared.Stepped.{Stepped}

-- what the type of the struct says of a value: a clock of 32 bits, arrays of 31; nothing else is ever asked of a struct
pub record TypedCore (k : Core) : Type 0 where
  pub clock : k.clock < 4294967296
  pub tasks : length k.tasks ≡ 31
  pub ready : length k.ready ≡ 31
  pub held : length k.held ≡ 31
  pub delays : length k.delays ≡ 31

pub record Typed (s : Supervisor) : Type 0 where
  pub core : TypedCore s.core
  pub callers : length s.callers ≡ 31

-- the state that a core stands for: one with no callers
abbrev pub view_core : Core → State
view_core k = record {
  clock = k.clock;
  tasks = take k.created k.tasks;
  ready = line k.ready;
  callers = [];
  held = line k.held;
  delays = line k.delays;
}

-- the state that a struct stands for
abbrev pub view : Supervisor → State
view s = with_callers (view_core s.core) (line s.callers)

-- the core of the struct that stands for a state: blank behind the tasks, 0 behind the numbers of each line
abbrev pub pack_core : State → Core
pack_core s = record {
  clock = s.clock;
  created = created s;
  tasks = s.tasks ++ replicate (31 - created s) blank;
  ready = pad s.ready;
  held = pad s.held;
  delays = pad s.delays;
}

-- the struct that stands for a state
abbrev pub pack : State → Supervisor
pack s = record { core = pack_core s; callers = pad s.callers }

-- ── all unused places are blank ──

-- no place: an unused one
abbrev pub is_blank : Place → Bool
is_blank Blank = true
is_blank Ready = false
is_blank Delayed = false
is_blank (Queued q) = false
is_blank (Held m) = false
is_blank (Accepting o) = false
is_blank Completed = false

-- a blank task
abbrev pub unused : Task → Bool
unused t = eqb t.priority 0 && eqb t.entries 0 && is_blank t.place && not (has_time t.timer) && eqb t.current 0

-- at most 31 tasks created, and all unused places blank
abbrev pub packed_core : Core → Bool
packed_core k = leb k.created 31 && every unused (drop k.created k.tasks) && tidy k.ready && tidy k.held && tidy k.delays

-- the struct is sound: unused places blank, and the state that it stands for is sound
abbrev pub sound_whole : Supervisor → Bool
sound_whole s = packed_core s.core && tidy s.callers && sound (view s)

-- ── the step of the code ──

-- a refusal (0 if none), the answer, the ended waits, the dispatched task, and the struct afterwards
pub record StepOf (S : Type 0) : Type 0 where
  pub refusal : ℕ
  pub answer : Item
  pub ended : List Item
  pub next : ℕ
  pub state : S

-- a refused step: the struct as it was, no ended waits, and 0 in all other numbers but the dispatched task n
abbrev pub decline : {S : Type 0} → S → Refusal → ℕ → StepOf S
decline s r n = record { refusal = number r; answer = none; ended = []; next = n; state = s }

-- a call as it was taken or refused, with the dispatched task afterwards; s stands for v, and `pack` keeps a state
abbrev pub done_by : {S : Type 0} → (State → S) → S → State → Outcome → StepOf S
done_by pack s v (refused r) = decline s r (running v)
done_by pack s v (took st a l) = record { refusal = 0; answer = a; ended = l; next = running st; state = pack st }

-- the whole step of an engine, with a room of so many bytes: SHORT_ROOM first, then BAD_STATE by its own rule, then what the call itself gives
abbrev pub step_by : {S : Type 0} → (State → S) → Bool → S → State → C.Call → ℕ → StepOf S
step_by pack is_sound s v c room =
    when ltb room 124 then decline s ShortRoom 0
    else when not is_sound then decline s BadState 0
    else done_by pack s v (take_call v c)

-- of the first engine
abbrev pub Whole : Type 0
Whole = StepOf Supervisor

abbrev pub done : Supervisor → Outcome → Whole
done s o = done_by pack s (view s) o

unfoldable pub step_whole : Supervisor → C.Call → ℕ → Whole
step_whole s c room = step_by pack (sound_whole s) s (view s) c room

-- the answer's seven numbers
abbrev pub answer_of : {S : Type 0} → StepOf S → Answer
answer_of w = record {
  refusal = w.refusal;
  result = w.answer.result;
  task = w.answer.task;
  entry = w.answer.entry;
  partner = w.answer.partner;
  ended = length w.ended;
  next = w.next;
}

-- the answer of a call or record that is refused: the refusal, and the dispatched task
abbrev pub refused_answer : ℕ → ℕ → Answer
refused_answer n next = record { refusal = n; result = 0; task = 0; entry = 0; partner = 0; ended = 0; next = next }

-- what the code's step gives: the struct and the answer
abbrev pub stepped_of : {S : Type 0} → StepOf S → Stepped S
stepped_of w = record { state = w.state; answer = answer_of w }
