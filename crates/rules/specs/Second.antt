-- The second engine (request (v)): all calls to a task in one queue, whatever the entry. A struct with a row of callers for each task.
-- Assumes nothing.
use Rattle.std.specs.Prelude.{ℕ, zero, suc, ◌<◌, ◌≡◌, Bool, true, ◌&&◌, List, [], ◌∷◌, ◌++◌, map, length, Result}
use Rattle.lists.specs.Line.{line, pad, tidy}
use Rattle.lists.specs.Lists.{every}
use Rattle.rules.specs.State.{State, empty}
use Rattle.rules.specs.Sound.{sound}
use Rattle.rules.specs.Step.{room_after}
use Rattle.rules.specs.Callers.{with_callers, calling, callers_of}
use Rattle.rules.specs.Whole.{view_core, pack_core, packed_core, StepOf, step_by, stepped_of}
use Rattle.rules.specs.Questions.{count_by, callable_by, running_by, priority_by}
use Rattle.rules.specs.Runs.{start}
use Rattle.rules.specs.Uses.{Use, Chain}
use Rattle.rules.specs.declared.Answer.{Answer}
use Rattle.rules.specs.declared.BadState.{BadState}
use Rattle.rules.specs.declared.Row.{Row}
use Rattle.rules.specs.declared.Second.{Second}
use Rattle.rules.specs.declared.Stepped.{Stepped}
use Rattle.calls.specs.declared.Call as C

-- ── the struct ──

-- the callers of all rows, one row behind the other
abbrev pub gathered : List Row → List ℕ
gathered [] = []
gathered (r ∷ rs) = line r.line ++ gathered rs

-- the rows of k tasks from g on
abbrev pub rows_from : State → ℕ → ℕ → List Row
rows_from s zero g = []
rows_from s (suc k) g = record { line = pad (callers_of s g) } ∷ rows_from s k (suc g)

-- the state that a struct stands for, and the struct that stands for a state
abbrev pub view_second : Second → State
view_second x = with_callers (view_core x.core) (gathered x.rows)

abbrev pub pack_second : State → Second
pack_second s = record { core = pack_core s; rows = rows_from s 31 1 }

-- in the rows of the tasks from g on, unused places are blank, and nobody stands who has not called that task
abbrev pub rows_right : State → ℕ → List Row → Bool
rows_right s g [] = true
rows_right s g (r ∷ rs) = (tidy r.line && every (calling s g) (line r.line)) && rows_right s (suc g) rs

-- the struct is sound: unused places blank, each caller in the row of the task that it has called, and the state that it stands for is sound
abbrev pub sound_second : Second → Bool
sound_second x = packed_core x.core && rows_right (view_core x.core) 1 x.rows && sound (view_second x)

-- the whole step
unfoldable pub step_second : Second → C.Call → ℕ → StepOf Second
step_second x c room = step_by pack_second (sound_second x) x (view_second x) c room

-- the supervisor with no tasks, its clock at n
abbrev pub start_second : ℕ → Second
start_second n = pack_second (empty n)

-- ── the questions, as those of the first engine ──

unfoldable pub count_second : Second → ℕ → ℕ → Result ℕ BadState
count_second x t e = count_by (sound_second x) (view_second x) t e

unfoldable pub callable_second : Second → ℕ → Result Bool BadState
callable_second x t = callable_by (sound_second x) (view_second x) t

unfoldable pub running_second : Second → Result ℕ BadState
running_second x = running_by (sound_second x) (view_second x)

unfoldable pub priority_second : Second → ℕ → Result ℕ BadState
priority_second x t = priority_by (sound_second x) (view_second x) t

-- ── uses of the code's `step`, one after the other ──

-- one use: the call, the bytes lent, what it answered, and the lent bytes afterwards
pub record SecondUse : Type 0 where
  pub call : C.Call
  pub lent : List ℕ
  pub gave : Stepped Second
  pub wrote : List ℕ

-- the use keeps the contract of `step`, in the state x
pub record SecondKeeps (x : Second) (u : SecondUse) : Type 0 where
  pub answer : u.gave ≡ stepped_of (step_second x u.call (length u.lent))
  pub room : u.wrote ≡ room_after u.lent (step_second x u.call (length u.lent)).ended

-- uses one after the other: each in the state that the one before gave
abbrev pub SecondChain : Second → List SecondUse → Type 0
SecondChain x [] = Unit {0}
SecondChain x (u ∷ us) = SecondKeeps x u × SecondChain u.gave.state us

-- the state that they reach
abbrev pub second_reached : Second → List SecondUse → Second
second_reached x [] = x
second_reached x (u ∷ us) = second_reached u.gave.state us

-- ── both engines ──

-- what a use was asked: the call, and the bytes lent
pub record Question : Type 0 where
  pub call : C.Call
  pub lent : List ℕ

-- and what came of it: refusal, result, task, entry, partner, number of ended waits, dispatched task; and the lent bytes afterwards, with the list of ended waits
pub record Reply : Type 0 where
  pub answer : Answer
  pub wrote : List ℕ

abbrev pub asked_of : Use → Question
asked_of u = record { call = u.call; lent = u.lent }

abbrev pub replied_of : Use → Reply
replied_of u = record { answer = u.gave.answer; wrote = u.wrote }

abbrev pub second_asked : SecondUse → Question
second_asked u = record { call = u.call; lent = u.lent }

abbrev pub second_replied : SecondUse → Reply
second_replied u = record { answer = u.gave.answer; wrote = u.wrote }

-- uses of both engines from empty with the same clock, asked the same
pub record BothRun (n : ℕ) : Type 0 where
  pub clock : n < 4294967296
  pub first : List Use
  pub second : List SecondUse
  pub first_kept : Chain (start n) first
  pub second_kept : SecondChain (start_second n) second
  pub asked : map asked_of first ≡ map second_asked second
