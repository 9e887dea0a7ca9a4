-- Either engine, as a turn sees it.
-- Assumes nothing.
use Rattle.std.specs.Prelude.{ℕ, Result}
use Rattle.calls.specs.declared.Call as C
use Rattle.rules.specs.Questions.{running_whole}
use Rattle.rules.specs.Runs.{start}
use Rattle.rules.specs.Second.{start_second, step_second, running_second}
use Rattle.rules.specs.Whole.{StepOf, step_whole}
use Rattle.rules.specs.declared.BadState.{BadState}
use Rattle.rules.specs.declared.Second.{Second}
use Rattle.rules.specs.declared.Supervisor.{Supervisor}

-- the rules of an engine whose states are these: the supervisor with no tasks and its clock at n, the step of a call with so much room, and who runs
pub record Rules (E : Type 0) : Type 0 where
  pub start : ℕ → E
  pub step : E → C.Call → ℕ → StepOf E
  pub running : E → Result ℕ BadState

abbrev pub first : Rules Supervisor
first = record { start = start; step = step_whole; running = running_whole }

abbrev pub second : Rules Second
second = record { start = start_second; step = step_second; running = running_second }
