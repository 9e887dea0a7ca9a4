-- The fullest that a queue can be, which is as near as a run comes to the retired refusal 10.
-- Assumes nothing.
use Rattle.std.specs.Prelude.{ℕ, List, ◌++◌, replicate, Result}
use Rattle.rules.specs.Questions.{count_whole}
use Rattle.rules.specs.Runs.{Ask, start, reach_whole}
use Rattle.rules.specs.declared.BadState.{BadState}
use Rattle.calls.specs.declared.CallMode.TheVariants.{Simple}
use Rattle.calls.specs.declared.Call.TheVariants.{Create, Call}

-- 31 tasks, each of which calls entry 1 of task 1, task 1 itself first
unfoldable pub crowd : List Ask
crowd = replicate 31 (record { call = Create 1 1; room = 124 }) ++ replicate 31 (record { call = Call 1 1 Simple; room = 124 })

-- COUNT of that queue
abbrev pub crowd_count : Result ℕ BadState
crowd_count = count_whole (reach_whole (start 0) crowd) 1 1
