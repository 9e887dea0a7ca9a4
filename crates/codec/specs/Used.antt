-- The parts in which a state is read: how many of its tasks, and all but the tasks. The contracts of the functions for C and Ada do not speak of them.
use Rattle.std.specs.Prelude.{ℕ, ◌+◌, ◌-◌, ◌*◌, List, length, take, drop, ltb}
use Rattle.lists.specs.Lists.{when◌then◌else◌}
use Rattle.lists.specs.Line.{blanks}
use Rattle.table.specs.Moved.{with_tasks}
use Rattle.calls.specs.Record.{byte}
use Rattle.rules.specs.declared.Task.{Task}
use Rattle.rules.specs.declared.Supervisor.{Supervisor}
use Rattle.codec.specs.Layout.{task_size, ready_at, state_size, decode, lost}

-- the bytes of the table of tasks from an index on
abbrev pub table_from : List ℕ → ℕ → List ℕ
table_from b from = take (ready_at - from) (drop from b)

-- the created tasks, where every byte of the table behind them is 0; else all 31; none where the bytes are too few for a state
unfoldable pub used_tasks : List ℕ → ℕ
used_tasks b =
    when ltb (length b) state_size then 0
    else when ltb 31 (byte b 4) then 31
    else when blanks (table_from b (5 + byte b 4 * task_size)) then byte b 4
    else 31

-- a state with another table of tasks
abbrev pub with_table : Supervisor → List Task → Supervisor
with_table s tasks = record { core = with_tasks s.core tasks; callers = s.callers }

-- the state with which bytes begin before its tasks are read: all are blank
unfoldable pub bare_in : List ℕ → Supervisor
bare_in b = when ltb (length b) state_size then lost else with_table (decode b) lost.core.tasks
