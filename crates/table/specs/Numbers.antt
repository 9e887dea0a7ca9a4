-- The numbers of tasks, and the places of the table.
-- Assumes nothing.
use Rattle.std.specs.Prelude.{ℕ, ◌-◌, Bool, ◌&&◌, nat_le, nat_lt}
use Rattle.lists.specs.Lists.{when◌then◌else◌}
use Rattle.rules.specs.State.{blank}
use Rattle.rules.specs.declared.Task.{Task}

-- t is one of the numbers that tasks have
abbrev pub is_number : ℕ → Bool
is_number t = nat_lt 0 t && nat_le t 31

-- where task t stands in the table; 0 where t is no task's number
abbrev pub index_of : ℕ → ℕ
index_of t = when is_number t then t - 1 else 0

-- of n tasks, task t, where k is what stands at its place
abbrev pub shown_of : ℕ → ℕ → Task → Task
shown_of n t k = when is_number t && nat_le t n then k else blank
