use Prim.Native.Nat.{◌+◌, ◌*◌, ◌≤◌}
use mathlib.Core.Path.{◌≡◌}
use lib.ListN.{length, drop}
use Rattle.codec.specs.Layout.{task_size, state_size, tasks_bytes, put_at}
use Rattle.codec.proofs.put_tasks.Given as goal

abbrev pub invariant-loop-i : goal.invariant-loop-i
invariant-loop-i l = (state_size ≤ length l.initial.room) × (length l.room ≡ length l.initial.room) × (put_at l.room (5 + l.i * task_size) (tasks_bytes (drop l.i l.fn.tasks)) ≡ put_at l.initial.room 5 (tasks_bytes l.fn.tasks))
