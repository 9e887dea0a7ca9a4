use Prim.Native.Nat.{◌≤◌}
use mathlib.Core.Path.{◌≡◌}
use lib.ListN.{length, drop}
use Rattle.codec.specs.Rows.{second_size, put_rows}
use Rattle.codec.proofs.rows.put_rows.Given as goal

abbrev pub invariant-loop-i : goal.invariant-loop-i
invariant-loop-i l = (second_size ≤ length l.initial.room) × (length l.room ≡ length l.initial.room) × (put_rows l.i l.room (drop l.i l.fn.rows) ≡ put_rows 0 l.initial.room l.fn.rows)
