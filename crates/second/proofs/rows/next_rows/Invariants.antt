use Prim.Native.Nat.{◌+◌}
use mathlib.Core.Path.{◌≡◌}
use mathlib.Core.List.{◌++◌}
use lib.ListN.{length, take, drop}
use Rattle.second.specs.Rows.{next_rows}
use Rattle.second.proofs.rows.next_rows.Given as goal

-- The invariant: the rows so far, and from here on those that are still to be made, are all rows.
abbrev pub invariant-loop-i : goal.invariant-loop-i
invariant-loop-i l = (length l.row-items ≡ 31) × (next_rows l.left l.gone l.g l.t 1 l.fn.rows ≡ take l.i l.row-items ++ next_rows l.left l.gone l.g l.t (l.i + 1) (drop l.i l.row-items))
