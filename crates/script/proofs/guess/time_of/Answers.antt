use Rattle.script.proofs.Times.{below, above}
use Prim.Native.Nat.{◌+◌, ◌%◌}
use native.Mathlib.Omega.{arith}
use Rattle.script.proofs.guess.time_of.Goals as goal

pub returns-then-minus : goal.returns-then-minus
returns-then-minus c = rw c.if-minus.true (below ((c.args.n + 2147483647) % 2147483648) (omega arith))

pub returns-else-minus : goal.returns-else-minus
returns-else-minus c = rw c.if-minus.false (above (c.args.n % 2147483648) (omega arith))
