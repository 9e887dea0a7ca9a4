use Prim.Native.Nat.{◌<◌, ◌≤◌}
use lib.ListN.{length}
use Rattle.codec.specs.Layout.{state_size}
use Rattle.codec.proofs.UsedLaws.{Reading}
use Rattle.codec.proofs.state_in.Given as goal

abbrev pub invariant-loop-i : goal.invariant-loop-i
invariant-loop-i l = (l.n ≤ 31) × (0 < l.n → state_size ≤ length l.b) × Reading l.b l.n l.i (record { core = l.core; callers = l.callers })
