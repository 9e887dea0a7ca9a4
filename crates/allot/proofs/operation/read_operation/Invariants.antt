use Rattle.std.proofs.Common.{◌≤◌}
use Rattle.allot.proofs.operation.read_operation.Given as goal

abbrev pub invariant-loop-word : goal.invariant-loop-word
invariant-loop-word l = l.many ≤ 3
