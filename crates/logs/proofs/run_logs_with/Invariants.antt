use Rattle.stream.specs.Outputs.{spare, Free}
use Rattle.logs.proofs.run_logs_with.Given as goal

abbrev pub invariant-loop : goal.invariant-loop
invariant-loop g l = Free spare l.out l.l.flow.waits
