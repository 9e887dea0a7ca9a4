use Rattle.logs.proofs.Room.{Roomy}
use Rattle.logs.proofs.run_log.Given as goal

abbrev pub invariant-loop-turn : goal.invariant-loop-turn
invariant-loop-turn g l = Roomy l.out l.log l._turn
