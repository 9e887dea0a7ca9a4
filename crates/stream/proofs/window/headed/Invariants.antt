use Rattle.stream.specs.Windows.{Grown}
use Rattle.stream.proofs.window.headed.Given as goal

abbrev pub invariant-loop : goal.invariant-loop
invariant-loop g l = Grown l.initial.n l.initial.buf l.n l.buf
