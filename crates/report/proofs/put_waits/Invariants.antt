use Rattle.std.proofs.Common.{◌-◌}
use Rattle.text.proofs.Puts.{Putting}
use Rattle.report.specs.Lines.{waits}
use Rattle.report.proofs.put_waits.Given as goal

abbrev pub invariant-loop : goal.invariant-loop
invariant-loop l = Putting l.initial.out l.at (waits l.ended l.room) l.out l.place (waits (l.ended - l.counter) l.rest)
