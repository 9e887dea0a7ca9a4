use lib.ListN.{drop}
use Rattle.text.proofs.Puts.{Putting}
use Rattle.text.proofs.put_bytes.Given as goal

abbrev pub invariant-loop-b : goal.invariant-loop-b
invariant-loop-b l = Putting l.initial.out l.at l.text l.out l.place (drop l.b-index l.text)
