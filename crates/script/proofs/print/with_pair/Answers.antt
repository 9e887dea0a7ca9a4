use Rattle.script.proofs.Growing.{then_grown}
use Rattle.script.proofs.print.with_pair.Goals as goal

pub returns : goal.returns
returns c =
    then_grown c.with_text-k.ensures (then_grown (rw c.from.ensures at c.with_spaced-l.ensures) (rw c.from-2.ensures at c.with_spaced.ensures))
