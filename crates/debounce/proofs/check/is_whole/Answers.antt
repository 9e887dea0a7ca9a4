use Rattle.std.proofs.Common.{◌&&◌, eqb}
use Rattle.debounce.specs.Card.{whole}
use Rattle.debounce.proofs.check.is_whole.Goals as goal

pub returns : goal.returns
unfolding whole
returns c = λ i. c.sound.ensures i && eqb c.args.card.supervisor.core.created 8 && c.all_wait.ensures i
