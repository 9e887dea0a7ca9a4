use Rattle.text.specs.Text.{spaced}
use Rattle.script.proofs.Growing.{then_grown}
use Rattle.script.proofs.row.Row.with_spaced.Goals as goal

pub returns : goal.returns
unfolding spaced
returns c = then_grown c.with_byte.ensures c.with_number.ensures
