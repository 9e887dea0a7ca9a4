use Rattle.text.proofs.Puts.{then_put}
use Rattle.text.specs.Text.{spaced}
use Rattle.report.proofs.put_spaced.Goals as goal

pub returns : goal.returns
unfolding spaced
returns c = then_put c.put_byte-k.ensures (rw c.from.ensures at c.put_number.ensures)
