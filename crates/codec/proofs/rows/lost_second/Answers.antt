use Rattle.codec.specs.Rows.{lost_second}
use Rattle.codec.proofs.rows.lost_second.Goals as goal

pub returns : goal.returns
unfolding lost_second
returns c = λ i. record { core = (c.lost_state.ensures i).core; rows = c.no_rows-rows.ensures i }
