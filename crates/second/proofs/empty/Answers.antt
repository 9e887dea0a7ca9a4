use Rattle.lists.specs.Line.{pad, pad_to}
use Rattle.second.proofs.empty.Goals as goal

pub returns : goal.returns
unfolding pad pad_to
returns c = rw c.empty_core-core.ensures
