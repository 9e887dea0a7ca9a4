use Rattle.lists.specs.Line.{pad, pad_to}
use Rattle.codec.specs.Layout.{lost}
use Rattle.codec.proofs.lost_state.Goals as goal

pub returns : goal.returns
unfolding lost pad pad_to
returns c = rw c.blank_task-tasks.ensures
