use Rattle.lists.specs.Line.{pad, pad_to}
use Rattle.steps.proofs.engine.empty_core.Goals as goal

pub returns : goal.returns
unfolding pad pad_to
returns c = rw c.blank_task.ensures
