use Rattle.std.proofs.Common.{◌&&◌}
use Rattle.soundness.proofs.task.is_good.Goals as goal

pub returns : goal.returns
returns c = λ i. ((c.in_range.ensures i && c.is_fit.ensures i) && c.is_in_time.ensures i) && c.is_between.ensures i
