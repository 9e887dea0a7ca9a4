use Rattle.std.proofs.Common.{◌&&◌, leb}
use Rattle.debounce.proofs.check.waits_for.Goals as goal

pub returns : goal.returns
returns c = λ i. c.is_setting.ensures i && c.is_delayed.ensures i && leb 1 (c.left_of-left.ensures i) && leb (c.left_of-left.ensures i) (c.from.ensures i)
