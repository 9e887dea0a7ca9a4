use Rattle.std.proofs.Common.{◌&&◌}
use Rattle.soundness.proofs.lines_hold.Goals as goal

pub returns : goal.returns
returns c = λ i. c.holds.ensures i && c.holds-2.ensures i
