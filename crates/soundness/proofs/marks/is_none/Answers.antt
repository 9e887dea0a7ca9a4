use Rattle.soundness.specs.Marks.{is_none}
use Rattle.std.proofs.Common.{rules}
use Rattle.soundness.proofs.marks.is_none.Goals as goal

pub returns : goal.returns
unfolding is_none
returns c = search rules
