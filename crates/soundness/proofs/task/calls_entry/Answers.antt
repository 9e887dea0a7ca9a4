use Rattle.std.proofs.Common.{not, ◌&&◌, ltb, leb}
use Rattle.soundness.proofs.task.calls_entry.Goals as goal

pub returns : goal.returns
returns c =
    let a = c.args in
    λ i. (ltb 0 a.e && leb a.e a.g.entries) && not (c.is_completed.ensures i)
