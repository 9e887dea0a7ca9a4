use Rattle.std.proofs.Common.{not, ◌&&◌, eqb}
use Rattle.soundness.proofs.task.is_unused.Goals as goal

pub returns : goal.returns
returns c =
    let x = c.args.x in
    λ i. (((eqb x.priority 0 && eqb x.entries 0) && c.is_blank.ensures i) && not (c.has_time.ensures i)) && eqb x.current 0
