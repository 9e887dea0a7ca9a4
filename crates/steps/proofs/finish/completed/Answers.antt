use Rattle.lists.specs.Line.{line}
use Rattle.steps.proofs.FinishLaws.{completes}
use Rattle.steps.proofs.finish.completed.Goals as goal

pub wake_all-w-requires : goal.wake_all-w-requires
wake_all-w-requires c = let p = c.requires in (p.0, p.1, p.2)

pub returns : goal.returns
returns c =
    let a = c.args in
    let w = c.wake_all-w in
    let q = completes a.s a.t (line a.l) w.result.state c.moved-m.result w.result.count _ _ c.requires.0 c.requires.2.0 c.requires.3 w.ensures c.moved-m.ensures c.answered.ensures in
    record { value = q.0; room = q.1 }
