use Rattle.workspace.specs.declared.Look.{Look}
use Rattle.workspace.specs.Steps.{request_seen}
use Rattle.workspace.proofs.Bridge.{request_says, lent_is}
use Rattle.workspace.proofs.request.Goals as goal

pub returns : goal.returns
returns c =
    let b = c.args.blocks.now in
    let f = c.args.free.now in
    let u = c.args.used in
    let n = c.args.size in
    lent_is b f n (λ (l : Look). request_seen l u n) (request_says b f u n) c.look_at-seen.ensures c.requested-taken.ensures c.stored.ensures c.stored-2.ensures
