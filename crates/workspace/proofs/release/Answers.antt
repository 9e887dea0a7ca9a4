use Rattle.workspace.specs.declared.Look.{Look}
use Rattle.workspace.specs.Steps.{release_seen}
use Rattle.workspace.proofs.Bridge.{release_says, lent_is}
use Rattle.workspace.proofs.release.Goals as goal

pub returns : goal.returns
returns c =
    let b = c.args.blocks.now in
    let f = c.args.free.now in
    let u = c.args.used in
    let start = c.args.start in
    lent_is b f 0 (λ (l : Look). release_seen l u start) (release_says b f u start) c.look_at-seen.ensures c.released-given.ensures c.stored.ensures c.stored-2.ensures
