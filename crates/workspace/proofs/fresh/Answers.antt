use Rattle.workspace.specs.Steps.{fresh_seen}
use Rattle.workspace.proofs.Bridge.{fresh_says, lent_is}
use Rattle.workspace.proofs.fresh.Goals as goal

pub returns : goal.returns
returns c =
    let b = c.args.blocks.now in
    let f = c.args.free.now in
    lent_is b f 0 fresh_seen (fresh_says b f) c.look_at-old.ensures c.made-new.ensures c.stored.ensures c.stored-2.ensures
