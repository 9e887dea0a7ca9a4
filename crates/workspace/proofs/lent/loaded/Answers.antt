use Rattle.workspace.proofs.SeenLaws.{seen_cut}
use Rattle.workspace.proofs.lent.loaded.Goals as goal

pub returns : goal.returns
returns c = seen_cut c.args.table.now c.min.result c.min.ensures c.split_at.ensures.front c.split_at.ensures.back c.copy_from_slice.ensures.after c.all_none.ensures
