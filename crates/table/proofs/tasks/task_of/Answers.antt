use Rattle.std.proofs.Common.{◌≡◌, length, rules}
use Rattle.lists.proofs.ListLaws.{mapped_long}
use Rattle.table.proofs.LeafLaws.{shown_at}
use Rattle.table.proofs.tasks.task_of.Goals as goal

pub returns : goal.returns
returns c =
    let a = c.args in
    let l : length a.s.tasks ≡ 31 = search (rules, mapped_long) in
    shown_at a.s a.t _ _ l c.index_of-at.ensures.0 c.shown.ensures
