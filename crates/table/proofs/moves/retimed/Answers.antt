use Rattle.std.proofs.Common.{◌≡◌, length, ◌∙◌, rules}
use Rattle.lists.proofs.ListLaws.{mapped_long}
use Rattle.table.proofs.LeafLaws.{retime_due}
use Rattle.table.proofs.moves.retimed.Goals as goal

pub returns-in-Due : goal.returns-in-Due
returns-in-Due c =
    let a = c.args in
    let long : length a.s.tasks ≡ 31 = search (rules, mapped_long) in
    let k : length a.s.delays ≡ 31 = search (rules, mapped_long) in
    rw c.in-Due.is (c.put_by.ensures ∙ retime_due a.s a.t _ _ _ _ long k c.without-a.ensures c.keys_of-keys.ensures c.ticks_left.ensures)
