use Rattle.std.proofs.Common.{◌≡◌, length, rules}
use Rattle.lists.specs.Line.{line}
use Rattle.lists.proofs.ListLaws.{mapped_long}
use Rattle.table.proofs.LeafLaws.{woken_law}
use Rattle.table.proofs.moves.woken.Goals as goal

pub returns : goal.returns
returns c =
    let a = c.args in
    let l : length a.s.ready ≡ 31 = search (rules, mapped_long) in
    woken_law a.s c.readied-n.result (line a.l) c.marks_of-marks.result _ _ _ _ l c.readied-n.ensures c.marks_of-marks.ensures
    c.picked-still_ready.ensures c.joined_all-ready_now.ensures c.picked-held_now.ensures c.picked-delays_now.ensures
