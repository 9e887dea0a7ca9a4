use Rattle.std.proofs.Common.{◌≡◌, length, refl, rules}
use Rattle.lists.proofs.ListLaws.{mapped_long}
use Rattle.table.proofs.LeafLaws.{shown_at, place_given, parted_law}
use Rattle.table.proofs.moves.parted.Goals as goal

pub returns : goal.returns
returns c =
    let a = c.args in
    let l : length a.s.tasks ≡ 31 = search (rules, mapped_long) in
    let y = c.shown-y in
    parted_law a.s a.g a.c _ y.result c.kept_of.result (place_given _ _ _ _ _ c.ranked_then_moved.ensures)
    (shown_at a.s a.c c.index_of-at.result y.result l c.index_of-at.ensures.0 y.ensures)
    c.kept_of.ensures refl c.ranked_then_moved.ensures
