use Rattle.std.proofs.Common.{◌≡◌, length, refl, rules}
use Rattle.lists.proofs.ListLaws.{mapped_long}
use Rattle.table.proofs.LeafLaws.{shown_at, place_given, met_law}
use Rattle.table.proofs.moves.met.Goals as goal

pub returns : goal.returns
returns c =
    let a = c.args in
    let l : length a.s.tasks ≡ 31 = search (rules, mapped_long) in
    let x = c.shown-x in
    let y = c.shown-y in
    met_law a.s a.g a.c a.e _ x.result y.result c.higher_of.result (place_given _ _ _ _ _ c.ranked_then_moved.ensures)
    (shown_at a.s a.g c.index_of-at.result x.result l c.index_of-at.ensures.0 x.ensures)
    (shown_at a.s a.c c.index_of-to.result y.result l c.index_of-to.ensures.0 y.ensures)
    c.higher_of.ensures refl c.ranked_then_moved.ensures
