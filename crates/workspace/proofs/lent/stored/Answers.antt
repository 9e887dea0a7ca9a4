use Rattle.std.proofs.Common.{◌≡◌, length, ◌∙◌, refl, rules}
use Rattle.workspace.proofs.PlaceLaws.{mapped_long}
use Rattle.workspace.proofs.SeenLaws.{under, laid_cut}
use Rattle.workspace.proofs.lent.stored.Goals.{then-t, else-t}
use Rattle.workspace.proofs.lent.stored.Goals as goal

pub returns : goal.returns
returns c =
    let t = c.args.t in
    let table = c.args.table.now in
    let long : length t.places ≡ 32 = search (rules, mapped_long) in
    let below : c.if-t.table ≡ under t.clear table = elim c.if-t.branch [ then-t w ↦ w.table-is ∙ w.fill.ensures.after (λ y e. search rules) ∙ rw w.if-t.true refl | else-t w ↦ w.table-is ∙ rw w.if-t.false refl ] in
    laid_cut t table c.if-t.table c.min-n.result long below c.min-n.ensures c.copy_from_slice.ensures.after
