use Rattle.std.proofs.Common.{◌∙◌}
use Rattle.script.proofs.Times.{text_below, text_above}
use Rattle.script.proofs.Growing.{then_grown, same_grown}
use mir.Facts.{to_z-of_z}
use Rattle.script.proofs.print.with_time.Goals as goal

pub returns-then-d-lt0 : goal.returns-then-d-lt0
returns-then-d-lt0 c =
    let s = to_z-of_z c.ranges.d in
    then_grown c.with_text-k.ensures
    (same_grown (text_below c.args.d c.from-distance.result (rw s at c.if-d-lt0.true) (rw s at (c.from-distance.ensures ∙ c.unsigned_abs.ensures.value)))
    (then_grown c.with_text.ensures c.with_number.ensures))

pub returns : goal.returns
returns c =
    let s = to_z-of_z c.ranges.d in
    then_grown c.with_text-k.ensures
    (same_grown (text_above c.args.d c.from-distance.result (rw s at c.if-d-lt0.false) (rw s at (c.from-distance.ensures ∙ c.unsigned_abs.ensures.value)))
    c.with_spaced.ensures)
