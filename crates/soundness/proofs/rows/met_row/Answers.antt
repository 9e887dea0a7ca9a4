use Rattle.std.proofs.Common.{sym, ◌∙◌}
use Rattle.soundness.proofs.RowLaws.{blank_row}
use Rattle.soundness.proofs.rows.met_row.Goals as goal

pub returns-then-is_blank_from : goal.returns-then-is_blank_from
returns-then-is_blank_from c =
    let a = c.args in
    sym (blank_row a.targets a.g a.word a.l (sym c.is_blank_from.ensures ∙ c.if-is_blank_from.true))
