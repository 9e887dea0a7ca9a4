use mathlib.Core.Path.{sym, ap, ◌∙◌}
use Rattle.lists.specs.Line.{pad, pad_to}
use Rattle.second.specs.Rows.{row_of}
use Rattle.second.proofs.rows.row_looked_at.Goals as goal

pub returns-then-looks : goal.returns-then-looks
returns-then-looks c =
    let a = c.args in
    rw (sym c.looks.ensures ∙ c.if-looks.true) (c.row_of.ensures ∙ ap (row_of a.rows) c.running-t.ensures)

pub returns : goal.returns
unfolding pad pad_to
returns c = rw (sym c.looks.ensures ∙ c.if-looks.false)
