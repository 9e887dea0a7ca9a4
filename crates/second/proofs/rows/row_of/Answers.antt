use Rattle.std.proofs.Common.{sym, ◌∙◌}
use Rattle.lists.specs.Line.{pad, pad_to}
use Rattle.second.proofs.rows.row_of.Goals as goal

pub returns : goal.returns
unfolding pad pad_to
returns c = rw (sym c.is_between.ensures ∙ c.if-is_between.false)
