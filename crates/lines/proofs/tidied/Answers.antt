use mathlib.Core.Path.{◌∙◌}
use Rattle.lists.specs.Line.{line}
use Rattle.lists.proofs.LineLaws.{pad_blank}
use Rattle.lines.proofs.tidied.Goals as goal

pub returns : goal.returns
returns c = c.joined.ensures ∙ pad_blank (line c.args.a)
