use Rattle.std.proofs.Common.{◌∙◌}
use Rattle.soundness.proofs.MarkLaws.{put_changed, put_same}
use Rattle.soundness.proofs.marks.put.Goals as goal

pub returns-then-has-here : goal.returns-then-has-here
returns-then-has-here c = c.without.ensures ∙ put_changed c.args.word c.args.t c.args.here c.has.result c.has.ensures c.if-has-here.true

pub returns-else-has-here : goal.returns-else-has-here
returns-else-has-here c = put_same c.args.word c.args.t c.args.here c.has.result c.has.ensures c.if-has-here.false
