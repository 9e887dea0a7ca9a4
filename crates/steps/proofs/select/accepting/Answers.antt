use Rattle.std.proofs.Common.{[]}
use Rattle.steps.proofs.AnswerLaws.{move-answers}
use Rattle.steps.proofs.select.accepting.Goals as goal

pub returns : goal.returns
returns c =
    move-answers c.args.s _ _ _ _ _ [] c.requires.0 c.requires.1 c.answered.ensures c.moved-n.ensures
