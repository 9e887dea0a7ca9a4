use mathlib.Core.Path.{◌∙◌}
use Rattle.card.specs.Answers.{answer_bytes}
use Rattle.codec.proofs.CodecLaws.{placed_fits}
use Rattle.card.proofs.put_answer.Goals as goal

pub returns : goal.returns
returns c = c.put_at.ensures ∙ placed_fits c.args.answer.now 0 (answer_bytes c.args.a) c.requires
