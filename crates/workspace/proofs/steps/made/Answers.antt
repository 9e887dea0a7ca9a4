use Rattle.std.proofs.Common.{refl, ◌∙◌}
use Rattle.workspace.specs.Steps.{fresh_seen}
use Rattle.workspace.proofs.steps.made.Goals as goal

pub returns-then-seen : goal.returns-then-seen
unfolding fresh_seen
returns-then-seen c = c.done_as.ensures ∙ rw c.if-seen.true refl

pub returns-else-seen : goal.returns-else-seen
unfolding fresh_seen
returns-else-seen c = c.refused.ensures ∙ rw c.if-seen.false refl
