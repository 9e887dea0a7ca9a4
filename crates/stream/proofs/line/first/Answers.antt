use Rattle.std.proofs.Common.{refl}
use Rattle.lists.proofs.Parts.{need, Field}
use Rattle.stream.proofs.line.first.Goals as goal

-- it is line 1
number-here : Field (need goal.returns) (λ l. l.number)
number-here c = refl

-- nothing is skipped
skips-here : Field (need goal.returns) (λ l. l.skips)
skips-here c = refl

pub returns : goal.returns
returns c = λ i. record { flow = c.begun-flow.ensures i; number = number-here c i; skips = skips-here c i }
