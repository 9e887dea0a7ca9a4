use Rattle.std.proofs.Common.{refl}
use Rattle.lists.proofs.Parts.{need, Field}
use Rattle.stream.proofs.flow.begun.Goals as goal

-- nothing waits
waits-here : Field (need goal.returns) (λ f. f.waits)
waits-here c = refl

-- it goes on
goes-here : Field (need goal.returns) (λ f. f.goes)
goes-here c = refl

pub returns : goal.returns
returns c = λ i. record { window = c.unread-window.ensures i; waits = waits-here c i; goes = goes-here c i }
