use Rattle.workspace.specs.Owning.{owned_after}
use Rattle.workspace.proofs.owned.request.Goals as goal

pub returns : goal.returns
unfolding owned_after
returns c = let e = c.request-r.ensures in λ i. record { blocks = e.1 i; free = e.2 i; answer = e.0 i }
