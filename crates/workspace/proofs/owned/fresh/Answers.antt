use Rattle.workspace.specs.Owning.{owned_fresh}
use Rattle.workspace.proofs.owned.fresh.Goals as goal

pub returns : goal.returns
unfolding owned_fresh
returns c = let e = c.fresh-r.ensures in λ i. record { blocks = e.1 i; free = e.2 i; answer = e.0 i }
