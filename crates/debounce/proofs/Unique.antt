-- Any two answers that the contract of a public function allows are equal.
-- Assumes nothing.
use Rattle.std.proofs.Common.{sym, ◌∙◌}
use Rattle.lists.specs.Once.{Once}
use Rattle.debounce.proofs.fresh.Reads as fresh
use Rattle.debounce.proofs.tick.Reads as tick

pub fresh_once : Once fresh.Learnt
fresh_once κs x r r' y y' p q = p ∙ sym q

pub tick_once : Once tick.Learnt
tick_once κs x r r' y y' p q = p ∙ sym q
