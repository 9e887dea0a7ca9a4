-- Any two answers that the contract of a public function allows are equal.
-- Assumes nothing.
use Rattle.std.proofs.Common.{sym, ◌∙◌}
use Rattle.lists.specs.Once.{Once}
use Rattle.rules.proofs.U8FromBadState.from.Reads as bad_state
use Rattle.rules.proofs.U8FromRefusal.from.Reads as refusal
use Rattle.rules.proofs.U8FromStepResult.from.Reads as step_result

pub bad_state_once : Once bad_state.Learnt
bad_state_once κs x r r' y y' p q = p ∙ sym q

pub refusal_once : Once refusal.Learnt
refusal_once κs x r r' y y' p q = p ∙ sym q

pub step_result_once : Once step_result.Learnt
step_result_once κs x r r' y y' p q = p ∙ sym q
