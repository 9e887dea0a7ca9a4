-- Any two answers that the contract of a public function allows are equal, and so are the rooms.
-- Assumes nothing.
use mathlib.Core.Path.{◌≡◌, sym, ◌∙◌}
use Rattle.lists.specs.Once.{Once}
use Rattle.second.proofs.step.Reads as step
use Rattle.second.proofs.empty.Reads as empty
use Rattle.second.proofs.sound.Reads as sound
use Rattle.second.proofs.running.Reads as running
use Rattle.second.proofs.priority.Reads as priority
use Rattle.second.proofs.count.Reads as count
use Rattle.second.proofs.callable.Reads as callable

pub step_once : (κs : _) (x : _) (r r' : _) (y y' : _) → step.Learnt κs x r y → step.Learnt κs x r' y' → (r ≡ r') × (y.1.1.0.now ≡ y'.1.1.0.now)
step_once κs x r r' y y' p q = (p.0 ∙ sym q.0, p.1 ∙ sym q.1)

pub empty_once : Once empty.Learnt
empty_once κs x r r' y y' p q = p ∙ sym q

pub sound_once : Once sound.Learnt
sound_once κs x r r' y y' p q = p ∙ sym q

pub running_once : Once running.Learnt
running_once κs x r r' y y' p q = p ∙ sym q

pub priority_once : Once priority.Learnt
priority_once κs x r r' y y' p q = p ∙ sym q

pub count_once : Once count.Learnt
count_once κs x r r' y y' p q = p ∙ sym q

pub callable_once : Once callable.Learnt
callable_once κs x r r' y y' p q = p ∙ sym q
