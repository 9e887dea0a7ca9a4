-- Any two answers that the contract of a public function allows are equal, and so are the rooms.
-- Assumes nothing.
use Rattle.std.proofs.Common.{◌≡◌, sym, ◌∙◌}
use Rattle.lists.specs.Once.{Once}
use Rattle.steps.proofs.take_call.Reads as take-call
use Rattle.steps.proofs.answers.refused_by.Reads as refused-by
use Rattle.steps.proofs.answers.answered.Reads as answered
use Rattle.steps.proofs.answers.is_short.Reads as is-short
use Rattle.steps.proofs.answers.refused_answer.Reads as refused-answer
use Rattle.steps.proofs.answers.answer_by.Reads as answer-by
use Rattle.steps.proofs.change.gone_marks.Reads as gone-marks
use Rattle.steps.proofs.change.left_marks.Reads as left-marks
use Rattle.steps.proofs.change.looks.Reads as looks
use Rattle.steps.proofs.change.comes.Reads as comes
use Rattle.steps.proofs.change.joined_queue.Reads as joined-queue
use Rattle.steps.proofs.change.next_line.Reads as next-line
use Rattle.steps.proofs.engine.empty_core.Reads as empty-core
use Rattle.steps.proofs.engine.queue_length.Reads as queue-length
use Rattle.steps.proofs.engine.is_callable.Reads as is-callable

pub take_call_once : (κs : _) (x : _) (r r' : _) (y y' : _) → take-call.Learnt κs x r y → take-call.Learnt κs x r' y' → (r ≡ r') × (y.1.1.1.0.now ≡ y'.1.1.1.0.now)
take_call_once κs x r r' y y' p q = (p.0 ∙ sym q.0, p.1 ∙ sym q.1)

pub refused_by_once : Once refused-by.Learnt
refused_by_once κs x r r' y y' p q = p ∙ sym q

pub answered_once : Once answered.Learnt
answered_once κs x r r' y y' p q = p ∙ sym q

pub is_short_once : Once is-short.Learnt
is_short_once κs x r r' y y' p q = p ∙ sym q

pub refused_answer_once : Once refused-answer.Learnt
refused_answer_once κs x r r' y y' p q = p ∙ sym q

pub answer_by_once : Once answer-by.Learnt
answer_by_once κs x r r' y y' p q = p ∙ sym q

pub gone_marks_once : Once gone-marks.Learnt
gone_marks_once κs x r r' y y' p q = p ∙ sym q

pub left_marks_once : Once left-marks.Learnt
left_marks_once κs x r r' y y' p q = p ∙ sym q

pub looks_once : Once looks.Learnt
looks_once κs x r r' y y' p q = p ∙ sym q

pub comes_once : Once comes.Learnt
comes_once κs x r r' y y' p q = p ∙ sym q

pub joined_queue_once : Once joined-queue.Learnt
joined_queue_once κs x r r' y y' p q = p ∙ sym q

pub next_line_once : Once next-line.Learnt
next_line_once κs x r r' y y' p q = p ∙ sym q

pub empty_core_once : Once empty-core.Learnt
empty_core_once κs x r r' y y' p q = p ∙ sym q

pub queue_length_once : Once queue-length.Learnt
queue_length_once κs x r r' y y' p q = p ∙ sym q

pub is_callable_once : Once is-callable.Learnt
is_callable_once κs x r r' y y' p q = p ∙ sym q
