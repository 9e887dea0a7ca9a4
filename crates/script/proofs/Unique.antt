-- Any two answers that the contract of a public function allows are equal, and so is each byte of the lent room.
-- Assumes nothing.
use mathlib.Core.Path.{◌≡◌, sym, ◌∙◌}
use Rattle.lists.specs.Once.{Once}
use Rattle.script.proofs.Statements.{said_once}
use Rattle.script.proofs.print.put_call.Reads as call
use Rattle.script.proofs.print.put_record.Reads as recorded
use Rattle.script.proofs.reader.read_line.Reads as line

pub line_once : Once line.Learnt
line_once κs x r r' y y' p q = said_once _ r r' p q

pub call_once : (κs : _) (x : _) (r r' : _) (y y' : _) → call.Learnt κs x r y → call.Learnt κs x r' y' → (r ≡ r') × (y.1.0.now ≡ y'.1.0.now)
call_once κs x r r' y y' p q = (p.placed ∙ sym q.placed, p.written ∙ sym q.written)

pub recorded_once : (κs : _) (x : _) (r r' : _) (y y' : _) → recorded.Learnt κs x r y → recorded.Learnt κs x r' y' → (r ≡ r') × (y.1.0.now ≡ y'.1.0.now)
recorded_once κs x r r' y y' p q = (p.placed ∙ sym q.placed, p.written ∙ sym q.written)
