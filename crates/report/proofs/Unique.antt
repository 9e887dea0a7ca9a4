-- Any two answers that the contract of a public function allows are equal, and so is each byte of the lent room.
-- Assumes nothing.
use mathlib.Core.Path.{◌≡◌, sym, ◌∙◌}
use Rattle.report.proofs.put_header.Reads as header
use Rattle.report.proofs.put_line.Reads as line

pub header_once : (κs : _) (x : _) (r r' : _) (y y' : _) → header.Learnt κs x r y → header.Learnt κs x r' y' → (r ≡ r') × (y.0.now ≡ y'.0.now)
header_once κs x r r' y y' p q = (p.placed ∙ sym q.placed, p.written ∙ sym q.written)

pub line_once : (κs : _) (x : _) (r r' : _) (y y' : _) → line.Learnt κs x r y → line.Learnt κs x r' y' → (r ≡ r') × (y.1.1.1.0.now ≡ y'.1.1.1.0.now)
line_once κs x r r' y y' p q = (p.0.placed ∙ sym q.0.placed, p.0.written ∙ sym q.0.written)
