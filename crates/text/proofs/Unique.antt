-- Any two answers that the contract of a public function allows are equal, and so is each byte of the lent room.
-- Assumes nothing.
use mathlib.Core.Path.{◌≡◌, sym, ◌∙◌}
use Rattle.lists.specs.Once.{Once}
use Rattle.text.proofs.least.Reads as least
use Rattle.text.proofs.put_byte.Reads as byte
use Rattle.text.proofs.put_bytes.Reads as bytes
use Rattle.text.proofs.put_number.Reads as number

pub least_once : Once least.Learnt
least_once κs x r r' y y' p q = p ∙ sym q

pub byte_once : (κs : _) (x : _) (r r' : _) (y y' : _) → byte.Learnt κs x r y → byte.Learnt κs x r' y' → (r ≡ r') × (y.1.0.now ≡ y'.1.0.now)
byte_once κs x r r' y y' p q = (p.placed ∙ sym q.placed, p.written ∙ sym q.written)

pub bytes_once : (κs : _) (x : _) (r r' : _) (y y' : _) → bytes.Learnt κs x r y → bytes.Learnt κs x r' y' → (r ≡ r') × (y.1.0.now ≡ y'.1.0.now)
bytes_once κs x r r' y y' p q = (p.placed ∙ sym q.placed, p.written ∙ sym q.written)

pub number_once : (κs : _) (x : _) (r r' : _) (y y' : _) → number.Learnt κs x r y → number.Learnt κs x r' y' → (r ≡ r') × (y.1.0.now ≡ y'.1.0.now)
number_once κs x r r' y y' p q = (p.placed ∙ sym q.placed, p.written ∙ sym q.written)
