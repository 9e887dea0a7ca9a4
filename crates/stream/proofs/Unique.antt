-- Any two answers that each contract allows are equal. The other public functions read or write through the operating system.
-- Assumes nothing.
use Rattle.std.proofs.Common.{◌≡◌, sym, ◌∙◌}
use Rattle.stream.proofs.flow.begun.Reads as begun
use Rattle.stream.proofs.line.first.Reads as first
use Rattle.stream.proofs.line.front.Reads as front
use Rattle.stream.proofs.window.Window.within.Reads as within
use Rattle.stream.proofs.window.unread.Reads as unread

pub unread_once : (κs : _) (x : _) (r r' : _) (y y' : _) → unread.Learnt κs x r y → unread.Learnt κs x r' y' → r ≡ r'
unread_once κs x r r' y y' p q = p ∙ sym q

pub begun_once : (κs : _) (x : _) (r r' : _) (y y' : _) → begun.Learnt κs x r y → begun.Learnt κs x r' y' → r ≡ r'
begun_once κs x r r' y y' p q = p ∙ sym q

pub first_once : (κs : _) (x : _) (r r' : _) (y y' : _) → first.Learnt κs x r y → first.Learnt κs x r' y' → r ≡ r'
first_once κs x r r' y y' p q = p ∙ sym q

pub front_once : (κs : _) (x : _) (r r' : _) (y y' : _) → front.Learnt κs x r y → front.Learnt κs x r' y' → r ≡ r'
front_once κs x r r' y y' p q = p.0 ∙ sym q.0

pub within_once : (κs : _) (x : _) (r r' : _) (y y' : _) → within.Learnt κs x r y → within.Learnt κs x r' y' → r ≡ r'
within_once κs x r r' y y' p q = p.0 ∙ sym q.0
