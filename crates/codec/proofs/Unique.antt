-- Any two answers that the contract of a public function allows are equal, and so is each lent byte afterwards. Assumes nothing.
use mathlib.Core.Path.{◌≡◌, sym, ◌∙◌}
use Rattle.lists.specs.Once.{Once}
use Rattle.codec.proofs.state_in.Reads as state-in
use Rattle.codec.proofs.put_at.Reads as put-at
use Rattle.codec.proofs.store.Reads as store
use Rattle.codec.proofs.rows.second_in.Reads as second-in
use Rattle.codec.proofs.rows.second_store.Reads as second_store

pub state_in_once : Once state-in.Learnt
state_in_once κs x r r' y y' p q = p ∙ sym q

pub put_at_once : (κs : _) (x : _) (r r' : _) (y y' : _) → put-at.Learnt κs x r y → put-at.Learnt κs x r' y' → y.0.now ≡ y'.0.now
put_at_once κs x r r' y y' p q = p ∙ sym q

pub store_once : (κs : _) (x : _) (r r' : _) (y y' : _) → store.Learnt κs x r y → store.Learnt κs x r' y' → y.1.0.now ≡ y'.1.0.now
store_once κs x r r' y y' p q = p ∙ sym q

pub second_in_once : Once second-in.Learnt
second_in_once κs x r r' y y' p q = p ∙ sym q

pub second_store_once : (κs : _) (x : _) (r r' : _) (y y' : _) → second_store.Learnt κs x r y → second_store.Learnt κs x r' y' → y.1.0.now ≡ y'.1.0.now
second_store_once κs x r r' y y' p q = p ∙ sym q
