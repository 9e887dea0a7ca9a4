-- Any two answers that the contract of an exported function allows are equal, and so is each lent byte afterwards. Assumes nothing.
use mathlib.Core.Path.{◌≡◌, sym, ◌∙◌}
use Rattle.lists.specs.Once.{Once}
use Rattle.card.proofs.card_empty.Reads as empty
use Rattle.card.proofs.card_sound.Reads as sound
use Rattle.card.proofs.card_step.Reads as step
use Rattle.card.proofs.card_count.Reads as count
use Rattle.card.proofs.card_callable.Reads as callable
use Rattle.card.proofs.card_running.Reads as running
use Rattle.card.proofs.by_rows.second_empty.Reads as second_empty
use Rattle.card.proofs.by_rows.second_sound.Reads as second_sound
use Rattle.card.proofs.by_rows.second_step.Reads as second_step
use Rattle.card.proofs.by_rows.second_count.Reads as second_count
use Rattle.card.proofs.by_rows.second_callable.Reads as second_callable
use Rattle.card.proofs.by_rows.second_priority.Reads as second_priority
use Rattle.card.proofs.by_rows.second_running.Reads as second_running
use Rattle.card.proofs.contacts.debounce_fresh.Reads as debounce_fresh
use Rattle.card.proofs.contacts.debounce_tick.Reads as debounce_tick
use Rattle.card.proofs.card_priority.Reads as priority

pub empty_once : (κs : _) (x : _) (r r' : _) (y y' : _) → empty.Learnt κs x r y → empty.Learnt κs x r' y' → (r ≡ r') × (y.0.now ≡ y'.0.now)
empty_once κs x r r' y y' p q = (p.0 ∙ sym q.0, p.1 ∙ sym q.1)

pub sound_once : Once sound.Learnt
sound_once κs x r r' y y' p q = p ∙ sym q

pub step_once : (κs : _) (x : _) (r r' : _) (y y' : _) → step.Learnt κs x r y → step.Learnt κs x r' y'
    → (r ≡ r') × (y.0.now ≡ y'.0.now) × (y.1.1.0.now ≡ y'.1.1.0.now) × (y.1.1.1.0.now ≡ y'.1.1.1.0.now)
step_once κs x r r' y y' p q =
    (p.0 ∙ sym q.0, p.1.0 ∙ sym q.1.0, p.1.1.0 ∙ sym q.1.1.0, p.1.1.1 ∙ sym q.1.1.1)

pub count_once : (κs : _) (x : _) (r r' : _) (y y' : _) → count.Learnt κs x r y → count.Learnt κs x r' y' → (r ≡ r') × (y.1.1.1.0.now ≡ y'.1.1.1.0.now)
count_once κs x r r' y y' p q = (p.0 ∙ sym q.0, p.1 ∙ sym q.1)

pub callable_once : (κs : _) (x : _) (r r' : _) (y y' : _) → callable.Learnt κs x r y → callable.Learnt κs x r' y' → (r ≡ r') × (y.1.1.0.now ≡ y'.1.1.0.now)
callable_once κs x r r' y y' p q = (p.0 ∙ sym q.0, p.1 ∙ sym q.1)

pub priority_once : (κs : _) (x : _) (r r' : _) (y y' : _) → priority.Learnt κs x r y → priority.Learnt κs x r' y' → (r ≡ r') × (y.1.1.0.now ≡ y'.1.1.0.now)
priority_once κs x r r' y y' p q = (p.0 ∙ sym q.0, p.1 ∙ sym q.1)

pub running_once : (κs : _) (x : _) (r r' : _) (y y' : _) → running.Learnt κs x r y → running.Learnt κs x r' y' → (r ≡ r') × (y.1.0.now ≡ y'.1.0.now)
running_once κs x r r' y y' p q = (p.0 ∙ sym q.0, p.1 ∙ sym q.1)

pub second_empty_once : (κs : _) (x : _) (r r' : _) (y y' : _) → second_empty.Learnt κs x r y → second_empty.Learnt κs x r' y' → (r ≡ r') × (y.0.now ≡ y'.0.now)
second_empty_once κs x r r' y y' p q = (p.0 ∙ sym q.0, p.1 ∙ sym q.1)

pub second_sound_once : Once second_sound.Learnt
second_sound_once κs x r r' y y' p q = p ∙ sym q

pub second_step_once : (κs : _) (x : _) (r r' : _) (y y' : _) → second_step.Learnt κs x r y → second_step.Learnt κs x r' y'
    → (r ≡ r') × (y.0.now ≡ y'.0.now) × (y.1.1.0.now ≡ y'.1.1.0.now) × (y.1.1.1.0.now ≡ y'.1.1.1.0.now)
second_step_once κs x r r' y y' p q =
    (p.0 ∙ sym q.0, p.1.0 ∙ sym q.1.0, p.1.1.0 ∙ sym q.1.1.0, p.1.1.1 ∙ sym q.1.1.1)

pub second_count_once : (κs : _) (x : _) (r r' : _) (y y' : _) → second_count.Learnt κs x r y → second_count.Learnt κs x r' y' → (r ≡ r') × (y.1.1.1.0.now ≡ y'.1.1.1.0.now)
second_count_once κs x r r' y y' p q = (p.0 ∙ sym q.0, p.1 ∙ sym q.1)

pub second_callable_once : (κs : _) (x : _) (r r' : _) (y y' : _) → second_callable.Learnt κs x r y → second_callable.Learnt κs x r' y' → (r ≡ r') × (y.1.1.0.now ≡ y'.1.1.0.now)
second_callable_once κs x r r' y y' p q = (p.0 ∙ sym q.0, p.1 ∙ sym q.1)

pub second_priority_once : (κs : _) (x : _) (r r' : _) (y y' : _) → second_priority.Learnt κs x r y → second_priority.Learnt κs x r' y' → (r ≡ r') × (y.1.1.0.now ≡ y'.1.1.0.now)
second_priority_once κs x r r' y y' p q = (p.0 ∙ sym q.0, p.1 ∙ sym q.1)

pub second_running_once : (κs : _) (x : _) (r r' : _) (y y' : _) → second_running.Learnt κs x r y → second_running.Learnt κs x r' y' → (r ≡ r') × (y.1.0.now ≡ y'.1.0.now)
second_running_once κs x r r' y y' p q = (p.0 ∙ sym q.0, p.1 ∙ sym q.1)

pub debounce_fresh_once : (κs : _) (x : _) (r r' : _) (y y' : _) → debounce_fresh.Learnt κs x r y → debounce_fresh.Learnt κs x r' y' → (r ≡ r') × (y.0.now ≡ y'.0.now)
debounce_fresh_once κs x r r' y y' p q = (p.0 ∙ sym q.0, p.1 ∙ sym q.1)

pub debounce_tick_once : (κs : _) (x : _) (r r' : _) (y y' : _) → debounce_tick.Learnt κs x r y → debounce_tick.Learnt κs x r' y'
    → (r ≡ r') × (y.0.now ≡ y'.0.now) × (y.1.1.0.now ≡ y'.1.1.0.now)
debounce_tick_once κs x r r' y y' p q = (p.0 ∙ sym q.0, p.1.0 ∙ sym q.1.0, p.1.1 ∙ sym q.1.1)
