-- What one tick does to any card that is not damaged; where no card was made, the blank one is damaged.
-- Assumes nothing.
use Rattle.std.proofs.Common.{◌≡◌, ℕ, ◌+◌, Bool, true, false, ◌&&◌, List, sym, ap, ◌∙◌, subst}
use mathlib.Core.Bool.{and-false}
use Rattle.rules.specs.State.{State, timer_of, ticks_left}
use Rattle.rules.specs.Whole.{view, sound_whole}
use Rattle.rules.proofs.Invariant.{Sound}
use Rattle.rules.proofs.WholeLaws.{view_pack}
use Rattle.debounce.specs.declared.Card.{Card}
use Rattle.debounce.specs.declared.Contact.{Contact}
use Rattle.debounce.specs.Card.{no_tasks, nth_of, all_wait, whole, ticked_card}
use Rattle.debounce.specs.Settings.{no_card}
use Rattle.debounce.specs.Facts.{CardTyped, left_of, Undamaged, OneTick}
use Rattle.debounce.proofs.ServeLaws.{Idle, card_of}
use Rattle.debounce.proofs.TickLaws.{TickDone, tick_done}
use Rattle.debounce.proofs.CheckLaws.{idle_undamaged, whole_idle}

-- the ticks left to a task, in the card of a state
left_is : (v : State) (cs : List Contact) (k : ℕ) → Sound v → left_of (card_of v cs) k ≡ ticks_left v.clock (timer_of v k)
left_is v cs k h = ap (λ (s : State). ticks_left v.clock (timer_of s k)) (view_pack v h)

-- a tick of a card that is not damaged
module _ (c : Card) (bits : ℕ) (t : CardTyped c) (e : whole c ≡ true) where
  abbrev before : (c ≡ card_of (view c.supervisor) c.contacts) × Idle (view c.supervisor) c.contacts
  before = whole_idle c t e

  abbrev w : TickDone bits (view c.supervisor) c.contacts before.1 (ticked_card (card_of (view c.supervisor) c.contacts) bits)
  w = tick_done bits (view c.supervisor) c.contacts before.1

  is : ticked_card c bits ≡ card_of w.state w.contacts
  is = ap (λ (x : Card). ticked_card x bits) before.0 ∙ w.is

  -- what it does to each contact
  pub one_tick : OneTick c bits (ticked_card c bits)
  one_tick =
      let left : (k : ℕ) → left_of (ticked_card c bits) k ≡ ticks_left w.state.clock (timer_of w.state k) = λ k. ap (λ (x : Card). left_of x k) is ∙ left_is w.state w.contacts k w.idle.sound in
      let at : (k : ℕ) → nth_of (ticked_card c bits).contacts k ≡ nth_of w.contacts k = λ k. ap (λ (x : Card). nth_of x.contacts k) is in
      record {
        due = λ k lo hi q. let r = w.due k lo hi q in (at k ∙ r.0, left k ∙ r.1);
        others = λ k lo hi q. let r = w.later k lo hi q in (at k ∙ r.0, ap (λ (x : ℕ). x + 1) (left k) ∙ r.1);
      }

  -- and the card is not damaged afterwards
  pub next_undamaged : Undamaged (ticked_card c bits)
  next_undamaged = subst Undamaged (sym is) (idle_undamaged w.state w.contacts w.idle)

-- where the settings were refused there is no card to tick
pub none_damaged : whole no_card ≡ false
unfolding whole
none_damaged = ap (λ (x : Bool). x && all_wait 0 no_tasks.core.tasks no_card.contacts) (and-false (sound_whole no_tasks))
