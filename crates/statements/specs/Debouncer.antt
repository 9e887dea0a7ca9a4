-- The contact debouncer: request (xiii) of document 02.
-- It is said of any use of `fresh` and of `tick`: any input, and any answer that the contract allows (`Learnt` is what a caller learns from it).
-- Assumes nothing.
use Rattle.std.specs.Prelude.{ℕ, ◌≡◌, List, [], ◌∷◌, map}
use Rattle.lists.specs.Once.{AsksNothing}
use Rattle.calls.specs.Range.{Bytes}
use Rattle.debounce.specs.declared.Card.{Card}
use Rattle.debounce.specs.declared.Ticked.{Ticked}
use Rattle.debounce.specs.Rule.{Setting, report_byte}
use Rattle.debounce.specs.Facts.{CardTyped, Undamaged, OneTick, SettingsOf}
use Rattle.debounce.proofs.fresh.Statement as fresh
use Rattle.debounce.proofs.tick.Statement as tick
use Rattle.debounce.proofs.fresh.Reads as of-fresh
use Rattle.debounce.proofs.tick.Reads as of-tick

-- one use of `tick`: the eight raw contact bits, and what it answered
pub record Tick : Type 0 where
  pub bits : ℕ
  pub gave : Ticked

-- the contract of `tick` allows it, of the card c; in front of the answer stands what was given, and behind it the same
abbrev pub Allowed : Card → Tick → Type 0
Allowed c u = of-tick.Learnt tt (c, (u.bits, tt)) u.gave (c, (u.bits, tt))

-- the card behind ticks, that of the latest first
abbrev pub reached : Card → List Tick → Card
reached c [] = c
reached c (u ∷ before) = u.gave.card

-- ticks one after the other: each of the card that the one before it gave
abbrev pub Chain : Card → List Tick → Type 0
Chain c [] = Unit {0}
Chain c (u ∷ before) = Allowed (reached c before) u × Chain c before

-- the raw bits alone
abbrev pub raw_bits : List Tick → List ℕ
raw_bits us = map (λ u. u.bits) us

-- from this card on, after ticks of any number: the card is not damaged, the next tick is not refused, and its report is what the rule
-- says of the settings and the raw bits alone
pub record Debounces (c : Card) (settings : List Setting) : Type 0 where
  pub undamaged : (us : List Tick) → Chain c us → Undamaged (reached c us)
  pub taken : (u : Tick) (before : List Tick) → Chain c (u ∷ before) → u.gave.refusal ≡ 0
  pub reports : (u : Tick) (before : List Tick) → Chain c (u ∷ before) → u.gave.reported ≡ report_byte settings (raw_bits (u ∷ before))

-- a tick is refused with 2: the card is given back unchanged, with all contacts reported 0
pub record Refused (c : Card) (u : Tick) : Type 0 where
  pub refusal : u.gave.refusal ≡ 2
  pub card : u.gave.card ≡ c
  pub reported : u.gave.reported ≡ 0

-- a tick is taken: the card is not damaged afterwards, and each contact went on by one tick
pub record Taken (c : Card) (u : Tick) : Type 0 where
  pub refusal : u.gave.refusal ≡ 0
  pub undamaged : Undamaged u.gave.card
  pub contacts : OneTick c u.bits u.gave.card

pub record Debouncer : Type 2 where
  -- what the gate proves of each function, under its name: it ends, does nothing undefined and meets its contract, on every input
  pub fresh : {M : Type 1} → fresh.statement M
  pub tick : {M : Type 1} → tick.statement M
  -- nothing is asked of who calls
  pub fresh_asks : AsksNothing of-fresh.Asked
  pub tick_asks : AsksNothing of-tick.Asked
  -- "Show that the report equals this rule worked out from the raw bits alone": of the card that settings of the form said make
  pub made : (κs : _) (x : _) (r : _) (y : _) → of-fresh.Learnt κs x r y → (settings : List Setting) → SettingsOf settings x.0.now
      → (r.refusal ≡ 0) × Debounces r.card settings
  -- "17 BAD_SETTING for .. bytes not of exactly this form, with no card made": what stands in its place is refused by every tick
  pub bad_setting : (κs : _) (x : _) (r : _) (y : _) → of-fresh.Learnt κs x r y → Bytes x.0.now
      → ((settings : List Setting) → SettingsOf settings x.0.now → ⊥)
      → (r.refusal ≡ 17) × ((u : Tick) → Allowed r.card u → Refused r.card u)
  -- "2 for a damaged card", however it came about, and for no other
  pub damaged : (c : Card) → CardTyped c → (u : Tick) → Allowed c u → (Undamaged c → ⊥) → Refused c u
  pub whole : (c : Card) → CardTyped c → (u : Tick) → Allowed c u → Undamaged c → Taken c u
