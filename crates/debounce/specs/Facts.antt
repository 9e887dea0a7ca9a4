-- When a card is not damaged, what a tick does to it, and which bytes are settings, fact by fact, in the words of request (xiii).
-- What is cited by contracts, `whole`, `tickOf` and `goodSettings`, says the same: crates/statements, Debouncer.
-- Assumes nothing.
use Rattle.std.specs.Prelude.{◌≡◌, ℕ, ◌+◌, ◌/◌, ◌%◌, ◌<◌, ◌≤◌, true, List, [], ◌∷◌, length}
use Rattle.lists.specs.Lists.{every}
use Rattle.rules.specs.State.{place_of, timer_of, ticks_left}
use Rattle.rules.specs.Whole.{Typed, view, sound_whole}
use Rattle.rules.specs.declared.Place.TheVariants.{Delayed}
use Rattle.debounce.specs.declared.Card.{Card}
use Rattle.debounce.specs.Rule.{Setting, closed_in}
use Rattle.debounce.specs.Card.{nth_of, good_setting, sampled}

-- ── a card ──

-- what the type of the struct says of a value
pub record CardTyped (c : Card) : Type 0 where
  pub supervisor : Typed c.supervisor
  pub contacts : length c.contacts ≡ 8

-- the ticks left to the task of contact k
abbrev pub left_of : Card → ℕ → ℕ
left_of c k = ticks_left c.supervisor.core.clock (timer_of (view c.supervisor) k)

-- a card is not damaged exactly when all of this holds
pub record Undamaged (c : Card) : Type 0 where
  -- the supervisor is sound
  pub sound : sound_whole c.supervisor ≡ true
  -- the settings are in range
  pub settings : (k : ℕ) → 1 ≤ k → k ≤ 8 → good_setting (nth_of c.contacts k).n (nth_of c.contacts k).p ≡ true
  -- the tasks are 1 to 8
  pub tasks : c.supervisor.core.created ≡ 8
  -- each delaying
  pub delaying : (k : ℕ) → 1 ≤ k → k ≤ 8 → place_of (view c.supervisor) k ≡ Delayed
  -- with 1 to p ticks left
  pub low : (k : ℕ) → 1 ≤ k → k ≤ 8 → 1 ≤ left_of c k
  pub high : (k : ℕ) → 1 ≤ k → k ≤ 8 → left_of c k ≤ (nth_of c.contacts k).p

-- a tick, from a card that is not damaged to the next: where a task has one tick left, its contact is sampled and the task has p again;
-- each other task has a tick less, and its contact is as before
pub record OneTick (c : Card) (bits : ℕ) (next : Card) : Type 0 where
  pub due : (k : ℕ) → 1 ≤ k → k ≤ 8 → left_of c k ≡ 1
      → (nth_of next.contacts k ≡ sampled (nth_of c.contacts k) (closed_in bits k)) × (left_of next k ≡ (nth_of c.contacts k).p)
  pub others : (k : ℕ) → 1 ≤ k → k ≤ 8 → 1 < left_of c k
      → (nth_of next.contacts k ≡ nth_of c.contacts k) × (left_of next k + 1 ≡ left_of c k)

-- ── settings ──

-- the bytes of settings, from contact k on: tag k, length 3, n in one byte, p in two
abbrev pub bytes_from : ℕ → List Setting → List ℕ
bytes_from k [] = []
bytes_from k (x ∷ xs) = k ∷ 0 ∷ 3 ∷ x.n ∷ x.p / 256 ∷ x.p % 256 ∷ bytes_from (k + 1) xs

-- the bytes are those of these eight settings, each in range
pub record SettingsOf (xs : List Setting) (b : List ℕ) : Type 0 where
  pub eight : length xs ≡ 8
  pub range : every (λ x. good_setting x.n x.p) xs ≡ true
  pub bytes : b ≡ bytes_from 1 xs
