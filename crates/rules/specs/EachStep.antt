-- What is said of the dispatched task and of COUNT.
-- Assumes nothing.
use Rattle.std.specs.Prelude.{ℕ, ◌<◌, ◌≡◌, ◌⊎◌, List, [], ◌∷◌}
use Rattle.lists.specs.Lists.{filter, down_from}
use Rattle.rules.specs.State.{State, created, level, waits_on}

-- n is the first of a ready level, and every higher level is empty
pub record Heads (s : State) (n : ℕ) : Type 0 where
  pub priority : ℕ
  pub behind : List ℕ
  pub heads : level s priority ≡ n ∷ behind
  pub highest : (p : ℕ) → priority < p → level s p ≡ []

-- the dispatched task: 0 and nobody is ready, or the head of the highest ready level
abbrev pub Dispatched : State → ℕ → Type 0
Dispatched s n = ((n ≡ 0) × (s.ready ≡ [])) ⊎ ((0 < n) × Heads s n)

-- the created tasks that wait on entry e of task t, by their own places
abbrev pub waiting_on : State → ℕ → ℕ → List ℕ
waiting_on s t e = filter (waits_on s t e) (down_from (created s))
