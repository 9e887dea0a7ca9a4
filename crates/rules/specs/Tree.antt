-- The tree of held callers: who stands below whom, and the priority that follows (request xi).
-- Assumes nothing.
use Rattle.std.specs.Prelude.{ℕ, zero, suc, Bool, true, not, ◌&&◌, ◌||◌, List, [], ◌∷◌, eqb}
use Rattle.rules.specs.State.{State, place_of, priority_of, current_of, kept_of, is_held, partner_of, held_by, higher}

-- the highest of k and of what f says of each of the list
abbrev pub highest_from : (ℕ → ℕ) → ℕ → List ℕ → ℕ
highest_from f k [] = k
highest_from f k (c ∷ l) = highest_from f (higher k (f c)) l

-- the highest created priority among t and everyone below it in the tree of held callers, n levels down
unfoldable pub highest_of : State → ℕ → ℕ → ℕ
highest_of s zero t = priority_of s t
highest_of s (suc n) t = highest_from (λ c. highest_of s n c) (priority_of s t) (held_by s t)

-- each of the callers, one after the other, keeps what its holder's current priority was before it came; k before the first
abbrev pub keeps : State → ℕ → List ℕ → Bool
keeps s k [] = true
keeps s k (c ∷ l) = eqb (kept_of (place_of s c)) k && keeps s (higher k (current_of s c)) l

-- the stored priorities of t agree with those of the callers that it holds
abbrev pub agrees : State → ℕ → Bool
agrees s t = keeps s (priority_of s t) (held_by s t) && eqb (current_of s t) (highest_from (current_of s) (priority_of s t) (held_by s t))

-- going from t to its holder, and on, reaches a task that nobody holds after at most n moves
unfoldable pub reaches_top : State → ℕ → ℕ → Bool
reaches_top s zero t = not (is_held (place_of s t))
reaches_top s (suc n) t = not (is_held (place_of s t)) || reaches_top s n (partner_of (place_of s t))
