-- The running task, found in one pass over the ready line.
-- Assumes nothing.
use Rattle.std.specs.Prelude.{ℕ, List, [], ◌∷◌, nat_le, nat_lt}
use Rattle.lists.specs.Lists.{when◌then◌else◌}
use Rattle.table.specs.declared.dispatch.Best.{Best}

-- the last task that has a place in the table, where n are created
abbrev pub last_of : ℕ → ℕ
last_of n = when nat_le n 31 then n else 31

-- the level of the priority p; 0 where it is none
abbrev pub level_of : ℕ → ℕ
level_of p = when nat_le p 15 then p else 0

-- the better of one and the next, whose current priority is p: the first of the highest level
abbrev pub better_of : Best → ℕ → ℕ → Best
better_of b t p = when nat_lt b.priority (level_of p) then record { task = t; priority = level_of p } else b

-- one pass for the running task, where f gives priorities
abbrev pub best_of : (ℕ → ℕ) → Best → List ℕ → Best
best_of f b [] = b
best_of f b (t ∷ l) = best_of f (better_of b t (f t)) l
