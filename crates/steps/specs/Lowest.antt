-- The caller that SELECT takes, found in one pass over the line of callers.
-- Assumes nothing.
use Rattle.std.specs.Prelude.{ℕ, ◌&&◌, List, [], ◌∷◌, ◌==◌, nat_le, nat_lt}
use Rattle.lists.specs.Lists.{when◌then◌else◌}
use Rattle.rules.specs.State.{State, place_of, is_queued, partner_of, entry_of, opens}
use Rattle.rules.specs.declared.Place.{Place}
use Rattle.steps.specs.declared.callers.Caller.{Caller}

-- the open entry that a task in place p has called at task t; 9 where there is none
abbrev pub open_call : ℕ → ℕ → Place → ℕ
open_call t o p = when is_queued p && partner_of p == t && (nat_lt 0 (entry_of p) && nat_le (entry_of p) 8) && opens o (entry_of p) then entry_of p else 9

abbrev pub call_of : State → ℕ → ℕ → ℕ → ℕ
call_of s t o c = open_call t o (place_of s c)

abbrev pub nobody : Caller
nobody = record { task = 0; entry = 9 }

-- the caller of the lower entry, and of the same entry the earlier one
abbrev pub lower_of : Caller → ℕ → ℕ → Caller
lower_of b c e = when nat_lt e b.entry then record { task = c; entry = e } else b

abbrev pub lowest_of : (ℕ → ℕ) → Caller → List ℕ → Caller
lowest_of f b [] = b
lowest_of f b (c ∷ l) = lowest_of f (lower_of b c (f c)) l
