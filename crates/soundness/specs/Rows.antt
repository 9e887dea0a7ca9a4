-- What the check of the rows answers.
-- Assumes nothing.
use Rattle.std.specs.Prelude.{◌≡◌, ℕ, zero, suc, ◌<◌, Bool, ◌&&◌, List, [], ◌∷◌, ◌==◌, Option, None, Some}
use Rattle.std.specs.Bool.{then_some}
use Rattle.lists.specs.Line.{blanks}
use Rattle.lists.specs.Lists.{when◌then◌else◌}
use Rattle.lists.specs.Marks.{mark_of}
use Rattle.rules.specs.State.{place_of, is_queued, partner_of}
use Rattle.rules.specs.Whole.{view_core}
use Rattle.rules.specs.declared.Core.{Core}
use Rattle.rules.specs.declared.Place.{Place}
use Rattle.rules.specs.declared.Row.{Row}
use Rattle.soundness.specs.Marks.{Marks, has_mark, without_mark, if_any, is_none}

-- the task on which one in this place is queued, 0 where it is queued on none
abbrev pub called_by : Place → ℕ
called_by p = when is_queued p then partner_of p else 0

abbrev pub Targets : Core → List ℕ → Type 0
Targets s m = (t : ℕ) → t < 32 → mark_of m t ≡ called_by (place_of (view_core s) t)

-- the walk of the row of task g: who is still to be met behind it, if each number was, and has called g
abbrev pub met_in : List ℕ → ℕ → Marks → List ℕ → Option Marks
met_in T g m [] = Some m
met_in T g m (zero ∷ xs) = then_some (blanks xs) m
met_in T g m (suc n ∷ xs) = when has_mark m (suc n) && mark_of T (suc n) == g then met_in T g (without_mark m (suc n)) xs else None

-- all rows from that of task g on; at the end nobody is still to be met
abbrev pub met_all : List ℕ → ℕ → Marks → List Row → Bool
met_all T g m [] = is_none m
met_all T g m (r ∷ rs) = if_any (met_in T g m r.line) (λ n. met_all T (suc g) n rs)
