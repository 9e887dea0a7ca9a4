-- What the functions on rows answer.
-- Assumes nothing.
use Rattle.std.specs.Prelude.{ℕ, suc, ◌-◌, ◌<◌, ◌≡◌, Bool, not, ◌||◌, List, [], ◌∷◌, eqb, length, get_or}
use Rattle.calls.specs.declared.Call as C
use Rattle.lists.specs.Line.{pad}
use Rattle.lists.specs.Lists.{when◌then◌else◌}
use Rattle.lists.specs.Marks.{mark_of}
use Rattle.rules.specs.Callers.{asks}
use Rattle.rules.specs.State.{running}
use Rattle.rules.specs.Whole.{TypedCore, view_core}
use Rattle.rules.specs.declared.Core.{Core}
use Rattle.rules.specs.declared.Row.{Row}
use Rattle.rules.specs.declared.Second.{Second}
use Rattle.steps.specs.Change.{line_by}
use Rattle.table.specs.Numbers.{is_number}

-- what stands behind the rows (the logic's default element)
abbrev pub no_row : Row
no_row = record { line = [] }

-- the row of task g
abbrev pub row_of : List Row → ℕ → List ℕ
row_of rows g = when is_number g then (get_or rows (g - 1) no_row).line else pad []

-- the row of the running task, if the call looks at it
abbrev pub row_looked : Core → List Row → C.Call → List ℕ
row_looked k rows c = when asks c then row_of rows (running (view_core k)) else pad []

-- a row after a step: as it was, if nobody has left it and t does not come
abbrev pub next_row : Bool → Bool → List ℕ → ℕ → List ℕ → List ℕ
next_row left comes gone t l = when comes || left then line_by gone comes t l else l

-- all rows from that of task g on, where t comes into that of task a
abbrev pub next_rows : List ℕ → List ℕ → ℕ → ℕ → ℕ → List Row → List Row
next_rows left gone a t g [] = []
next_rows left gone a t g (r ∷ rs) = record { line = next_row (not (eqb (mark_of left g) 0)) (eqb g a) gone t r.line } ∷ next_rows left gone a t (suc g) rs

-- a struct of the type: rows of 31, and 31 of them
pub record TypedSecond (x : Second) : Type 0 where
  pub core : TypedCore x.core
  pub rows : length x.rows ≡ 31
  pub lines : (j : ℕ) → j < 31 → length (get_or x.rows j no_row).line ≡ 31
