-- Document 01's table of refusals for a step, row by row: "given exactly when".
-- Assumes nothing.
use Rattle.std.specs.Prelude.{ℕ, ◌^◌, Bool, not, List, [], ◌∷◌, eqb, ltb, leb, length}
use Rattle.lists.specs.Lists.{when◌then◌else◌}
use Rattle.rules.specs.State.{State, created, task_of, is_task, has_entry, held_by, running}
use Rattle.rules.specs.Sound.{in_range}
use Rattle.rules.specs.Whole.{view, sound_whole}
use Rattle.rules.specs.declared.Supervisor.{Supervisor}
use Rattle.calls.specs.declared.Call as C
use Rattle.calls.specs.declared.Call.TheVariants.{Create, Delay, Call, Select, End, Finish, Tick, Advance}

-- a row of the table: its number, and whether it applies
pub record Row : Type 0 where
  pub number : ℕ
  pub applies : Bool

abbrev pub row : ℕ → Bool → Row
row n b = record { number = n; applies = b }

-- 4 NO_TASK: a call that needs a running task, none is ready
abbrev pub no_task : State → Row
no_task s = row 4 (eqb (running s) 0)

-- the rows of each call, in order of checking: 3 BAD_FIELD, 4 NO_TASK, 5 NO_TARGET, 6 NO_ENTRY, 7 NOT_SERVING, 8 STILL_SERVING, 9 FULL
-- (10 is retired: `no_overflow` of statement 1 says why it could never be given)
abbrev pub rows_of : State → C.Call → List Row
rows_of s (Create p n) = row 3 (not (in_range p n)) ∷ row 9 (leb 31 (created s)) ∷ []
rows_of s (Delay d) = no_task s ∷ []
rows_of s (Call g e m) = no_task s ∷ row 5 (not (is_task s g)) ∷ row 6 (not (has_entry (task_of s g) e)) ∷ []
rows_of s (Select o m) = no_task s ∷ row 6 (leb (2 ^ (task_of s (running s)).entries) o) ∷ []
rows_of s End = no_task s ∷ row 7 (eqb (length (held_by s (running s))) 0) ∷ []
rows_of s Finish = no_task s ∷ row 8 (ltb 0 (length (held_by s (running s)))) ∷ []
rows_of s Tick = []
rows_of s (Advance n) = []

-- the rows for a step with a room of so many bytes: 1 SHORT_ROOM, 2 BAD_STATE, then those of the call
abbrev pub rows : Supervisor → C.Call → ℕ → List Row
rows s c room = row 1 (ltb room 124) ∷ row 2 (not (sound_whole s)) ∷ rows_of (view s) c

-- the number of the first row that applies; 0 if none does
abbrev pub first_row : List Row → ℕ
first_row [] = 0
first_row (r ∷ rs) = when r.applies then r.number else first_row rs
