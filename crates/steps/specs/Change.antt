-- What becomes of the callers, read off what a call gave and off the lent room: for either engine.
-- Assumes nothing.
use Rattle.std.specs.Prelude.{ℕ, zero, suc, Bool, ◌&&◌, List, [], ◌∷◌, ◌++◌, drop, ◌==◌}
use Rattle.calls.specs.Record.{byte}
use Rattle.calls.specs.declared.Call as C
use Rattle.lists.specs.Line.{line, pad}
use Rattle.lists.specs.Lists.{when◌then◌else◌}
use Rattle.lists.specs.Marks.{with_mark}
use Rattle.rules.specs.Callers.{comes_by}
use Rattle.rules.specs.Runs.{target}

-- where the task and the partner stand in the four bytes of an item
abbrev pub task_at : ℕ
task_at = 0

abbrev pub partner_at : ℕ
partner_at = 3

-- the bytes at an index of each of the first n items of a room
abbrev pub bytes_in : ℕ → ℕ → List ℕ → List ℕ
bytes_in k zero room = []
bytes_in k (suc n) room = byte room k ∷ bytes_in k n (drop 4 room)

-- the mark of each who is gone
abbrev pub one : ℕ → ℕ
one t = 1

-- the call was taken, and its task waits in a queue now
abbrev pub comes_of : C.Call → ℕ → ℕ → ℕ → Bool
comes_of c refusal result ended = refusal == 0 && comes_by c result ended

-- the task whose queue it comes into, 0 where it comes into none
abbrev pub joined_of : C.Call → ℕ → ℕ → ℕ → ℕ
joined_of c refusal result ended = when comes_of c refusal result ended then target c else 0

-- a line of callers after a step: those without a mark, and t behind them if it comes
abbrev pub line_by : List ℕ → Bool → ℕ → List ℕ → List ℕ
line_by m b t l = when b then pad (with_mark m 0 (line l) ++ (t ∷ [])) else pad (with_mark m 0 (line l))
