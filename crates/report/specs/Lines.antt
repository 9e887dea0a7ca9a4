-- What stepper prints: a header, and a line for each call.
-- Assumes nothing.
use Rattle.std.specs.Prelude.{ℕ, zero, suc, cond, List, [], ◌∷◌, ◌++◌, length, get_or, drop, ltb}
use Rattle.rules.specs.declared.Answer.{Answer}
use Rattle.text.specs.Text.{decimal, spaced}

-- "step refusal result task entry partner next" and a line end
unfoldable pub header : List ℕ
header =
    115 ∷ 116 ∷ 101 ∷ 112 ∷ 32 ∷ 114 ∷ 101 ∷ 102 ∷ 117 ∷ 115 ∷ 97 ∷ 108 ∷ 32 ∷ 114 ∷ 101 ∷ 115 ∷ 117 ∷ 108 ∷ 116 ∷ 32 ∷ 116 ∷ 97 ∷ 115 ∷ 107 ∷ 32 ∷ 101 ∷ 110 ∷ 116 ∷ 114 ∷ 121 ∷ 32 ∷ 112 ∷ 97 ∷ 114 ∷ 116 ∷ 110 ∷ 101 ∷ 114 ∷ 32 ∷ 110 ∷ 101 ∷ 120 ∷ 116 ∷ 10 ∷ []

-- an ended wait: a space, a bar, and its task, result, entry and partner
unfoldable pub barred : ℕ → ℕ → ℕ → ℕ → List ℕ
barred task result entry partner = (32 ∷ 124 ∷ []) ++ (spaced task ++ (spaced result ++ (spaced entry ++ spaced partner)))

-- the first n ended waits of a room, four bytes each; fewer where the room has fewer
unfoldable pub waits : ℕ → List ℕ → List ℕ
waits zero room = []
waits (suc n) room =
    cond (ltb (length room) 4) []
    (barred (get_or room 0 0) (get_or room 1 0) (get_or room 2 0) (get_or room 3 0) ++ waits n (drop 4 room))

-- a line: the step's number, the answer's numbers, each ended wait behind a bar, and a line end
unfoldable pub line_text : ℕ → Answer → List ℕ → List ℕ
line_text step a room =
    decimal step
    ++ (spaced a.refusal
    ++ (spaced a.result
    ++ (spaced a.task
    ++ (spaced a.entry
    ++ (spaced a.partner
    ++ (spaced a.next
    ++ (waits a.ended room
    ++ (10 ∷ []))))))))

-- the most bytes that a line takes: 20 digits of the step's number, six numbers and 255 ended waits of three digits each, and a line end
abbrev pub longest_line : ℕ
longest_line = 4635
