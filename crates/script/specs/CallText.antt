-- The text of a call, in the words of document 01. Numbers are decimal.
-- Assumes nothing.
use Rattle.std.specs.Prelude.{ℕ, zero, suc, ◌+◌, ◌/◌, ◌%◌, Bool, cond, List, [], ◌∷◌, ◌++◌, eqb, ℤ, pos, negsuc}
use Rattle.calls.specs.declared.CallMode.{CallMode}
use Rattle.calls.specs.declared.CallMode.TheVariants.{Simple, Timed, Conditional}
use Rattle.calls.specs.declared.SelectMode.{SelectMode}
use Rattle.calls.specs.declared.SelectMode.TheVariants as S
use Rattle.calls.specs.declared.SelectMode.TheVariants.{Plain, Else}
use Rattle.calls.specs.declared.Call as C
use Rattle.calls.specs.declared.Call.TheVariants.{Create, Delay, Call, Select, End, Finish, Tick, Advance}
use Rattle.text.specs.Text.{decimal, spaced}

-- a blank and a duration, with a minus in front where it is below 0
unfoldable pub spaced_time : ℤ → List ℕ
spaced_time (pos n) = spaced n
spaced_time (negsuc n) = (32 ∷ 45 ∷ []) ++ decimal (suc n)

-- an entry of an open set: its mark and its digit where it is open
abbrev pub entry : Bool → ℕ → ℕ → List ℕ
entry isOpen mark digit = cond isOpen (mark ∷ digit ∷ []) []

-- the open entries in order, one for each of n bits: `digit` is that of the lowest bit, `mark` stands in front of the first, a comma in front of
-- each other
unfoldable pub entries : ℕ → ℕ → ℕ → ℕ → List ℕ
entries zero digit mark set = []
entries (suc n) digit mark set =
    entry (eqb (set % 2) 1) mark digit ++ entries n (digit + 1) (cond (eqb (set % 2) 1) 44 mark) (set / 2)

-- a blank and an open set: its entries, as in "1,3", or "none"
unfoldable pub open_text : ℕ → List ℕ
open_text set = cond (eqb set 0) (32 ∷ 110 ∷ 111 ∷ 110 ∷ 101 ∷ []) (entries 8 49 32 set)

-- how a CALL waits: nothing, " timed" and a duration, or " conditional"
unfoldable pub call_mode_text : CallMode → List ℕ
call_mode_text Simple = []
call_mode_text (Timed d) = (32 ∷ 116 ∷ 105 ∷ 109 ∷ 101 ∷ 100 ∷ []) ++ spaced_time d
call_mode_text Conditional = 32 ∷ 99 ∷ 111 ∷ 110 ∷ 100 ∷ 105 ∷ 116 ∷ 105 ∷ 111 ∷ 110 ∷ 97 ∷ 108 ∷ []

-- how a SELECT waits: nothing, " delay" and a duration, or " else"
unfoldable pub select_mode_text : SelectMode → List ℕ
select_mode_text Plain = []
select_mode_text (S.Delay d) = (32 ∷ 100 ∷ 101 ∷ 108 ∷ 97 ∷ 121 ∷ []) ++ spaced_time d
select_mode_text Else = 32 ∷ 101 ∷ 108 ∷ 115 ∷ 101 ∷ []

-- the text of each call: "CREATE 5 1", "DELAY 3", "CALL 1 1 timed 3", "SELECT 1,3 else", "END", "FINISH", "TICK", "ADVANCE 1000"
unfoldable pub text_of : C.Call → List ℕ
text_of (Create p n) = (67 ∷ 82 ∷ 69 ∷ 65 ∷ 84 ∷ 69 ∷ []) ++ (spaced p ++ spaced n)
text_of (Delay d) = (68 ∷ 69 ∷ 76 ∷ 65 ∷ 89 ∷ []) ++ spaced_time d
text_of (Call t e m) = (67 ∷ 65 ∷ 76 ∷ 76 ∷ []) ++ (spaced t ++ (spaced e ++ call_mode_text m))
text_of (Select o m) = (83 ∷ 69 ∷ 76 ∷ 69 ∷ 67 ∷ 84 ∷ []) ++ (open_text o ++ select_mode_text m)
text_of End = 69 ∷ 78 ∷ 68 ∷ []
text_of Finish = 70 ∷ 73 ∷ 78 ∷ 73 ∷ 83 ∷ 72 ∷ []
text_of Tick = 84 ∷ 73 ∷ 67 ∷ 75 ∷ []
text_of (Advance n) = (65 ∷ 68 ∷ 86 ∷ 65 ∷ 78 ∷ 67 ∷ 69 ∷ []) ++ spaced n
