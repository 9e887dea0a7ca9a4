-- The starred cases of document 01, its sample, four of ADVANCE, and those of priority in a rendezvous, as one table of values, and the test of a row.
-- A row: the clock of an empty supervisor, the calls made from there, each with 124 bytes of room, and what the last of
-- them gives: the line as the sample prints it, the clock afterwards, and the ended waits.
-- Assumes nothing.
use Rattle.std.specs.Prelude.{ℕ, Bool, true, false, ◌&&◌, List, [], ◌∷◌, ◌++◌, pos, negsuc, take, replicate, eqb}
use Rattle.rules.specs.State.{empty}
use Rattle.rules.specs.Step.{item, none}
use Rattle.rules.specs.declared.Item.{Item}
use Rattle.rules.specs.Whole.{Whole, pack, step_whole}
use Rattle.rules.specs.declared.Supervisor.{Supervisor}
use Rattle.calls.specs.declared.CallMode.TheVariants.{Simple, Timed, Conditional}
use Rattle.calls.specs.declared.SelectMode.TheVariants.{Plain}
use Rattle.calls.specs.declared.SelectMode.TheVariants as S
use Rattle.calls.specs.declared.Call as C
use Rattle.calls.specs.declared.Call.TheVariants.{Create, Delay, Call, Select, End, Finish, Tick, Advance}

-- ── the supervisor that the table is about ──

-- one step of it, with 124 bytes of room
abbrev pub step_of : Supervisor → C.Call → Whole
step_of s c = step_whole s c 124

-- nothing is answered
abbrev pub idle : Supervisor → Whole
idle s = record { refusal = 0; answer = none; ended = []; next = 0; state = s }

-- what the last of the calls gives, by any supervisor's step
abbrev pub last_of : (Supervisor → C.Call → Whole) → Supervisor → List C.Call → Whole
last_of step s [] = idle s
last_of step s (c ∷ []) = step s c
last_of step s (c ∷ d ∷ cs) = last_of step (step s c).state (d ∷ cs)

-- ── a row ──

-- a printed line: refusal, result, task, entry, partner, next
pub record Line : Type 0 where
  pub refusal : ℕ
  pub result : ℕ
  pub task : ℕ
  pub entry : ℕ
  pub partner : ℕ
  pub next : ℕ

abbrev pub says : ℕ → ℕ → ℕ → ℕ → ℕ → ℕ → Line
says r a t e p n = record { refusal = r; result = a; task = t; entry = e; partner = p; next = n }

pub record Row : Type 0 where
  pub start : ℕ
  pub calls : List C.Call
  pub line : Line
  pub clock : ℕ
  pub ended : List Item

abbrev row : ℕ → List C.Call → Line → ℕ → List Item → Row
row n cs l k is = record { start = n; calls = cs; line = l; clock = k; ended = is }

-- ── the test of a row ──

-- the answer of a step is the printed line
abbrev pub prints : Whole → Line → Bool
prints w l =
    eqb w.refusal l.refusal && eqb w.answer.result l.result && eqb w.answer.task l.task
    && eqb w.answer.entry l.entry && eqb w.answer.partner l.partner && eqb w.next l.next

-- an ended wait is this one
abbrev pub same_item : Item → Item → Bool
same_item i j = eqb i.task j.task && eqb i.result j.result && eqb i.entry j.entry && eqb i.partner j.partner

-- the ended waits are these, in this order
abbrev pub same_items : List Item → List Item → Bool
same_items [] [] = true
same_items [] (j ∷ js) = false
same_items (i ∷ is) [] = false
same_items (i ∷ is) (j ∷ js) = same_item i j && same_items is js

-- what the last call gives is what the row says
abbrev pub gives : Whole → Row → Bool
gives w r = prints w r.line && eqb w.state.core.clock r.clock && same_items w.ended r.ended

abbrev pub holds : (Supervisor → C.Call → Whole) → Row → Bool
holds step r = gives (last_of step (pack (empty r.start)) r.calls) r

-- ── the table ──

-- the nine calls of the sample
unfoldable pub sample : List C.Call
sample = Create 5 1 ∷ Create 9 0 ∷ Call 1 1 (Timed (pos 3)) ∷ Tick ∷ Select 1 Plain ∷ Tick ∷ Tick ∷ End ∷ End ∷ []

-- task 1, of priority 3, was resumed to serve task 2, of priority 9
abbrev inside : List C.Call
inside = Create 3 1 ∷ Select 1 Plain ∷ Create 9 0 ∷ Call 1 1 Simple ∷ []

-- task 1, of priority 3, serves task 3, of priority 7, and meanwhile task 2, of priority 9
abbrev nested : List C.Call
nested = Create 3 2 ∷ Create 9 0 ∷ Call 1 1 Simple ∷ Create 7 0 ∷ Call 1 2 Simple ∷ Select 2 Plain ∷ Select 1 Plain ∷ []

unfoldable pub cases : List Row
cases =
    -- A* empty, FINISH: 4
    row 0 (Finish ∷ []) (says 4 0 0 0 0 0) 0 []
    -- B* CREATE priority 0 or 16: 3; 1 and 15: done
    ∷ row 0 (Create 0 0 ∷ []) (says 3 0 0 0 0 0) 0 []
    ∷ row 0 (Create 16 0 ∷ []) (says 3 0 0 0 0 0) 0 []
    ∷ row 0 (Create 1 0 ∷ []) (says 0 10 1 0 0 1) 0 []
    ∷ row 0 (Create 15 0 ∷ []) (says 0 10 1 0 0 1) 0 []
    -- D* with 31 tasks, CREATE: 9
    ∷ row 0 (replicate 31 (Create 1 0)) (says 0 10 31 0 0 1) 0 []
    ∷ row 0 (replicate 32 (Create 1 0)) (says 9 0 0 0 0 1) 0 []
    -- E* DELAY 0 or -1, an equal-priority task ready behind: ELAPSED, the other runs
    ∷ row 0 (Create 4 0 ∷ Create 4 0 ∷ Delay (pos 0) ∷ []) (says 0 1 1 0 0 2) 0 []
    ∷ row 0 (Create 4 0 ∷ Create 4 0 ∷ Delay (negsuc 0) ∷ []) (says 0 1 1 0 0 2) 0 []
    -- F* DELAY 1, TICK: ELAPSED
    ∷ row 0 (Create 4 0 ∷ Delay (pos 1) ∷ Tick ∷ []) (says 0 10 0 0 0 1) 1 (item 1 1 0 0 ∷ [])
    -- G* clock 4294967295, DELAY 1, TICK: clock 0, ELAPSED
    ∷ row 4294967295 (Create 4 0 ∷ Delay (pos 1) ∷ Tick ∷ []) (says 0 10 0 0 0 1) 0 (item 1 1 0 0 ∷ [])
    -- H* timed call, d 0, target waits for it: the rendezvous begins
    ∷ row 0 (Create 9 1 ∷ Select 1 Plain ∷ Create 4 0 ∷ Call 1 1 (Timed (pos 0)) ∷ []) (says 0 0 2 0 0 1) 0 (item 1 5 1 2 ∷ [])
    -- I* the same, target does not wait: CALL_EXPIRED
    ∷ row 0 (Create 4 1 ∷ Create 9 0 ∷ Call 1 1 (Timed (pos 0)) ∷ []) (says 0 3 2 1 1 2) 0 []
    -- J* task 2 calls entry 1 of task 1 with d 2; then, same clock, task 1 selects its entry 2 with delay 2: the second
    -- TICK lists 2 3 1 1, then 1 6 0 0
    ∷ row 0 (Create 4 2 ∷ Create 9 0 ∷ Call 1 1 (Timed (pos 2)) ∷ Select 2 (S.Delay (pos 2)) ∷ Tick ∷ Tick ∷ []) (says 0 10 0 0 0 2) 2 (item 2 3 1 1 ∷ item 1 6 0 0 ∷ [])
    -- K* conditional call, target ready: NOT_NOW
    ∷ row 0 (Create 4 1 ∷ Create 9 0 ∷ Call 1 1 Conditional ∷ []) (says 0 8 2 1 1 2) 0 []
    -- L* SELECT of nothing, plain: PROGRAM_ERROR; delay 2: WAITS
    ∷ row 0 (Create 4 0 ∷ Select 0 Plain ∷ []) (says 0 9 1 0 0 1) 0 []
    ∷ row 0 (Create 4 0 ∷ Select 0 (S.Delay (pos 2)) ∷ []) (says 0 0 1 0 0 0) 0 []
    -- M* a caller queued on entry 2, a later one on entry 1, FINISH: the later one is listed first
    ∷ row 0 (Create 4 2 ∷ Create 9 0 ∷ Call 1 2 Simple ∷ Create 9 0 ∷ Call 1 1 Simple ∷ Finish ∷ []) (says 0 10 1 0 0 3) 0 (item 3 4 1 1 ∷ item 2 4 2 1 ∷ [])
    -- the nine lines of the sample
    ∷ row 0 (take 1 sample) (says 0 10 1 0 0 1) 0 []
    ∷ row 0 (take 2 sample) (says 0 10 2 0 0 2) 0 []
    ∷ row 0 (take 3 sample) (says 0 0 2 0 0 1) 0 []
    ∷ row 0 (take 4 sample) (says 0 10 0 0 0 1) 1 []
    ∷ row 0 (take 5 sample) (says 0 5 1 1 2 1) 1 []
    ∷ row 0 (take 6 sample) (says 0 10 0 0 0 1) 2 []
    ∷ row 0 (take 7 sample) (says 0 10 0 0 0 1) 3 []
    ∷ row 0 (take 8 sample) (says 0 10 1 0 0 2) 3 (item 2 2 1 1 ∷ [])
    ∷ row 0 (take 9 sample) (says 7 0 0 0 0 2) 3 []
    -- ADVANCE 0 changes nothing
    ∷ row 7 (Create 4 0 ∷ Advance 0 ∷ []) (says 0 10 0 0 0 1) 7 []
    -- case J with ADVANCE 2: both waits end, at one reading
    ∷ row 0 (Create 4 2 ∷ Create 9 0 ∷ Call 1 1 (Timed (pos 2)) ∷ Select 2 (S.Delay (pos 2)) ∷ Advance 2 ∷ []) (says 0 10 0 1 0 2) 2 (item 2 3 1 1 ∷ item 1 6 0 0 ∷ [])
    -- two waits end at two readings, the shorter one first, and the clock goes on
    ∷ row 0 (Create 4 0 ∷ Delay (pos 3) ∷ Create 4 0 ∷ Delay (pos 1) ∷ Advance 5 ∷ []) (says 0 10 0 2 0 2) 5 (item 2 1 0 0 ∷ item 1 1 0 0 ∷ [])
    -- across the clock's last reading
    ∷ row 4294967294 (Create 4 0 ∷ Delay (pos 3) ∷ Advance 4 ∷ []) (says 0 10 0 1 0 1) 2 (item 1 1 0 0 ∷ [])
    -- a rendezvous runs at the higher of the two priorities: a middle task does not preempt the acceptor
    ∷ row 0 (inside ++ (Create 5 0 ∷ [])) (says 0 10 3 0 0 1) 0 []
    -- a resumed acceptor joins the tail of the new level
    ∷ row 0 (Create 3 1 ∷ Select 1 Plain ∷ Create 9 0 ∷ Create 9 0 ∷ Call 1 1 Simple ∷ []) (says 0 0 2 0 0 3) 0 (item 1 5 1 2 ∷ [])
    -- one already running that is not raised keeps its place, in front of one of its level
    ∷ row 0 (Create 9 1 ∷ Delay (pos 1) ∷ Create 9 0 ∷ Call 1 1 Simple ∷ Tick ∷ Create 9 0 ∷ Select 1 Plain ∷ []) (says 0 5 1 1 2 1) 1 []
    -- raised, it stands alone on the raised level
    ∷ row 0 (nested ++ (Create 8 0 ∷ [])) (says 0 10 4 0 0 1) 0 []
    -- END puts it back, below a caller that is higher still
    ∷ row 0 (nested ++ (Create 8 0 ∷ End ∷ [])) (says 0 10 1 0 0 2) 0 (item 2 2 1 1 ∷ [])
    -- to what it was before, 7, not to what it was created with
    ∷ row 0 (nested ++ (Create 8 0 ∷ End ∷ Delay (pos 5) ∷ [])) (says 0 0 2 0 0 4) 0 []
    ∷ row 0 (nested ++ (Create 8 0 ∷ End ∷ Delay (pos 5) ∷ Delay (pos 5) ∷ Create 5 0 ∷ [])) (says 0 10 5 0 0 1) 0 []
    -- and the next END to what it was before that, 3
    ∷ row 0 (nested ++ (Create 8 0 ∷ End ∷ Delay (pos 5) ∷ Delay (pos 5) ∷ Create 5 0 ∷ End ∷ Delay (pos 5) ∷ [])) (says 0 0 3 0 0 5) 0 []
    -- lowered by END, it goes to the head of the old level, in front of one that became ready before it
    ∷ row 0 (Create 3 1 ∷ Create 3 0 ∷ Select 1 Plain ∷ Create 9 0 ∷ Call 1 1 Simple ∷ End ∷ Delay (pos 5) ∷ []) (says 0 0 3 0 0 1) 0 []
    -- not lowered, it keeps its place
    ∷ row 0 (Create 9 1 ∷ Create 9 0 ∷ Select 1 Plain ∷ Delay (pos 5) ∷ Create 3 0 ∷ Call 1 1 Simple ∷ Create 9 0 ∷ End ∷ []) (says 0 10 1 0 0 1) 0 (item 3 2 1 1 ∷ [])
    -- the caller's current priority counts, not the one with which it was created
    ∷ row 0 (Create 3 1 ∷ Select 1 Plain ∷ Create 5 1 ∷ Select 1 Plain ∷ Create 9 0 ∷ Call 2 1 Simple ∷ Call 1 1 Simple ∷ Create 7 0 ∷ []) (says 0 10 4 0 0 1) 0 []
    -- DELAY 0 inside a rendezvous goes to the tail of the raised level
    ∷ row 0 (inside ++ (Create 9 0 ∷ Delay (pos 0) ∷ [])) (says 0 1 1 0 0 3) 0 []
    ∷ row 0 (inside ++ (Create 9 0 ∷ Delay (pos 0) ∷ Delay (pos 0) ∷ [])) (says 0 1 3 0 0 1) 0 []
    ∷ []

-- two tasks that delay, for 2000000000 ticks and for 3
unfoldable pub sleepers : List C.Call
sleepers = Create 4 0 ∷ Delay (pos 2000000000) ∷ Create 4 0 ∷ Delay (pos 3) ∷ []
