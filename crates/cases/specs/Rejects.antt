-- Supervisors that the table must reject, among them those that document 01 names, each by its step.
-- Assumes nothing.
use Rattle.std.specs.Prelude.{Bool, false, cond, not, List, [], ◌∷◌, pos, negsuc, eqb}
use Rattle.lists.specs.Lists.{every}
use Rattle.calls.specs.declared.Call as C
use Rattle.calls.specs.declared.Call.TheVariants.{Create, Delay, Call, Select, End, Finish, Tick, Advance}
use Rattle.calls.specs.declared.CallMode.{CallMode}
use Rattle.calls.specs.declared.CallMode.TheVariants.{Simple, Timed, Conditional}
use Rattle.rules.specs.State.{empty, running}
use Rattle.rules.specs.Step.{item, CALL_EXPIRED}
use Rattle.rules.specs.declared.Refusal.TheVariants.{BadState}
use Rattle.rules.specs.Whole.{Whole, view, pack, decline}
use Rattle.rules.specs.declared.Item.{Item}
use Rattle.rules.specs.declared.Supervisor.{Supervisor}
use Rattle.cases.specs.Cases.{step_of, idle, holds, cases}

-- some row of the table does not hold
abbrev pub rejected : (Supervisor → C.Call → Whole) → Bool
rejected step = not (every (holds step) cases)

-- "a supervisor that refuses everything"
abbrev pub refuses_all : Supervisor → C.Call → Whole
refuses_all s c = decline s BadState 0

-- "one that always answers alike"
abbrev pub answers_alike : Supervisor → C.Call → Whole
answers_alike s c = step_of (pack (empty 0)) (Create 1 0)

-- "one that returns the state untouched"
abbrev pub untouched : Supervisor → C.Call → Whole
untouched s c = let w = step_of s c in record { refusal = w.refusal; answer = w.answer; ended = w.ended; next = w.next; state = s }

-- "one that works at its first step and idles later": later, some task is created
abbrev pub idles_later : Supervisor → C.Call → Whole
idles_later s c = cond (eqb s.core.created 0) (step_of s c) (idle s)

-- the first two ended waits in the other order
abbrev exchanged : List Item → List Item
exchanged [] = []
exchanged (i ∷ []) = i ∷ []
exchanged (i ∷ j ∷ js) = j ∷ i ∷ js

-- one that lists ended waits in another order: those of equal times, and those of a task that finishes
abbrev pub exchanges_ended : Supervisor → C.Call → Whole
exchanges_ended s c = let w = step_of s c in record { refusal = w.refusal; answer = w.answer; ended = exchanged w.ended; next = w.next; state = w.state }

-- how a call waits: with a time of 0 ticks
abbrev of_no_ticks : CallMode → Bool
of_no_ticks Simple = false
of_no_ticks (Timed (pos d)) = eqb d 0
of_no_ticks (Timed (negsuc d)) = false
of_no_ticks Conditional = false

-- one whose timed call of 0 ticks expires at once, whether or not its target waits for it
abbrev pub never_looks : Supervisor → C.Call → Whole
never_looks s (Create p n) = step_of s (Create p n)
never_looks s (Delay d) = step_of s (Delay d)
never_looks s (Call t e m) =
    let r = running (view s) in cond (of_no_ticks m) (record { refusal = 0; answer = item r CALL_EXPIRED e t; ended = []; next = r; state = s }) (step_of s (Call t e m))
never_looks s (Select o m) = step_of s (Select o m)
never_looks s End = step_of s End
never_looks s Finish = step_of s Finish
never_looks s Tick = step_of s Tick
never_looks s (Advance n) = step_of s (Advance n)
