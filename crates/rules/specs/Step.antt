-- What a step does and answers (document 01, "Steps", "Results", "Refusal numbers").
-- Assumes nothing.
use Rattle.std.specs.Prelude.{ℕ, zero, suc, ◌+◌, ◌^◌, Bool, true, false, not, ◌&&◌, List, [], ◌∷◌, ◌++◌, map, eqb, ltb, leb}
use lib.ListN.{length}
use Rattle.lists.specs.Lists.{when◌then◌else◌, bit, filter, first, last}
use Rattle.rules.specs.State.{State, task_of, place_of, timer_of, created, is_task, has_entry, is_completed, partner_of, entry_of, accepts, opens, queue, held_by, running, after, move, wake, meet, part, wake_all, add, set_clock, waiting, offer}
use Rattle.rules.specs.Sound.{in_range}
use Rattle.rules.specs.declared.Item.{Item}
use Rattle.rules.specs.declared.Refusal.{Refusal}
use Rattle.rules.specs.declared.Refusal.TheVariants.{ShortRoom, BadState, BadField, NoTask, NoTarget, NoEntry, NotServing, StillServing, Full}
use Rattle.rules.specs.declared.StepResult.{StepResult}
use Rattle.rules.specs.declared.StepResult.TheVariants.{Waits, Elapsed, Served, CallExpired, TaskingError, Accepted, DelayTaken, ElseTaken, NotNow, ProgramError, Done}
use Rattle.rules.specs.declared.Timer.{Timer}
use Rattle.rules.specs.declared.Timer.TheVariants.{Off, Due}
use Rattle.rules.specs.declared.Place.{Place}
use Rattle.rules.specs.declared.Place.TheVariants.{Blank, Ready, Delayed, Queued, Held, Accepting, Completed}
use Rattle.calls.specs.declared.CallMode.{CallMode}
use Rattle.calls.specs.declared.CallMode.TheVariants.{Simple, Timed, Conditional}
use Rattle.calls.specs.declared.SelectMode.{SelectMode}
use Rattle.calls.specs.declared.SelectMode.TheVariants.{Plain, Else}
use Rattle.calls.specs.declared.SelectMode.TheVariants as S
use Rattle.calls.specs.declared.Call as C
use Rattle.calls.specs.declared.Call.TheVariants.{Create, Delay, Call, Select, End, Finish, Tick, Advance}
-- a duration's ticks
pub use Rattle.calls.specs.Duration.{ticks}

-- four numbers of an ended wait or of an answer: task, result, entry, partner
abbrev pub item : ℕ → ℕ → ℕ → ℕ → Item
item t r e g = record { task = t; result = r; entry = e; partner = g }

-- the numbers of a refused step
abbrev pub none : Item
none = item 0 0 0 0

-- the numbers of the refusals in document 01 (10 is retired and given to nothing)
abbrev pub number : Refusal → ℕ
number ShortRoom = 1
number BadState = 2
number BadField = 3
number NoTask = 4
number NoTarget = 5
number NoEntry = 6
number NotServing = 7
number StillServing = 8
number Full = 9

-- a call is refused, or taken: the next state, the answer and the ended waits in order
pub data Outcome : Type 0 where
  refused : Refusal → Outcome
  took : State → Item → List Item → Outcome

-- a wait begins exactly when an accepted step answers WAITS
abbrev pub WAITS : ℕ
WAITS = 0

-- a delay is over
abbrev pub ELAPSED : ℕ
ELAPSED = 1

-- the rendezvous of a call has ended
abbrev pub SERVED : ℕ
SERVED = 2

-- a timed call was not accepted in its time
abbrev pub CALL_EXPIRED : ℕ
CALL_EXPIRED = 3

-- the called task has completed
abbrev pub TASKING_ERROR : ℕ
TASKING_ERROR = 4

-- a caller is held now
abbrev pub ACCEPTED : ℕ
ACCEPTED = 5

-- nobody called in the time of a selective wait
abbrev pub DELAY_TAKEN : ℕ
DELAY_TAKEN = 6

-- nobody had called an open entry, and there is an else part
abbrev pub ELSE_TAKEN : ℕ
ELSE_TAKEN = 7

-- a conditional call was not accepted at once
abbrev pub NOT_NOW : ℕ
NOT_NOW = 8

-- a plain selective wait with nothing open
abbrev pub PROGRAM_ERROR : ℕ
PROGRAM_ERROR = 9

-- CREATE, END, FINISH, TICK and ADVANCE
abbrev pub DONE : ℕ
DONE = 10

-- the numbers of the results that the code names
abbrev pub result_number : StepResult → ℕ
result_number Waits = WAITS
result_number Elapsed = ELAPSED
result_number Served = SERVED
result_number CallExpired = CALL_EXPIRED
result_number TaskingError = TASKING_ERROR
result_number Accepted = ACCEPTED
result_number DelayTaken = DELAY_TAKEN
result_number ElseTaken = ELSE_TAKEN
result_number NotNow = NOT_NOW
result_number ProgramError = PROGRAM_ERROR
result_number Done = DONE

-- ── CREATE ──

-- CREATE priority, entry count: a new ready task
abbrev pub create : State → ℕ → ℕ → Outcome
create s p n =
    when not (in_range p n) then refused BadField
    else when leb 31 (created s) then refused Full
    else took (add s p n) (item (suc (created s)) DONE 0 0) []

-- ── DELAY ──

-- DELAY d: above 0, t waits until the d-th tick; otherwise ELAPSED at once, and it moves to the tail of its level
abbrev pub delay_for : State → ℕ → ℕ → Outcome
delay_for s t zero = took (move s t Ready Off) (item t ELAPSED 0 0) []
delay_for s t (suc d) = took (move s t Delayed (Due (after s.clock (suc d)))) (item t WAITS 0 0) []

-- ── CALL ──

-- t waits in the queue of entry e of task g, at the tail, with a time or none
abbrev pub enqueue : State → ℕ → ℕ → ℕ → Timer → Outcome
enqueue s t g e w = took (move s t (Queued (waiting g e)) w) (item t WAITS 0 0) []

-- timed with d above 0 waits with a time; with d zero or below it gives CALL_EXPIRED
abbrev pub timed_call : State → ℕ → ℕ → ℕ → ℕ → Outcome
timed_call s t g e zero = took s (item t CALL_EXPIRED e g) []
timed_call s t g e (suc d) = enqueue s t g e (Due (after s.clock (suc d)))

-- CALL where the target neither has completed nor waits to accept that entry
abbrev pub call_busy : State → ℕ → ℕ → ℕ → CallMode → Outcome
call_busy s t g e Simple = enqueue s t g e Off
call_busy s t g e (Timed d) = timed_call s t g e (ticks d)
call_busy s t g e Conditional = took s (item t NOT_NOW e g) []

-- CALL target, entry, mode
abbrev pub call : State → ℕ → ℕ → ℕ → CallMode → Outcome
call s t g e m =
    when not (is_task s g) then refused NoTarget
    else when not (has_entry (task_of s g) e) then refused NoEntry
    else when is_completed (place_of s g) then took s (item t TASKING_ERROR e g) []
    else when accepts (place_of s g) e then took (meet (wake s g) g t e) (item t WAITS 0 0) (item g ACCEPTED e t ∷ [])
    else call_busy s t g e m

-- ── SELECT ──

-- the lowest of k entries from e on that is open and has a caller, 0 if there is none
abbrev pub open_from : State → ℕ → ℕ → ℕ → ℕ → ℕ
open_from s t o zero e = 0
open_from s t o (suc k) e = elim (opens o e && ltb 0 (length (queue s t e))) [ true ↦ e | false ↦ open_from s t o k (suc e) ]

-- the lowest-numbered open entry of t that has a caller, 0 if there is none
unfoldable pub open_entry : State → ℕ → ℕ → ℕ
open_entry s t o = open_from s t o 8 1

-- delay with d zero or below gives DELAY_TAKEN, with d above 0 waits with a time; the open set may be empty
abbrev pub select_delay : State → ℕ → ℕ → ℕ → Outcome
select_delay s t o zero = took s (item t DELAY_TAKEN 0 0) []
select_delay s t o (suc d) = took (move s t (Accepting (offer o)) (Due (after s.clock (suc d)))) (item t WAITS 0 0) []

-- SELECT where no open entry has a caller
abbrev pub select_none : State → ℕ → ℕ → SelectMode → Outcome
select_none s t o Plain =
    when eqb o 0 then took s (item t PROGRAM_ERROR 0 0) []
    else took (move s t (Accepting (offer o)) Off) (item t WAITS 0 0) []
select_none s t o (S.Delay d) = select_delay s t o (ticks d)
select_none s t o Else = took s (item t ELSE_TAKEN 0 0) []

-- entry e is the one that is taken, if it is not 0
abbrev pub select_at : State → ℕ → ℕ → SelectMode → ℕ → Outcome
select_at s t o m zero = select_none s t o m
select_at s t o m (suc e) =
    let c = first (queue s t (suc e)) in
    took (meet s t c (suc e)) (item t ACCEPTED (suc e) c) []

-- SELECT open set, mode
abbrev pub select : State → ℕ → ℕ → SelectMode → Outcome
select s t o m =
    when leb (2 ^ (task_of s t).entries) o then refused NoEntry
    else select_at s t o m (open_entry s t o)

-- ── END, FINISH, TICK ──

-- c, if it is not 0, becomes ready with SERVED, and t's current priority is what it was before
abbrev pub end_last : State → ℕ → ℕ → Outcome
end_last s t zero = refused NotServing
end_last s t (suc c) = took (part s t (suc c)) (item t DONE 0 0) (item (suc c) SERVED (entry_of (place_of s (suc c))) t ∷ [])

-- END: the caller held last becomes ready with SERVED
abbrev pub end : State → ℕ → Outcome
end s t = end_last s t (last (held_by s t))

-- all callers queued on t, from k entries from e on
abbrev pub queued_from : State → ℕ → ℕ → ℕ → List ℕ
queued_from s t zero e = []
queued_from s t (suc k) e = queue s t e ++ queued_from s t k (suc e)

-- all callers queued on t, entry 1 first
unfoldable pub queued_on : State → ℕ → List ℕ
queued_on s t = queued_from s t 8 1

-- the ended wait of a caller c whose called task completes
abbrev pub failed : State → ℕ → Item
failed s c = item c TASKING_ERROR (entry_of (place_of s c)) (partner_of (place_of s c))

-- FINISH: the task completes; all callers queued on it become ready with TASKING_ERROR, entry 1 first, each queue from its head
abbrev pub finish : State → ℕ → Outcome
finish s t =
    when ltb 0 (length (held_by s t)) then refused StillServing
    else took (move (wake_all s (queued_on s t)) t Completed Off) (item t DONE 0 0) (map (failed s) (queued_on s t))

-- how a wait in this place ends by time
abbrev pub expiry : Place → ℕ
expiry Blank = 0
expiry Ready = 0
expiry Delayed = ELAPSED
expiry (Queued q) = CALL_EXPIRED
expiry (Held m) = 0
expiry (Accepting o) = DELAY_TAKEN
expiry Completed = 0

-- the ended wait of a task t whose time has come
abbrev pub expired : State → ℕ → Item
expired s t = item t (expiry (place_of s t)) (entry_of (place_of s t)) (partner_of (place_of s t))

-- a time is due at the reading now
abbrev pub is_due : ℕ → Timer → Bool
is_due now Off = false
is_due now (Due d) = eqb d now

-- those due at a clock reading, in delay-queue order
abbrev pub due_at : State → ℕ → List ℕ
due_at s now = filter (λ t. is_due now (timer_of s t)) s.delays

-- the clock goes to a reading: those due then become ready
abbrev pub tick_to : State → ℕ → State
tick_to s now = set_clock (wake_all s (due_at s now)) now

-- and their waits have ended, in delay-queue order
abbrev pub ends_at : State → ℕ → List Item
ends_at s now = map (expired s) (due_at s now)

-- TICK: the clock goes on by one; those due now become ready
abbrev pub tick : State → Outcome
tick s = let now = after s.clock 1 in took (tick_to s now) (item 0 DONE 0 0) (ends_at s now)

-- ── ADVANCE ──

-- the state after n ticks, one after the other
abbrev pub advanced : ℕ → State → State
advanced zero s = s
advanced (suc n) s = advanced n (tick_to s (after s.clock 1))

-- their lists of ended waits, joined
abbrev pub advance_ends : ℕ → State → List Item
advance_ends zero s = []
advance_ends (suc n) s = ends_at s (after s.clock 1) ++ advance_ends n (tick_to s (after s.clock 1))

-- the number of different clock readings at which a wait ended
abbrev pub readings : ℕ → State → ℕ
readings zero s = 0
readings (suc n) s = bit (ltb 0 (length (ends_at s (after s.clock 1)))) + readings n (tick_to s (after s.clock 1))

-- ADVANCE n: n ticks in one step; the entry field gives the number of readings at which a wait ended
abbrev pub advance : State → ℕ → Outcome
advance s n = took (advanced n s) (item 0 DONE (readings n s) 0) (advance_ends n s)

-- ── a call ──

-- a call of the running task t, or of nobody
abbrev pub of_running : ℕ → (ℕ → Outcome) → Outcome
of_running zero f = refused NoTask
of_running (suc t) f = f (suc t)

-- each call, in a sound state and with room enough
abbrev pub take_call : State → C.Call → Outcome
take_call s (Create p n) = create s p n
take_call s (Delay d) = of_running (running s) (λ t. delay_for s t (ticks d))
take_call s (Call g e m) = of_running (running s) (λ t. call s t g e m)
take_call s (Select o m) = of_running (running s) (λ t. select s t o m)
take_call s End = of_running (running s) (λ t. end s t)
take_call s Finish = of_running (running s) (λ t. finish s t)
take_call s Tick = tick s
take_call s (Advance n) = advance s n

-- ── the lent room ──

-- the four bytes of an item: task, result, entry, partner
abbrev pub bytes : Item → List ℕ
bytes i = i.task ∷ i.result ∷ i.entry ∷ i.partner ∷ []

-- the lent room afterwards: each next item directly behind the one before; the bytes behind the last stay
abbrev pub room_after : List ℕ → List Item → List ℕ
room_after room [] = room
room_after room (i ∷ is) = bytes i ++ room_after (lib.ListN.drop 4 room) is
