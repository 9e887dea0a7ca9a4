-- The answers of the code's step functions, read off the rules' outcomes; and what they may assume.
-- Assumes nothing.
use Rattle.std.specs.Prelude.{◌≡◌, ℕ, ◌<◌, ◌≤◌, Bool, true, List, [], map, length, Result, Ok, Err}
use Rattle.calls.specs.declared.Call as C
use Rattle.lists.specs.Line.{line}
use Rattle.lists.specs.Lists.{when◌then◌else◌, count}
use Rattle.rules.specs.Callers.{with_callers, callers_of, asks}
use Rattle.rules.specs.State.{State, running, place_of, entry_of, partner_of, after, move, wake_all, set_clock, offer}
use Rattle.rules.specs.Advance.{due_within}
use Rattle.rules.specs.Step.{Outcome, refused, took, item, expiry, expired, failed, room_after, WAITS, TASKING_ERROR, DONE}
use Rattle.rules.specs.Whole.{view_core, pack_core}
use Rattle.rules.specs.declared.Answer.{Answer}
use Rattle.rules.specs.declared.Item.{Item}
use Rattle.rules.specs.declared.Refusal.{Refusal}
use Rattle.rules.specs.declared.Place.{Place}
use Rattle.rules.specs.declared.Place.TheVariants.{Accepting, Completed}
use Rattle.rules.specs.declared.Core.{Core}
use Rattle.rules.specs.declared.Timer.{Timer}
use Rattle.rules.specs.declared.Timer.TheVariants.{Off}
use Rattle.rules.proofs.Invariant.{Sound}
use Rattle.steps.specs.declared.answers.Taken.{Taken}

-- the struct is the core of a sound state, which has these callers
pub record Stands (s : Core) : Type 0 where
  pub packs : s ≡ pack_core (view_core s)
  pub callers : List ℕ
  pub sound : Sound (with_callers (view_core s) callers)

-- the state with this core and with the callers of the line
abbrev pub seen : Core → List ℕ → State
seen s l = with_callers (view_core s) (line l)

-- and the line has all those who are queued on the running task, in their order; of others it may have any
pub record Sees (s : Core) (mine : List ℕ) : Type 0 where
  pub stands : Stands s
  pub calls : callers_of (with_callers (view_core s) stands.callers) (running (view_core s)) ≡ callers_of (seen s mine) (running (view_core s))

-- the same, asked only where the call looks at them
pub record SeesFor (s : Core) (mine : List ℕ) (c : C.Call) : Type 0 where
  pub stands : Stands s
  pub calls : asks c ≡ true → callers_of (with_callers (view_core s) stands.callers) (running (view_core s)) ≡ callers_of (seen s mine) (running (view_core s))

-- what a step function answers for a call that is taken: the struct afterwards, the answer's numbers, and how many waits have ended
abbrev pub taken_as : Core → Item → ℕ → Taken
taken_as m a n = record { state = m; refusal = 0; task = a.task; result = a.result; entry = a.entry; partner = a.partner; ended = n }

-- what a step function answers for an outcome of the rules
abbrev pub taken_of : Outcome → Result Taken Refusal
taken_of (refused r) = Err r
taken_of (took st a l) = Ok (taken_as (pack_core st) a (length l))

-- what a call gave, as the answer of a step
abbrev pub answer_by : Taken → ℕ → Answer
answer_by k n = record { refusal = k.refusal; result = k.result; task = k.task; entry = k.entry; partner = k.partner; ended = k.ended; next = n }

-- the ended waits of an outcome
abbrev pub ended_by : Outcome → List Item
ended_by (refused r) = []
ended_by (took st a l) = l

-- task t waits to accept a caller of the open set o, with the time w
abbrev pub awaiting : State → ℕ → ℕ → Timer → Outcome
awaiting s t o w = took (move s t (Accepting (offer o)) w) (item t WAITS 0 0) []

-- task t completes, and all of a list wake because it does
abbrev pub completing : State → ℕ → List ℕ → Outcome
completing s t l = took (move (wake_all s l) t Completed Off) (item t DONE 0 0) (map (failed s) l)

-- n ticks at once: all whose time comes within them wake, and the clock goes on by n; the answer has the entry e
abbrev pub passing : State → ℕ → ℕ → Outcome
passing s n e = took (set_clock (wake_all s (due_within s n)) (after s.clock n)) (item 0 DONE e 0) (map (expired s) (due_within s n))

-- why the wait of a task in place p ends: by FINISH of the called task, or by time
abbrev pub reason_of : Bool → Place → ℕ
reason_of b p = when b then TASKING_ERROR else expiry p

-- the item of a wait that ends: task c waited in place p
abbrev pub item_at : Bool → ℕ → Place → Item
item_at b c p = item c (reason_of b p) (entry_of p) (partner_of p)

-- the item of the wait of task c, from the place where it stands
abbrev pub item_of : State → Bool → ℕ → Item
item_of s b c = item_at b c (place_of s c)

-- each of the list is a created task
abbrev pub AllThere : State → List ℕ → Type 0
AllThere s l = (u : ℕ) → 0 < count u l → (0 < u) × (u ≤ length s.tasks)

-- and stands in it once
abbrev pub EachOnce : State → List ℕ → Type 0
EachOnce s l = AllThere s l × ((u : ℕ) → count u l ≤ 1)

-- all of the list were woken, one after the other, and their items written one behind the other
pub record WokenAs (v : State) (failed : Bool) (l : List ℕ) (s : Core) (n : ℕ) (room after : List ℕ) : Type 0 where
  pub state : s ≡ pack_core (wake_all v l)
  pub number : n ≡ length l
  pub written : after ≡ room_after room (map (item_of v failed) l)
