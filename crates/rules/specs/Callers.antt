-- The callers apart from the rest of a state (request (v)): what of them a step looks at, and what becomes of them.
-- Assumes nothing.
use Rattle.std.specs.Prelude.{ℕ, ◌<◌, ◌≡◌, Bool, true, false, ◌&&◌, List, [], ◌∷◌, ◌++◌, map, length, eqb}
use Rattle.rules.specs.declared.Item.{Item}
use Rattle.lists.specs.Lists.{when◌then◌else◌, filter, count}
use Rattle.rules.specs.State.{State, place_of, is_queued, partner_of, running}
use Rattle.rules.specs.Sound.{sound}
use Rattle.rules.specs.Step.{Outcome, refused, took, take_call, WAITS, ACCEPTED}
use Rattle.calls.specs.declared.Call as C
use Rattle.calls.specs.declared.Call.TheVariants.{Create, Delay, Call, Select, End, Finish, Tick, Advance}

-- caller c waits on some entry of task g
abbrev pub calling : State → ℕ → ℕ → Bool
calling s g c = is_queued (place_of s c) && eqb (partner_of (place_of s c)) g

-- all calls to task g in one queue, whatever the entry
abbrev pub callers_of : State → ℕ → List ℕ
callers_of s g = filter (calling s g) s.callers

-- the same with another line of callers
abbrev pub with_callers : State → List ℕ → State
with_callers s l = record { clock = s.clock; tasks = s.tasks; ready = s.ready; callers = l; held = s.held; delays = s.delays }

-- all of a state but its callers
abbrev pub core : State → State
core s = with_callers s []

-- task u is queued on an entry
abbrev pub queued_in : State → ℕ → Bool
queued_in s u = is_queued (place_of s u)

-- an outcome but for the callers
abbrev pub core_of : Outcome → Outcome
core_of (refused r) = refused r
core_of (took s a l) = took (core s) a l

-- a call for which those queued on the running task are looked at
abbrev pub asks : C.Call → Bool
asks (Create p n) = false
asks (Delay d) = false
asks (Call g e m) = false
asks (Select o m) = true
asks End = false
asks Finish = true
asks Tick = false
asks (Advance n) = false

-- two states that differ in nothing but how the calls to different tasks stand among each other
pub record Alike (s u : State) : Type 0 where
  pub core : core s ≡ core u
  pub queues : (g : ℕ) → callers_of s g ≡ callers_of u g

-- ── what becomes of the callers, read off the call and what it answers ──

-- who is in no queue any more: the partner of one that was accepted, and those whose waits have ended
abbrev pub accepted_in : ℕ → ℕ → List ℕ
accepted_in result partner = when eqb result ACCEPTED then partner ∷ [] else []

abbrev pub gone_by : Item → List Item → List ℕ
gone_by a l = accepted_in a.result a.partner ++ map (λ (i : Item). i.task) l

-- whose queues they have left: that of the task that accepted one, and those of the tasks that the ended waits were for
abbrev pub left_by : Item → List Item → List ℕ
left_by a l = accepted_in a.result a.task ++ map (λ (i : Item). i.partner) l

-- a CALL that waits, and has woken nobody, waits in a queue
abbrev pub is_call : C.Call → Bool
is_call (Create p n) = false
is_call (Delay d) = false
is_call (Call g e m) = true
is_call (Select o m) = false
is_call End = false
is_call Finish = false
is_call Tick = false
is_call (Advance n) = false

abbrev pub comes_by : C.Call → ℕ → ℕ → Bool
comes_by c result ended = is_call c && (eqb result WAITS && eqb ended 0)

-- x is not in the list
abbrev pub not_in : List ℕ → ℕ → Bool
not_in l x = eqb (count x l) 0

-- the line l of callers afterwards
abbrev pub told_by : C.Call → Item → List Item → List ℕ → List ℕ
told_by c a x l = filter (not_in (gone_by a x)) l ++ (when comes_by c a.result (length x) then a.task ∷ [] else [])

-- what the outcome says of the callers, where l is their line
abbrev pub Told : C.Call → List ℕ → Outcome → Type 0
Told c l (refused r) = Unit {0}
Told c l (took s a x) = s.callers ≡ told_by c a x l

-- a step looks at no calls but those to the running task; what becomes of the callers is told by the call and what it answers
pub record CallersApart : Type 0 where
  pub looks : (s : State) (l : List ℕ) (c : C.Call) → (asks c ≡ true → callers_of s (running s) ≡ callers_of (with_callers s l) (running s)) → core_of (take_call s c) ≡ core_of (take_call (with_callers s l) c)
  pub tells : (s : State) (c : C.Call) → s.clock < 4294967296 → sound s ≡ true → Told c s.callers (take_call s c)
