-- The cases of request (xi), in two tables of values: the question for a task's priority, and which structs are sound. A row of the first: the
-- calls made from an empty supervisor, the number asked about, and the priority answered. A row of the second: the tasks, the ready
-- ones, those held, and whether the struct is sound; the question is refused, with 2, exactly where it is not.
-- Assumes nothing.
use Rattle.std.specs.Prelude.{ℕ, zero, suc, Bool, true, false, not, ◌&&◌, List, [], ◌∷◌, ◌++◌, pos, replicate, eqb}
use Rattle.lists.specs.Lists.{when◌then◌else◌}
use Rattle.rules.specs.State.{empty, meeting}
use Rattle.rules.specs.Whole.{pack, sound_whole}
use Rattle.rules.specs.Questions.{refusal_in, number_in, priority_whole}
use Rattle.rules.specs.declared.Task.{Task}
use Rattle.rules.specs.declared.Supervisor.{Supervisor}
use Rattle.rules.specs.declared.Timer.TheVariants.{Off}
use Rattle.rules.specs.declared.Place.TheVariants.{Ready, Held}
use Rattle.calls.specs.declared.CallMode.TheVariants.{Simple}
use Rattle.calls.specs.declared.SelectMode.TheVariants.{Plain}
use Rattle.calls.specs.declared.Call as C
use Rattle.calls.specs.declared.Call.TheVariants.{Create, Delay, Call, Select, End, Finish, Tick}
use Rattle.cases.specs.Cases.{step_of, last_of}

-- ── the question ──

pub record Asked : Type 0 where
  pub calls : List C.Call
  pub task : ℕ
  pub priority : ℕ

abbrev asks : List C.Call → ℕ → ℕ → Asked
asks cs t p = record { calls = cs; task = t; priority = p }

-- it is answered, with this priority
abbrev pub answers : Asked → Bool
answers a = let k = priority_whole (last_of step_of (pack (empty 0)) a.calls).state a.task in eqb (refusal_in k) 0 && eqb (number_in k) a.priority

-- task 3, of priority 9, is held by task 2, of priority 3, and that by task 1, of priority 5
abbrev chain : List C.Call
chain = Create 5 1 ∷ Select 1 Plain ∷ Create 3 1 ∷ Select 1 Plain ∷ Create 9 0 ∷ Call 2 1 Simple ∷ Call 1 1 Simple ∷ []

-- task 1, of priority 3, holds task 2, of priority 9, and then task 3, of priority 7
abbrev nested : List C.Call
nested = Create 3 2 ∷ Create 9 0 ∷ Call 1 1 Simple ∷ Create 7 0 ∷ Call 1 2 Simple ∷ Select 1 Plain ∷ Select 2 Plain ∷ []

-- the calls of task t and of those above it, n in all
abbrev onward : ℕ → ℕ → List C.Call
onward zero t = []
onward (suc n) t = Call t 1 Simple ∷ onward n (suc t)

-- of 31 tasks each is held by the next: 30 moves from task 1, of priority 15, to task 31, which has priority 1 as all others
unfoldable pub longest : List C.Call
longest = ((Create 15 1 ∷ replicate 30 (Create 1 1)) ++ (Delay (pos 1) ∷ replicate 30 (Select 1 Plain))) ++ (Tick ∷ onward 30 2)

unfoldable pub asked : List Asked
asked =
    -- the highest of all below it
    asks chain 1 9 ∷ asks chain 2 9 ∷ asks chain 3 9
    -- until the rendezvous ends
    ∷ asks (chain ++ (End ∷ [])) 1 5 ∷ asks (chain ++ (End ∷ [])) 2 9
    -- its own, where that is higher than those of its callers
    ∷ asks (Create 9 1 ∷ Select 1 Plain ∷ Create 3 0 ∷ Call 1 1 Simple ∷ []) 1 9
    -- the highest of two callers, also if it is the first
    ∷ asks nested 1 9 ∷ asks nested 3 7
    -- 30 moves from the lowest to the top
    ∷ asks longest 31 15 ∷ asks longest 2 15 ∷ asks longest 1 15
    -- 0 for a number not created
    ∷ asks chain 0 0 ∷ asks chain 4 0 ∷ asks chain 255 0
    -- a completed task has the one with which it was created
    ∷ asks (Create 6 0 ∷ Finish ∷ []) 1 6
    ∷ []

-- ── structs ──

pub record Struct : Type 0 where
  pub tasks : List Task
  pub ready : List ℕ
  pub held : List ℕ
  pub sound : Bool

abbrev struct : List Task → List ℕ → List ℕ → Bool → Struct
struct ts r h b = record { tasks = ts; ready = r; held = h; sound = b }

-- a task of priority p and current priority c with one entry: ready, or held by task g in its entry 1, which had the current priority k before
abbrev free : ℕ → ℕ → Task
free p c = record { priority = p; current = c; entries = 1; place = Ready; timer = Off }

abbrev member : ℕ → ℕ → ℕ → ℕ → Task
member p c g k = record { priority = p; current = c; entries = 1; place = Held (meeting g 1 k); timer = Off }

abbrev struct_of : Struct → Supervisor
struct_of x = pack (record { clock = 0; tasks = x.tasks; ready = x.ready; callers = []; held = x.held; delays = [] })

-- the struct is sound or not, as said, and the question is refused where it is not
abbrev pub told : Struct → Bool
told x = (when x.sound then sound_whole (struct_of x) else not (sound_whole (struct_of x))) && eqb (refusal_in (priority_whole (struct_of x) 1)) (when x.sound then 0 else 2)

unfoldable pub structs : List Struct
structs =
    -- a chain, in either order of those held
    struct (member 4 4 2 4 ∷ member 4 4 3 4 ∷ free 4 4 ∷ []) (3 ∷ []) (1 ∷ 2 ∷ []) true
    ∷ struct (member 4 4 2 4 ∷ member 4 4 3 4 ∷ free 4 4 ∷ []) (3 ∷ []) (2 ∷ 1 ∷ []) true
    -- a ring of one, of two, of three, and of two beside a task that is in none
    ∷ struct (member 4 4 1 4 ∷ []) [] (1 ∷ []) false
    ∷ struct (member 4 4 2 4 ∷ member 4 4 1 4 ∷ []) [] (1 ∷ 2 ∷ []) false
    ∷ struct (member 4 4 2 4 ∷ member 4 4 3 4 ∷ member 4 4 1 4 ∷ []) [] (1 ∷ 2 ∷ 3 ∷ []) false
    ∷ struct (member 4 4 2 4 ∷ member 4 4 1 4 ∷ free 4 4 ∷ []) (3 ∷ []) (1 ∷ 2 ∷ []) false
    -- a task that leads into a ring, and is not in it
    ∷ struct (member 4 4 2 4 ∷ member 4 4 3 4 ∷ member 4 4 2 4 ∷ []) [] (1 ∷ 2 ∷ 3 ∷ []) false
    -- the current priority of a holder is that of its caller; not lower, not higher, not that of another level
    ∷ struct (member 9 9 2 4 ∷ free 4 9 ∷ []) (2 ∷ []) (1 ∷ []) true
    ∷ struct (member 9 9 2 4 ∷ free 4 4 ∷ []) (2 ∷ []) (1 ∷ []) false
    ∷ struct (member 9 9 2 4 ∷ free 4 10 ∷ []) (2 ∷ []) (1 ∷ []) false
    -- that of a task that holds nobody is the one with which it was created
    ∷ struct (free 4 5 ∷ []) (1 ∷ []) [] false
    ∷ struct (member 4 5 2 4 ∷ free 4 5 ∷ []) (2 ∷ []) (1 ∷ []) false
    -- what is kept: the created priority of the holder at the first caller
    ∷ struct (member 9 9 2 5 ∷ free 4 9 ∷ []) (2 ∷ []) (1 ∷ []) false
    -- and at the next the highest so far, in the order of those held
    ∷ struct (member 6 6 3 4 ∷ member 9 9 3 6 ∷ free 4 9 ∷ []) (3 ∷ []) (1 ∷ 2 ∷ []) true
    ∷ struct (member 6 6 3 4 ∷ member 9 9 3 4 ∷ free 4 9 ∷ []) (3 ∷ []) (1 ∷ 2 ∷ []) false
    ∷ struct (member 6 6 3 4 ∷ member 9 9 3 6 ∷ free 4 9 ∷ []) (3 ∷ []) (2 ∷ 1 ∷ []) false
    ∷ struct (member 6 6 3 9 ∷ member 9 9 3 4 ∷ free 4 9 ∷ []) (3 ∷ []) (2 ∷ 1 ∷ []) true
    ∷ []
