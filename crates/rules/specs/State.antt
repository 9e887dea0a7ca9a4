-- The state as the rules speak of it: the created tasks, and four lines of task numbers with no unused places.
-- Letters, here and in Step.antt: s a state; t a task, c a caller, g the task that is called; e an entry; p a priority or a
-- place; w a time; d a number of ticks; o an open set; n a number or a clock reading.
-- Assumes nothing.
use Rattle.std.specs.Prelude.{ℕ, zero, suc, ◌+◌, ◌-◌, ◌/◌, ◌%◌, ◌^◌, Bool, true, false, ◌&&◌, List, [], ◌∷◌, ◌++◌, length, get_or, set, eqb, ltb, leb}
use Rattle.lists.specs.Lists.{when◌then◌else◌, filter, remove, rejoin, to_head, insert}
use Rattle.rules.specs.declared.Task.{Task}
use Rattle.rules.specs.declared.Timer.{Timer}
use Rattle.rules.specs.declared.Timer.TheVariants.{Off, Due}
use Rattle.rules.specs.declared.Waiting.{Waiting}
use Rattle.rules.specs.declared.Meeting.{Meeting}
use Rattle.rules.specs.declared.Offer.{Offer}
use Rattle.rules.specs.declared.Place.{Place}
use Rattle.rules.specs.declared.Place.TheVariants.{Blank, Ready, Delayed, Queued, Held, Accepting, Completed}

-- a state: the clock, the tasks, and four lines; every queue of the manual is the part of a line that passes a test
pub record State : Type 0 where
  pub clock : ℕ
  -- the created tasks; task t is the t-th of them
  pub tasks : List Task
  -- the ready tasks of all levels, in the order in which they became ready
  pub ready : List ℕ
  -- the callers in all entry queues, in the order of their calls
  pub callers : List ℕ
  -- the callers in a rendezvous, in the order in which it began
  pub held : List ℕ
  -- the delay queue: those who wait with a time, in order of ticks left
  pub delays : List ℕ

-- ── a task ──

-- an unused place for a task
abbrev pub blank : Task
blank = record { priority = 0; current = 0; entries = 0; place = Blank; timer = Off }

-- task t; a blank one for 0 and for a number that was never given
abbrev pub nth : List Task → ℕ → Task
nth l zero = blank
nth l (suc k) = get_or l k blank

-- the tasks with x as task t; all as they were for 0 and for a number that was never given
abbrev pub set_nth : List Task → ℕ → Task → List Task
set_nth l zero x = l
set_nth l (suc k) x = set l k x

-- task t of a state
abbrev pub task_of : State → ℕ → Task
task_of s t = nth s.tasks t

-- where task t is
abbrev pub place_of : State → ℕ → Place
place_of s t = (task_of s t).place

-- the time with which task t waits, if any
abbrev pub timer_of : State → ℕ → Timer
timer_of s t = (task_of s t).timer

-- the priority with which task t was created
abbrev pub priority_of : State → ℕ → ℕ
priority_of s t = (task_of s t).priority

-- the current priority of task t: its level where it is ready
abbrev pub current_of : State → ℕ → ℕ
current_of s t = (task_of s t).current

-- how many tasks have been created: they are 1..created
abbrev pub created : State → ℕ
created s = length s.tasks

-- t is the number of a created task
abbrev pub is_task : State → ℕ → Bool
is_task s t = ltb 0 t && leb t (created s)

-- e is an entry that a task has: they are 1..entries
abbrev pub has_entry : Task → ℕ → Bool
has_entry x e = ltb 0 e && leb e x.entries

-- ── places ──

-- ready, in the queue of its current priority
abbrev pub is_ready : Place → Bool
is_ready Blank = false
is_ready Ready = true
is_ready Delayed = false
is_ready (Queued q) = false
is_ready (Held m) = false
is_ready (Accepting o) = false
is_ready Completed = false

-- queued on an entry
abbrev pub is_queued : Place → Bool
is_queued Blank = false
is_queued Ready = false
is_queued Delayed = false
is_queued (Queued q) = true
is_queued (Held m) = false
is_queued (Accepting o) = false
is_queued Completed = false

-- held in a rendezvous
abbrev pub is_held : Place → Bool
is_held Blank = false
is_held Ready = false
is_held Delayed = false
is_held (Queued q) = false
is_held (Held m) = true
is_held (Accepting o) = false
is_held Completed = false

-- completed
abbrev pub is_completed : Place → Bool
is_completed Blank = false
is_completed Ready = false
is_completed Delayed = false
is_completed (Queued q) = false
is_completed (Held m) = false
is_completed (Accepting o) = false
is_completed Completed = true

-- the task that a queued or held caller has called; 0 of all others
abbrev pub partner_of : Place → ℕ
partner_of Blank = 0
partner_of Ready = 0
partner_of Delayed = 0
partner_of (Queued q) = q.target
partner_of (Held m) = m.holder
partner_of (Accepting o) = 0
partner_of Completed = 0

-- the entry that a queued or held caller has called; 0 of all others
abbrev pub entry_of : Place → ℕ
entry_of Blank = 0
entry_of Ready = 0
entry_of Delayed = 0
entry_of (Queued q) = q.entry
entry_of (Held m) = m.entry
entry_of (Accepting o) = 0
entry_of Completed = 0

-- the current priority that the holder of a held caller had before; 0 of all others
abbrev pub kept_of : Place → ℕ
kept_of Blank = 0
kept_of Ready = 0
kept_of Delayed = 0
kept_of (Queued q) = 0
kept_of (Held m) = m.kept
kept_of (Accepting o) = 0
kept_of Completed = 0

-- entry e is in the open set: bit e - 1; there is no entry 0
abbrev pub opens : ℕ → ℕ → Bool
opens o zero = false
opens o (suc e) = eqb (o / 2 ^ e % 2) 1

-- a task in this place waits to accept entry e
abbrev pub accepts : Place → ℕ → Bool
accepts Blank e = false
accepts Ready e = false
accepts Delayed e = false
accepts (Queued q) e = false
accepts (Held m) e = false
accepts (Accepting o) e = opens o.opens e
accepts Completed e = false

-- there is a time
abbrev pub has_time : Timer → Bool
has_time Off = false
has_time (Due d) = true

-- ── queues ──

-- caller c waits on entry e of task t
abbrev pub waits_on : State → ℕ → ℕ → ℕ → Bool
waits_on s t e c = is_queued (place_of s c) && eqb (partner_of (place_of s c)) t && eqb (entry_of (place_of s c)) e

-- task g holds caller c
abbrev pub holds : State → ℕ → ℕ → Bool
holds s g c = is_held (place_of s c) && eqb (partner_of (place_of s c)) g

-- task t is of the current priority p
abbrev pub at_level : State → ℕ → ℕ → Bool
at_level s p t = eqb (current_of s t) p

-- the queue of entry e of task t
abbrev pub queue : State → ℕ → ℕ → List ℕ
queue s t e = filter (waits_on s t e) s.callers

-- the callers that task t holds, the longest held first
abbrev pub held_by : State → ℕ → List ℕ
held_by s t = filter (holds s t) s.held

-- the ready queue of priority p
abbrev pub level : State → ℕ → List ℕ
level s p = filter (at_level s p) s.ready

-- the head of the highest ready queue up to p that is not empty
abbrev pub head_up_to : State → ℕ → ℕ
head_up_to s zero = 0
head_up_to s (suc p) = elim (level s (suc p)) [ [] ↦ head_up_to s p | t ∷ ts ↦ t ]

-- the running task: the head of the highest ready queue that is not empty, 0 if none is ready
unfoldable pub running : State → ℕ
running s = head_up_to s 15

-- ── the clock ──

-- the clock counts 0..4294967295 and then 0 again
abbrev pub round : ℕ → ℕ
round n = n % 4294967296

-- the reading d ticks from now
abbrev pub after : ℕ → ℕ → ℕ
after now d = round (now + d)

-- the ticks from now to a reading, counted round the clock
abbrev pub left : ℕ → ℕ → ℕ
left now due = round (due + 4294967296 - now)

-- the ticks left of a time; 0 of none
abbrev pub ticks_left : ℕ → Timer → ℕ
ticks_left now Off = 0
ticks_left now (Due d) = left now d

-- ── the one way in which a task changes its place ──

-- the delay queue without t, and with t behind all those that have no more ticks left than it, if it has a time now
abbrev pub retime : ℕ → List Task → Timer → ℕ → List ℕ → List ℕ
retime now tasks Off t l = remove t l
retime now tasks (Due d) t l = insert (λ x. ltb (left now d) (ticks_left now (nth tasks x).timer)) t (remove t l)

-- a task in another place, with another time
abbrev pub placed : Task → Place → Timer → Task
placed x p w = record { priority = x.priority; current = x.current; entries = x.entries; place = p; timer = w }

-- a new task: ready, with priority p and n entries
abbrev pub fresh : ℕ → ℕ → Task
fresh p n = record { priority = p; current = p; entries = n; place = Ready; timer = Off }

-- task t goes to place p with the time w: it leaves the lines in which it stands, and joins the end of the line of its new place
abbrev pub move : State → ℕ → Place → Timer → State
move s t p w = record {
  clock = s.clock;
  tasks = set_nth s.tasks t (placed (task_of s t) p w);
  ready = rejoin (is_ready p) t s.ready;
  callers = rejoin (is_queued p) t s.callers;
  held = rejoin (is_held p) t s.held;
  delays = retime s.clock s.tasks w t s.delays;
}

-- t becomes ready: it joins the tail of its level, its time is dropped
abbrev pub wake : State → ℕ → State
wake s t = move s t Ready Off

-- all those of a list become ready, one after the other
abbrev pub wake_all : State → List ℕ → State
wake_all s [] = s
wake_all s (t ∷ ts) = wake_all (wake s t) ts

-- what a caller of entry e of task g waits for
abbrev pub waiting : ℕ → ℕ → Waiting
waiting g e = record { target = g; entry = e }

-- what a task with the open set o waits for
abbrev pub offer : ℕ → Offer
offer o = record { opens = o }

-- ── the one way in which a task changes its current priority ──

-- a task with another current priority
abbrev pub ranked : Task → ℕ → Task
ranked x n = record { priority = x.priority; current = n; entries = x.entries; place = x.place; timer = x.timer }

-- task t's current priority becomes n: one that is lowered goes to the head of its new level, any other keeps its place
abbrev pub rank : State → ℕ → ℕ → State
rank s t n = record {
  clock = s.clock;
  tasks = set_nth s.tasks t (ranked (task_of s t) n);
  ready = when ltb n (current_of s t) then to_head t s.ready else s.ready;
  callers = s.callers;
  held = s.held;
  delays = s.delays;
}

-- ── a rendezvous ──

-- the higher of two priorities
abbrev pub higher : ℕ → ℕ → ℕ
higher a b = when ltb a b then b else a

-- the rendezvous of a caller of entry e with g, whose current priority was k
abbrev pub meeting : ℕ → ℕ → ℕ → Meeting
meeting g e k = record { holder = g; entry = e; kept = k }

-- the rendezvous of g with its caller c at entry e begins: g's current priority becomes the higher of its own and c's; c is held by g,
-- with what g's was before, and its time is dropped
abbrev pub meet : State → ℕ → ℕ → ℕ → State
meet s g c e = move (rank s g (higher (current_of s g) (current_of s c))) c (Held (meeting g e (current_of s g))) Off

-- the rendezvous of g with its caller c ends: g's current priority is put back to what it was before, and c becomes ready
abbrev pub part : State → ℕ → ℕ → State
part s g c = wake (rank s g (kept_of (place_of s c))) c

-- a new ready task
abbrev pub add : State → ℕ → ℕ → State
add s p n = record {
  clock = s.clock;
  tasks = s.tasks ++ (fresh p n ∷ []);
  ready = s.ready ++ (suc (created s) ∷ []);
  callers = s.callers;
  held = s.held;
  delays = s.delays;
}

-- the same with another clock reading
abbrev pub set_clock : State → ℕ → State
set_clock s n = record { clock = n; tasks = s.tasks; ready = s.ready; callers = s.callers; held = s.held; delays = s.delays }

-- no tasks, the clock at n
abbrev pub empty : ℕ → State
empty n = record { clock = n; tasks = []; ready = []; callers = []; held = []; delays = [] }
