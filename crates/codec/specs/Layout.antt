-- A supervisor's 501 bytes: clock 4, created 1, 31 tasks of 12, four lines of 31. Numbers have their high byte first.
use Rattle.std.specs.Prelude.{ℕ, zero, suc, ◌+◌, ◌*◌, Bool, true, ◌&&◌, ◌||◌, List, [], ◌∷◌, ◌++◌, length, take, drop, eqb, ltb, leb}
use Rattle.lists.specs.Lists.{when◌then◌else◌}
use Rattle.calls.specs.Duration.{bytes_of}
use Rattle.calls.specs.Record.{byte, four_from}
use Rattle.rules.specs.State.{entry_of, kept_of, empty}
use Rattle.rules.specs.Whole.{pack}
use Rattle.rules.specs.declared.Task.{Task}
use Rattle.rules.specs.declared.Timer.{Timer}
use Rattle.rules.specs.declared.Timer.TheVariants.{Off, Due}
use Rattle.rules.specs.declared.Place.{Place}
use Rattle.rules.specs.declared.Place.TheVariants.{Blank, Ready, Delayed, Queued, Held, Accepting, Completed}
use Rattle.rules.specs.declared.Supervisor.{Supervisor}

-- ── the sizes ──

-- the bytes of a task, and of all
abbrev pub task_size : ℕ
task_size = 12

abbrev pub tasks_size : ℕ
tasks_size = 31 * task_size

-- where each line stands, behind the clock, the number of tasks and the tasks
abbrev pub ready_at : ℕ
ready_at = 5 + tasks_size

abbrev pub callers_at : ℕ
callers_at = ready_at + 31

abbrev pub held_at : ℕ
held_at = callers_at + 31

abbrev pub delays_at : ℕ
delays_at = held_at + 31

-- the bytes of a state
abbrev pub state_size : ℕ
state_size = delays_at + 31

-- ── the bytes of a state ──

-- a place's tag
abbrev pub place_tag : Place → ℕ
place_tag Blank = 0
place_tag Ready = 1
place_tag Delayed = 2
place_tag (Queued q) = 3
place_tag (Held m) = 4
place_tag (Accepting o) = 5
place_tag Completed = 6

-- the byte behind the tag: the called task, the holder or the open set
abbrev pub place_first : Place → ℕ
place_first Blank = 0
place_first Ready = 0
place_first Delayed = 0
place_first (Queued q) = q.target
place_first (Held m) = m.holder
place_first (Accepting o) = o.opens
place_first Completed = 0

-- a time's tag
abbrev pub timer_tag : Timer → ℕ
timer_tag Off = 0
timer_tag (Due d) = 1

-- the clock reading at which a time is due, 0 if there is none
abbrev pub timer_due : Timer → ℕ
timer_due Off = 0
timer_due (Due d) = d

-- the bytes of a task: priority, current priority, entries, place, time; those of a place are its tag, the byte behind it, the called entry, and the
-- current priority that the holder of a held caller had before
abbrev pub task_bytes : Task → List ℕ
task_bytes x =
    x.priority ∷ x.current ∷ x.entries ∷ place_tag x.place ∷ place_first x.place ∷ entry_of x.place ∷ kept_of x.place ∷ timer_tag x.timer ∷ bytes_of (timer_due x.timer)

-- the tasks one behind the other
abbrev pub tasks_bytes : List Task → List ℕ
tasks_bytes [] = []
tasks_bytes (x ∷ xs) = task_bytes x ++ tasks_bytes xs

-- the bytes of a state: clock, created, tasks, ready, callers, held, delays
unfoldable pub encode : Supervisor → List ℕ
encode s = (bytes_of s.core.clock ++ (s.core.created ∷ [])) ++ tasks_bytes s.core.tasks ++ s.core.ready ++ s.callers ++ s.core.held ++ s.core.delays

-- ── the state of bytes ──

-- bytes that are a place: a tag up to 6, and 0 in each byte that its place does not use
abbrev pub is_place : ℕ → ℕ → ℕ → ℕ → Bool
is_place tag a b k = leb tag 6 && ((leb 3 tag && leb tag 5) || eqb a 0) && ((leb 3 tag && leb tag 4) || eqb b 0) && (eqb tag 4 || eqb k 0)

-- bytes that are a time: off with 0, or due at a reading
abbrev pub is_timer : ℕ → ℕ → Bool
is_timer tag due = (eqb tag 0 && eqb due 0) || eqb tag 1

-- the place of a tag and its three bytes
abbrev pub place_from : ℕ → ℕ → ℕ → ℕ → Place
place_from tag a b k =
    when eqb tag 0 then Blank
    else when eqb tag 1 then Ready
    else when eqb tag 2 then Delayed
    else when eqb tag 3 then Queued (record { target = a; entry = b })
    else when eqb tag 4 then Held (record { holder = a; entry = b; kept = k })
    else when eqb tag 5 then Accepting (record { opens = a })
    else Completed

-- the time of a tag and a reading
abbrev pub timer_from : ℕ → ℕ → Timer
timer_from tag due = when eqb tag 0 then Off else Due due

-- the bytes are those of a task
abbrev pub is_task : List ℕ → Bool
is_task b = is_place (byte b 3) (byte b 4) (byte b 5) (byte b 6) && is_timer (byte b 7) (four_from b 8)

-- the task of the bytes
abbrev pub task_from : List ℕ → Task
task_from b = record {
  priority = byte b 0;
  current = byte b 1;
  entries = byte b 2;
  place = place_from (byte b 3) (byte b 4) (byte b 5) (byte b 6);
  timer = timer_from (byte b 7) (four_from b 8);
}

-- the bytes of n tasks
unfoldable pub are_tasks : ℕ → List ℕ → Bool
are_tasks zero b = true
are_tasks (suc n) b = is_task b && are_tasks n (drop task_size b)

-- the n tasks of the bytes
unfoldable pub tasks_from : ℕ → List ℕ → List Task
tasks_from zero b = []
tasks_from (suc n) b = task_from b ∷ tasks_from n (drop task_size b)

-- bytes that begin with a state: long enough, with no other tag and no unused byte but 0
unfoldable pub is_encoding : List ℕ → Bool
is_encoding b = leb state_size (length b) && are_tasks 31 (drop 5 b)

-- the state with which bytes begin
unfoldable pub decode : List ℕ → Supervisor
decode b = record {
  core = record {
    clock = four_from b 0;
    created = byte b 4;
    tasks = tasks_from 31 (drop 5 b);
    ready = take 31 (drop ready_at b);
    held = take 31 (drop held_at b);
    delays = take 31 (drop delays_at b);
  };
  callers = take 31 (drop callers_at b);
}

-- a state that says it has 255 tasks: it is not sound
abbrev pub overfull : Supervisor → Supervisor
overfull s = record {
  core = record {
    clock = s.core.clock;
    created = 255;
    tasks = s.core.tasks;
    ready = s.core.ready;
    held = s.core.held;
    delays = s.core.delays;
  };
  callers = s.callers;
}

-- the state that stands for bytes that are no encoding
unfoldable pub lost : Supervisor
lost = overfull (pack (empty 0))

-- the state of lent bytes: one that is not sound where they are no encoding
unfoldable pub state_in : List ℕ → Supervisor
state_in b = when is_encoding b then decode b else lost

-- bytes with a piece put into them at an index
abbrev pub put_at : List ℕ → ℕ → List ℕ → List ℕ
put_at b at piece = take at b ++ (piece ++ drop (at + length piece) b)

-- the same, where they have room for it there
unfoldable pub placed_at : List ℕ → ℕ → List ℕ → List ℕ
placed_at b at piece = when leb (at + length piece) (length b) then put_at b at piece else b

-- the four lines behind the tasks
abbrev pub placed_lines : List ℕ → List ℕ → List ℕ → List ℕ → List ℕ → List ℕ
placed_lines b ready callers held delays = placed_at (placed_at (placed_at (placed_at b ready_at ready) callers_at callers) held_at held) delays_at delays

-- lent bytes with a state put into them; bytes behind it stay, and so do all where there are too few
unfoldable pub stored : Supervisor → List ℕ → List ℕ
stored s b = when ltb (length b) state_size then b else encode s ++ drop state_size b
