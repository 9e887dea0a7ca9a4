-- What the small functions of the code answer, where the rules have no word for it.
-- Assumes nothing.
use Rattle.std.specs.Prelude.{ℕ, Bool, ◌&&◌, List, [], ◌∷◌, ◌++◌, ◌==◌, nat_lt}
use Rattle.lists.specs.Line.{line, pad}
use Rattle.lists.specs.Lists.{when◌then◌else◌, rejoin, to_head}
use Rattle.lists.specs.Marks.{no_marks, marked, with_mark}
use Rattle.rules.specs.State.{State, set_nth, task_of, timer_of, is_ready, is_queued, is_held, ticks_left, retime, placed, partner_of, entry_of, meeting, place_of, current_of, ranked, kept_of, higher}
use Rattle.rules.specs.declared.Place.TheVariants.{Ready, Held}
use Rattle.rules.specs.declared.Timer.TheVariants.{Off}
use Rattle.rules.specs.Advance.{comes_in}
use Rattle.rules.specs.Whole.{view_core}
use Rattle.rules.specs.declared.Task.{Task}
use Rattle.rules.specs.declared.Timer.{Timer}
use Rattle.rules.specs.declared.Place.{Place}
use Rattle.rules.specs.declared.Core.{Core}
use Rattle.table.specs.Numbers.{is_number, shown_of}
use Rattle.table.specs.declared.queues.Test.{Test}
use Rattle.table.specs.declared.queues.Test.TheVariants.{QueuedOn, HeldBy, DueWithin}

-- the struct with other tasks
abbrev pub with_tasks : Core → List Task → Core
with_tasks s tasks = record {
  clock = s.clock;
  created = s.created;
  tasks = tasks;
  ready = s.ready;
  held = s.held;
  delays = s.delays;
}

-- the struct with task t as x
abbrev pub with_task : Core → ℕ → Task → Core
with_task s t x = with_tasks s (set_nth s.tasks t x)

-- task t goes to place p with the time w, in the struct: the lines of `move`, laid out; the table as it is but for t
unfoldable pub moved_of : Core → ℕ → Place → Timer → Core
moved_of s t p w = record {
  clock = s.clock;
  created = s.created;
  tasks = set_nth s.tasks t (placed (task_of (view_core s) t) p w);
  ready = pad (rejoin (is_ready p) t (line s.ready));
  held = pad (rejoin (is_held p) t (line s.held));
  delays = pad (retime s.clock (view_core s).tasks w t (line s.delays));
}

-- what stands at the place of task t of n when f changes it, where k stood there; k where t is no task's number
abbrev pub changed_task : (Task → Task) → ℕ → ℕ → Task → Task
changed_task f n t k = when is_number t then f (shown_of n t k) else k

-- those of the list are ready, with no time, in the table; the lines stay
abbrev pub readied_of : Core → List ℕ → Core
readied_of s [] = s
readied_of s (t ∷ ts) = readied_of (with_task s t (placed (task_of (view_core s) t) Ready Off)) ts

-- all of the list become ready at once, in the struct: each line keeps those without a mark, and all stand at the end of `ready`
unfoldable pub woken_of : Core → List ℕ → Core
woken_of s l = record {
  clock = (readied_of s l).clock;
  created = (readied_of s l).created;
  tasks = (readied_of s l).tasks;
  ready = pad (with_mark (marked (λ _. 1) l no_marks) 0 (line s.ready) ++ l);
  held = pad (with_mark (marked (λ _. 1) l no_marks) 0 (line s.held));
  delays = pad (with_mark (marked (λ _. 1) l no_marks) 0 (line s.delays));
}

-- the ready line when task t is lowered, or not
abbrev pub ready_ranked : List ℕ → ℕ → Bool → List ℕ
ready_ranked ready t lowered = when lowered then pad (to_head t (line ready)) else ready

-- task t's current priority becomes n, in the struct
unfoldable pub ranked_of : Core → ℕ → ℕ → Core
ranked_of s t n = record {
  clock = s.clock;
  created = s.created;
  tasks = set_nth s.tasks t (ranked (task_of (view_core s) t) n);
  ready = ready_ranked s.ready t (nat_lt n (current_of (view_core s) t));
  held = s.held;
  delays = s.delays;
}

-- a rendezvous of g with its caller c at entry e begins, and ends, in the struct
abbrev pub met_of : Core → ℕ → ℕ → ℕ → Core
met_of s g c e =
    moved_of (ranked_of s g (higher (current_of (view_core s) g) (current_of (view_core s) c))) c (Held (meeting g e (current_of (view_core s) g))) Off

abbrev pub parted_of : Core → ℕ → ℕ → Core
parted_of s g c = moved_of (ranked_of s g (kept_of (place_of (view_core s) c))) c Ready Off

-- the ticks that task x has left
abbrev pub left_of : Core → ℕ → ℕ
left_of s x = ticks_left s.clock (timer_of (view_core s) x)

-- the tests by which queues are picked out of lines
abbrev pub is_picked : Task → Test → Bool
is_picked x (QueuedOn t e) = is_queued x.place && partner_of x.place == t && entry_of x.place == e
is_picked x (HeldBy t) = is_held x.place && partner_of x.place == t
is_picked x (DueWithin now n) = comes_in now n x.timer

abbrev pub passes_of : State → Test → ℕ → Bool
passes_of s q c = is_picked (task_of s c) q
