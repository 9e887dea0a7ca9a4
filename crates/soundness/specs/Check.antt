-- What the parts of the soundness check answer.
-- Assumes nothing.
use Rattle.std.specs.Prelude.{ℕ, zero, suc, Bool, true, false, not, ◌&&◌, List, [], ◌∷◌, drop, ◌==◌, nat_le, Option}
use Rattle.std.specs.Bool.{then_some}
use Rattle.lists.specs.Line.{blanks, line}
use Rattle.lists.specs.Lists.{every, down_from}
use Rattle.rules.specs.Sound.{good_task}
use Rattle.rules.specs.State.{State, task_of, place_of, partner_of, is_ready, is_queued, is_held, has_time}
use Rattle.rules.specs.Whole.{view_core, unused}
use Rattle.table.specs.Moved.{left_of}
use Rattle.rules.specs.declared.Core.{Core}
use Rattle.rules.specs.declared.Task.{Task}
use Rattle.soundness.specs.declared.Told.{Told}
use Rattle.soundness.specs.Marks.{Marks, no_marks, has_mark, next_mark, without_mark, is_none}
use Rattle.soundness.specs.TreeCheck.{tree_found}

-- task t is good, beside the task that it has called
abbrev pub good_in : State → ℕ → Bool
good_in v t = good_task v.clock (task_of v t) (task_of v (partner_of (place_of v t)))

-- the four lines
pub data Line : Type 0 where
  Ready : Line
  Callers : Line
  Held : Line
  Delays : Line

-- a task that stands in the line: by its place, or by its time
abbrev pub belongs : Line → Task → Bool
belongs Ready x = is_ready x.place
belongs Callers x = is_queued x.place
belongs Held x = is_held x.place
belongs Delays x = has_time x.timer

-- ── the pass over the table ──

-- the word goes on with the tasks of the list: those that pass the test are to be met
abbrev pub marked : (ℕ → Bool) → Marks → List ℕ → Marks
marked f m [] = m
marked f m (t ∷ ts) = marked f (next_mark m (f t)) ts

-- the created tasks that belong into the line: task 1 is bit 0
abbrev pub marked_in : Core → Line → Marks
marked_in s l = marked (λ t. belongs l (task_of (view_core s) t)) no_marks (down_from s.created)

-- a task whose current priority is another than the one with which it was created
abbrev pub is_changed : Task → Bool
is_changed x = not (x.current == x.priority)

abbrev pub changed_in : Core → Marks
changed_in s = marked (λ t. is_changed (task_of (view_core s) t)) no_marks (down_from s.created)

-- who of the created tasks belongs where
abbrev pub words_of : Core → Told
words_of s = record {
  ready = marked_in s Ready;
  callers = marked_in s Callers;
  held = marked_in s Held;
  delays = marked_in s Delays;
  changed = changed_in s;
}

-- what the pass over the table tells, if each is good
abbrev pub told_of : Core → Option Told
told_of s = then_some (every (good_in (view_core s)) (down_from s.created)) (words_of s)

-- ── the walk over a line ──

-- a walk over an array: each number is still to be met as the walk comes to it; behind the numbers none is still to be met, and there
-- are blanks alone
abbrev pub walked : Marks → List ℕ → Bool
walked m [] = is_none m
walked m (zero ∷ xs) = is_none m && blanks xs
walked m (suc n ∷ xs) = has_mark m (suc n) && walked (without_mark m (suc n)) xs

-- the array holds those of the word, where task 1 is bit 0, each once, and nothing else
abbrev pub holds_in : Marks → List ℕ → Bool
holds_in m a = walked (next_mark m false) a

-- a is at most the first key, and each key at most the next
abbrev pub ascending : (ℕ → ℕ) → ℕ → List ℕ → Bool
ascending k a [] = true
ascending k a (x ∷ xs) = nat_le a (k x) && ascending k (k x) xs

-- the delay queue holds those of the word, in the order of their times
abbrev pub delays_hold : Core → Marks → Bool
delays_hold s m = holds_in m s.delays && ascending (left_of s) 0 (line s.delays)

-- ── the core ──

-- all stand right but for the callers, where at most 31 tasks are created
abbrev pub stands_in : Core → Bool
stands_in s =
    ((every (good_in (view_core s)) (down_from s.created) && every unused (drop s.created s.tasks)) && (holds_in (words_of s).ready s.ready && holds_in (words_of s).held s.held)) && delays_hold s (words_of s).delays

-- a core that is sound but for the callers
abbrev pub core_sound : Core → Bool
core_sound s = nat_le s.created 31 && (stands_in s && tree_found s (words_of s).held (words_of s).changed)

-- what the check of a core tells, if it is sound but for the callers: who belongs into their queues
abbrev pub checked_of : Core → Option Marks
checked_of s = then_some (core_sound s) (words_of s).callers
