-- When a state is sound (document 01, "State, and when it is sound").
-- Assumes nothing.
use Rattle.std.specs.Prelude.{ℕ, ◌^◌, Bool, true, false, not, ◌&&◌, ◌||◌, ◌++◌, eqb, ltb, leb}
use Rattle.lists.specs.Lists.{bit, count, every, in_order_by, down_from}
use Rattle.rules.specs.State.{State, task_of, place_of, timer_of, created, is_task, has_entry, is_ready, is_queued, is_held, is_completed, partner_of, accepts, has_time, ticks_left}
use Rattle.rules.specs.Tree.{agrees, reaches_top}
use Rattle.rules.specs.declared.Task.{Task}
use Rattle.rules.specs.declared.Timer.{Timer}
use Rattle.rules.specs.declared.Timer.TheVariants.{Off, Due}
use Rattle.rules.specs.declared.Place.{Place}
use Rattle.rules.specs.declared.Place.TheVariants.{Blank, Ready, Delayed, Queued, Held, Accepting, Completed}

-- a priority is 1 to 15
abbrev pub is_priority : ℕ → Bool
is_priority p = ltb 0 p && leb p 15

-- priority and entry count in range
abbrev pub in_range : ℕ → ℕ → Bool
in_range p n = is_priority p && leb n 8

-- e is an entry of the called task g, which is there and has not completed
abbrev pub calls : Task → ℕ → Bool
calls g e = has_entry g e && not (is_completed g.place)

-- a task's place, with its time, where g is the task that it has called
abbrev pub fits : Task → Task → Place → Timer → Bool
fits me g Blank w = false
fits me g Ready w = not (has_time w)
fits me g Delayed w = has_time w
fits me g (Queued q) w = calls g q.entry && not (accepts g.place q.entry)
fits me g (Held m) w = calls g m.entry && not (has_time w) && is_priority m.kept
fits me g (Accepting o) w = ltb o.opens (2 ^ me.entries) && (ltb 0 o.opens || has_time w)
fits me g Completed w = not (has_time w)

-- a time is 1 to 2147483647 ticks from now
abbrev pub time_in_range : ℕ → Timer → Bool
time_in_range now Off = true
time_in_range now (Due d) = ltb 0 (ticks_left now (Due d)) && leb (ticks_left now (Due d)) 2147483647 && ltb d 4294967296

-- a task in range, its current priority too, that stands where it may with its time; g is the task that it has called
abbrev pub good_task : ℕ → Task → Task → Bool
good_task now me g = in_range me.priority me.entries && fits me g me.place me.timer && time_in_range now me.timer && is_priority me.current

-- task t is good, and stands once in the line of its place, once in the delay queue if it has a time, and nowhere else
abbrev pub stands_right : State → ℕ → Bool
stands_right s t =
    good_task s.clock (task_of s t) (task_of s (partner_of (place_of s t)))
    && eqb (count t s.ready) (bit (is_ready (place_of s t)))
    && eqb (count t s.callers) (bit (is_queued (place_of s t)))
    && eqb (count t s.held) (bit (is_held (place_of s t)))
    && eqb (count t s.delays) (bit (has_time (timer_of s t)))

-- the stored priorities of t agree with the tree of held callers, and t is in no ring of holders
abbrev pub tree_right : State → ℕ → Bool
tree_right s t = agrees s t && reaches_top s 30 t

-- at most 31 tasks, each standing right, no other number in any line, and the delay queue in order of ticks left
unfoldable pub standing : State → Bool
standing s =
    leb (created s) 31
    && every (stands_right s) (down_from (created s))
    && every (is_task s) (s.ready ++ s.callers ++ s.held ++ s.delays)
    && in_order_by (λ a b. leb (ticks_left s.clock (timer_of s a)) (ticks_left s.clock (timer_of s b))) s.delays

-- a state is sound: all stand right, and each task is right in the tree of held callers
unfoldable pub sound : State → Bool
sound s = standing s && every (tree_right s) (down_from (created s))
