use Rattle.std.proofs.Common.{◌≡◌, length}
use Rattle.lists.specs.Lists.{down_from}
use Rattle.lists.specs.Marks.{marked}
use Rattle.rules.specs.State.{priority_of}
use Rattle.rules.specs.Whole.{view_core}
use Rattle.table.specs.Tree.{priorities_of}
use Rattle.table.proofs.tree.priorities_of.Given as goal

-- The invariant: the marks of the tasks t, t - 1, .., 1, put upon those so far, are those of all.
abbrev pub invariant-loop-t : goal.invariant-loop-t
invariant-loop-t l = (length l.s.tasks ≡ 31) × (priorities_of l.s ≡ marked (priority_of (view_core l.s)) (down_from l.t) l.known)
