use Rattle.std.proofs.Common.{◌≡◌, ◌≤◌, length, drop}
use Rattle.lists.specs.Line.{line}
use Rattle.lists.specs.Marks.{no_marks, marked}
use Rattle.rules.specs.Whole.{view_core}
use Rattle.steps.specs.Lowest.{call_of}
use Rattle.steps.proofs.callers.entries_called.Given as goal

-- The invariant: the marks of the rest of the line, put upon those so far, are those of the whole line.
abbrev pub invariant-loop-c : goal.invariant-loop-c
invariant-loop-c l =
    (l.c-index ≤ 31) × (length l.s.tasks ≡ 31) × (marked (call_of (view_core l.s) l.t 255) (line l.c-items) no_marks ≡ marked (call_of (view_core l.s) l.t 255) (line (drop l.c-index l.c-items)) l.marks)
