use Rattle.std.proofs.Common.{◌≡◌, ◌-◌, ◌*◌, ◌≤◌, drop}
use Rattle.lists.specs.Marks.{marked}
use Rattle.steps.specs.Change.{one, bytes_in}
use Rattle.steps.proofs.change.marks_in.Given as goal

-- The invariant: the marks of the rest of the items, put upon those so far, are those of all.
abbrev pub invariant-loop-i : goal.invariant-loop-i
invariant-loop-i l =
    (l.i ≤ l.n) × (marked one (bytes_in l.field l.n l.room) l.initial.marks ≡ marked one (bytes_in l.field (l.n - l.i) (drop (l.i * 4) l.room)) l.marks)
