use Rattle.std.proofs.Common.{◌≡◌, length, drop}
use Rattle.lists.specs.Line.{line}
use Rattle.lists.specs.Marks.{no_marks, marked}
use Rattle.table.specs.Moved.{left_of}
use Rattle.table.proofs.moves.keys_of.Given as goal

-- The invariant: the ticks left of the rest of the line, put upon those so far, are those of the whole line.
abbrev pub invariant-loop-x : goal.invariant-loop-x
invariant-loop-x l =
    (length l.s.tasks ≡ 31) × (marked (left_of l.s) (line l.fn.a) no_marks ≡ marked (left_of l.s) (line (drop l.x-index l.fn.a)) l.keys)
