use Rattle.std.proofs.Common.{ℕ, ◌≡◌, drop}
use Rattle.lists.specs.Line.{line}
use Rattle.lists.specs.Marks.{no_marks, marked}
use Rattle.lines.proofs.marks_of.Given as goal

abbrev pub one : ℕ → ℕ
one t = 1

-- The invariant: the marks of the rest of the line, put upon those so far, are those of the whole line.
abbrev pub invariant-loop-t : goal.invariant-loop-t
invariant-loop-t l = marked one (line l.fn.a) no_marks ≡ marked one (line (drop l.t-index l.fn.a)) l.r
