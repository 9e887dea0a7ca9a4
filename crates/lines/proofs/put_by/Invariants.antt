use mathlib.Core.Bool.{◌||◌}
use lib.Dec.{ltb}
use Rattle.lists.specs.Line.{line}
use Rattle.lists.specs.Lists.{insert}
use Rattle.lists.specs.Marks.{mark_of, insert_by}
use Rattle.lists.proofs.Turns.{Filling}
use Rattle.lines.proofs.put_by.Given as goal

-- `carry` is to go in before the first larger key of the rest, or at once where one has been passed.
abbrev pub invariant-loop-i : goal.invariant-loop-i
invariant-loop-i l =
    Filling (insert_by l.keys l.k l.t (line l.fn.a)) (insert (λ x. l.passed || ltb l.k (mark_of l.keys x)) l.carry) l.fn.a l.r l.i l.i
