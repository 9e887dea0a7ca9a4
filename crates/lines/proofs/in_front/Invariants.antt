use mathlib.Core.List.{◌∷◌}
use Rattle.lists.specs.Line.{line}
use Rattle.lists.proofs.Turns.{Filling}
use Rattle.lines.proofs.in_front.Given as goal

-- `carry` comes next, and then the rest of the line.
abbrev pub invariant-loop-i : goal.invariant-loop-i
invariant-loop-i at = Filling (at.t ∷ line at.fn.a) (λ l. at.carry ∷ l) at.fn.a at.r at.i at.i
