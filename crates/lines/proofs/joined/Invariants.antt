use mathlib.Core.List.{[], ◌∷◌, ◌++◌}
use Rattle.lists.specs.Line.{line}
use Rattle.lists.proofs.Turns.{Filling}
use Rattle.lines.proofs.joined.Given as goal

-- The rest of the line comes behind the entries so far, and then t.
abbrev pub invariant-loop-i : goal.invariant-loop-i
invariant-loop-i at = Filling (line at.fn.a ++ (at.t ∷ [])) (λ l. l ++ (at.t ∷ [])) at.fn.a at.r at.i at.i
