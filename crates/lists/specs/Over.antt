-- One list laid over another. No contract of the supervisor cites it.
-- Assumes nothing.
use Rattle.std.specs.Prelude.{List, [], ◌∷◌}

-- the second list laid over the first, from its start; what is behind it stays, and what has no place is left out
abbrev pub over : {A : Type 0} → List A → List A → List A
over [] ys = []
over (x ∷ xs) [] = x ∷ xs
over (x ∷ xs) (y ∷ ys) = y ∷ over xs ys
