-- Marks: a number beside each task number 0..31, in an array of 32. 0 is no mark; numbers above 31 have none.
-- Assumes nothing.
use Rattle.std.specs.Prelude.{ℕ, List, [], ◌∷◌, eqb, ltb, replicate, get_or, set}
use Rattle.lists.specs.Lists.{filter, insert}

-- no marks
abbrev pub no_marks : List ℕ
no_marks = replicate 32 0

-- the mark of t
abbrev pub mark_of : List ℕ → ℕ → ℕ
mark_of m t = get_or m t 0

-- each of the list is marked, with what f gives it; the others as before
abbrev pub marked : (ℕ → ℕ) → List ℕ → List ℕ → List ℕ
marked f [] m = m
marked f (t ∷ ts) m = marked f ts (set m t (f t))

-- those of the list with the mark k, in their order
abbrev pub with_mark : List ℕ → ℕ → List ℕ → List ℕ
with_mark m k l = filter (λ t. eqb (mark_of m t) k) l

-- the list with t, whose key is k, in its order, where marks are keys: before the first that has a larger one, so behind those that have an equal one
abbrev pub insert_by : List ℕ → ℕ → ℕ → List ℕ → List ℕ
insert_by m k t l = insert (λ x. ltb k (mark_of m x)) t l
