-- Laws of one list laid over another: place by place, and in full.
-- Assumes nothing.
use Prim.Native.Nat.{suc, ◌≤◌}
use native.Mathlib.Nat.{suc_inj}
use native.Mathlib.Omega.{arith}
use mathlib.Core.Path.{◌≡◌, refl, ap}
use mathlib.Core.List.{List, [], ◌∷◌, ◌++◌}
use lib.ListN.{length, drop}
use Rattle.lists.specs.Over.{over}

pub over_nil : {A : Type 0} (xs : List A) → over xs [] ≡ xs
over_nil [] = refl
over_nil (x ∷ xs) = refl

pub over_length : {A : Type 0} (xs ys : List A) → length (over xs ys) ≡ length xs
over_length [] ys = refl
over_length (x ∷ xs) [] = refl
over_length (x ∷ xs) (y ∷ ys) = ap suc (over_length xs ys)

-- one list laid over another of the same length is that list
pub over_same : {A : Type 0} (xs ys : List A) → length xs ≡ length ys → over xs ys ≡ ys
over_same [] [] e = refl
over_same [] (y ∷ ys) e = absurd (omega arith)
over_same (x ∷ xs) [] e = absurd (omega arith)
over_same (x ∷ xs) (y ∷ ys) e = ap (λ (l : List _). y ∷ l) (over_same xs ys (suc_inj e))

-- a list that has room is laid over in full, and what is behind it stays
pub over_whole : {A : Type 0} (xs ys : List A) → length ys ≤ length xs → over xs ys ≡ ys ++ drop (length ys) xs
over_whole [] [] h = refl
over_whole [] (y ∷ ys) h = absurd (omega arith)
over_whole (x ∷ xs) [] h = refl
over_whole (x ∷ xs) (y ∷ ys) h = ap (λ (l : List _). y ∷ l) (over_whole xs ys (omega arith))
