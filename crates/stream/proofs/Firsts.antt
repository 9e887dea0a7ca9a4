-- The first place of a byte, as the library finds it. Assumes nothing.
use Rattle.std.proofs.Common.{◌≡◌, ℕ, ◌≤◌, List, Some, None, length, eqb, ltb, cond, refl, sym, ap, ◌∙◌, arith}
use Rattle.std.specs.List.{position}
use Rattle.std.specs.Option.{unwrap_or}
use Rattle.std.proofs.lemmas.List.Recursion.{is_position_or_len}
use Rattle.std.proofs.lemmas.List.Sums.{prefix_len-le-length}
use Rattle.stream.specs.Lines.{index_of}

found : (n m : ℕ) → n ≤ m → unwrap_or (cond (ltb n m) (Some n) None) m ≡ n
found n m h = grind arith

pub index_of_position : (c : ℕ) (xs : List ℕ) → unwrap_or (position (λ x. eqb x c) xs) (length xs) ≡ index_of c xs
index_of_position c xs =
    found _ _ (prefix_len-le-length _ xs) ∙ sym (is_position_or_len (index_of c) (λ x. eqb x c) refl (λ x xs. ap (cond (eqb x c) 0) (omega arith)) xs)
