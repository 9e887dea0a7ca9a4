-- Numbers of a list that are put together bit by bit are 0 where each is.
-- Assumes nothing.
use Rattle.std.proofs.Common.{◌≡◌, ℕ, zero, suc, Bool, ◌&&◌, eqb, List, [], ◌∷◌, fold, sym, ap, ◌∙◌, arith, ne_eqb}
use mathlib.Core.Bool.{and-true, and_assoc}
use lib.Bits.{bit_or, or_zero_l, or_add_and, and_le_r}
use Rattle.lists.specs.Line.{blanks}

-- two numbers together are 0 where both are
pub or_none : (a b : ℕ) → eqb (bit_or a b) 0 ≡ (eqb a 0 && eqb b 0)
or_none zero b = ap (λ (x : ℕ). eqb x 0) (or_zero_l b)
or_none (suc a) b =
    rw (ne_eqb (suc a) 0 (λ z. omega arith))
    (ne_eqb (bit_or (suc a) b) 0 (λ z. omega (arith, z, or_add_and (suc a) b, and_le_r (suc a) b)))

-- all numbers of a list together are 0 where it is blank
pub none_in : (l : List ℕ) → eqb (fold bit_or 0 l) 0 ≡ blanks l
none_in l = go 0 l
  where
    go : (seen : ℕ) (l : List ℕ) → eqb (fold bit_or seen l) 0 ≡ (eqb seen 0 && blanks l)
    go seen [] = sym (and-true (eqb seen 0))
    go seen (x ∷ xs) = go (bit_or seen x) xs ∙ ap (λ (b : Bool). b && blanks xs) (or_none seen x) ∙ and_assoc (eqb seen 0) (eqb x 0) (blanks xs)
