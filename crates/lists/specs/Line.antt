-- A line: task numbers in order, and blanks (0) behind them, in an array of 31.
-- `line` reads the numbers off an array; `pad` lays numbers out in an array again. What stands between is the plain list.
-- Assumes nothing.
use Rattle.std.specs.Prelude.{ℕ, zero, suc, Bool, true, ◌&&◌, List, [], ◌∷◌, eqb}

-- the entries before the first 0
abbrev pub line : List ℕ → List ℕ
line [] = []
line (zero ∷ xs) = []
line (suc n ∷ xs) = suc n ∷ line xs

-- the first n of xs, with zeros behind where xs has fewer
unfoldable pub pad_to : ℕ → List ℕ → List ℕ
pad_to zero xs = []
pad_to (suc n) [] = 0 ∷ pad_to n []
pad_to (suc n) (x ∷ xs) = x ∷ pad_to n xs

-- the numbers laid out in an array of 31
unfoldable pub pad : List ℕ → List ℕ
pad xs = pad_to 31 xs

-- zeros alone
abbrev pub blanks : List ℕ → Bool
blanks [] = true
blanks (x ∷ xs) = eqb x 0 && blanks xs

-- behind the first zero there are zeros alone
abbrev pub tidy : List ℕ → Bool
tidy [] = true
tidy (zero ∷ xs) = blanks xs
tidy (suc n ∷ xs) = tidy xs
