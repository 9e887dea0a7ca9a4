-- The text in a row of 64 bytes.
-- Assumes nothing.
use Rattle.std.specs.Prelude.{ℕ, ◌≡◌, List, ◌++◌, length, take}
use Rattle.script.specs.declared.row.Row.{Row}

-- the text in a row: its bytes up to the place
abbrev pub text_in : Row → List ℕ
text_in row = take row.place row.bytes

-- as much of a text as fits a row
abbrev pub cut : List ℕ → List ℕ
cut text = take 64 text

-- r is a row of 64 bytes whose text is that of `row` and more behind it
pub record Grown (row : Row) (more : List ℕ) (r : Row) : Type 0 where
  pub text : text_in r ≡ cut (text_in row ++ more)
  pub long : length r.bytes ≡ 64
