-- Decimal numbers, and text written into lent room from a place on.
-- Assumes nothing.
use Rattle.std.specs.Prelude.{ℕ, zero, suc, ◌+◌, ◌/◌, ◌%◌, min, ◌≡◌, cond, List, [], ◌∷◌, ◌++◌, length, take, drop, ltb}
use Rattle.lists.specs.Over.{over}

-- n in decimal, by at most k digits, the most significant first
abbrev pub spelled : ℕ → ℕ → List ℕ
spelled zero n = []
spelled (suc k) n = cond (ltb n 10) ((48 + n) ∷ []) (spelled k (n / 10) ++ ((48 + n % 10) ∷ []))

-- n in decimal: ASCII digits, no zeros in front
unfoldable pub decimal : ℕ → List ℕ
decimal n = spelled (suc n) n

-- a blank and a number
unfoldable pub spaced : ℕ → List ℕ
spaced n = 32 ∷ decimal n

-- the number behind n, in 64 bits
abbrev pub number_after : ℕ → ℕ
number_after n = (n + 1) % 18446744073709551616

-- a row with text over its bytes from `at` on; every other byte stays, and what does not fit the row is left out
abbrev pub put_at : List ℕ → ℕ → List ℕ → List ℕ
put_at [] at text = []
put_at (x ∷ row) zero text = over (x ∷ row) text
put_at (x ∷ row) (suc at) text = x ∷ put_at row at text

-- a row afterwards has all of text from `at` on, and every other byte as it was: nothing is cut
abbrev pub Uncut : List ℕ → ℕ → List ℕ → List ℕ → Type 0
Uncut row at text after = after ≡ take at row ++ (text ++ drop (at + length text) row)

-- the place behind text that is put at `at`: the row's end where it does not fit
abbrev pub behind : List ℕ → ℕ → List ℕ → ℕ
behind row at text = min (at + length text) (length row)

-- text is put into a row at `at`: the row afterwards, and the place behind the text
pub record Put (row : List ℕ) (at : ℕ) (text after : List ℕ) (place : ℕ) : Type 0 where
  pub written : after ≡ put_at row at text
  pub placed : place ≡ behind row at text
