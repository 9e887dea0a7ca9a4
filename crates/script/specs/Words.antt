-- The words of a line.
-- Assumes nothing.
use Rattle.std.specs.Prelude.{ℕ, Bool, false, not, ◌||◌, cond, List, [], ◌∷◌, ◌++◌, eqb}

-- what stands between words: a blank, a tab, the carriage return of a line end
abbrev pub is_blank : ℕ → Bool
is_blank b = (eqb b 32 || eqb b 9) || eqb b 13

-- what a byte adds: a blank nothing, the first byte of a word a blank and itself, any other itself
abbrev pub part_of : Bool → ℕ → List ℕ
part_of inside b = cond (is_blank b) [] (cond inside (b ∷ []) (32 ∷ b ∷ []))

-- the words of the rest of a line, `inside` a word or not; a comment begins with #
abbrev pub words_from : Bool → List ℕ → List ℕ
words_from inside [] = []
words_from inside (b ∷ l) = cond (eqb b 35) [] (part_of inside b ++ words_from (not (is_blank b)) l)

-- the words of a line, with one blank in front of each
unfoldable pub words_of : List ℕ → List ℕ
words_of line = words_from false line
