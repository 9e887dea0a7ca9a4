-- What a turn of each loop knows.
-- Assumes nothing.
use Prim.Native.Nat.{ℕ, suc, ◌+◌, ◌-◌, ◌/◌, ◌%◌, ◌≤◌, ◌<◌}
use mathlib.Core.Path.{◌≡◌, refl}
use mathlib.Core.Bool.{Bool, not, cond}
use mathlib.Core.List.{List, [], ◌++◌}
use native.Mathlib.Omega.{arith}
use lib.Dec.{eqb}
use lib.ListN.{length, get_or, drop, drop_of_length-le}
use borrow.Author.Tests.{eq-eqb, ne_eqb}
use Rattle.lists.proofs.Turns.{rest_cons}
use Rattle.script.specs.CallText.{entry, entries}
use Rattle.script.specs.Words.{is_blank, part_of, words_from}

-- ── the entries of an open set ──

pub next_entry : (digit mark rest : ℕ) → digit < 57
    → entries (57 - digit) digit mark rest
    ≡ entry (eqb (rest % 2) 1) mark digit ++ entries (57 - (digit + 1)) (digit + 1) (cond (eqb (rest % 2) 1) 44 mark) (rest / 2)
unfolding entries
next_entry digit mark rest h =
    let f : 57 - digit ≡ suc (57 - (digit + 1)) = omega arith in
    rw f refl

pub no_entry : (digit mark rest : ℕ) → 57 ≤ digit → entries (57 - digit) digit mark rest ≡ []
unfolding entries
no_entry digit mark rest h = let f : 57 - digit ≡ 0 = omega arith in rw f refl

-- ── the words of a line ──

pub next_part : (line : List ℕ) (inside : Bool) (i : ℕ) → i < length line → (get_or line i 0 ≡ 35 → ⊥)
    → words_from inside (drop i line) ≡ part_of inside (get_or line i 0) ++ words_from (not (is_blank (get_or line i 0))) (drop (i + 1) line)
next_part line inside i h n = rw (rest_cons line i 0 h, ne_eqb (get_or line i 0) 35 n) refl

pub comment : (line : List ℕ) (inside : Bool) (i : ℕ) → i < length line → get_or line i 0 ≡ 35 → words_from inside (drop i line) ≡ []
comment line inside i h e = rw (rest_cons line i 0 h, eq-eqb (get_or line i 0) 35 e) refl

pub no_part : (line : List ℕ) (inside : Bool) (i : ℕ) → length line ≤ i → words_from inside (drop i line) ≡ []
no_part line inside i h = rw (drop_of_length-le line {i = i} h) refl
