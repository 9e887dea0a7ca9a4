-- Laws of `line` and `pad`: what is laid out is read back, what is laid out is tidy, what a full line does.
-- Assumes nothing.
use Prim.Native.Nat.{ℕ, zero, suc, ◌-◌, ◌≤◌, ◌<◌, suc-le-suc, zero-le}
use native.Mathlib.Nat.{le_of_suc-le-suc, not-suc-le-zero, le_refl, suc_inj, suc-ne-zero}
use native.Mathlib.Omega.{arith}
use mathlib.Core.Path.{◌≡◌, refl, sym, ap, ◌∙◌}
use mathlib.Core.Bool.{Bool, true, not}
use mathlib.Core.List.{List, [], ◌∷◌, ◌++◌, nil≢cons, tail-eq_of_cons-eq}
use lib.Dec.{eqb}
use lib.ListN.{length, take, get_or}
use borrow.Author.Tests.{eqb-true}
use Rattle.lists.specs.Lists.{filter, remove, first, last}
use Rattle.lists.specs.Line.{line, pad_to, pad, blanks, tidy}
use Rattle.lists.proofs.ListLaws.{by_bool}
use Rattle.lists.proofs.Tests.{and_first, and_second}

-- a filtered list is no longer
pub length_filter : (p : ℕ → Bool) (xs : List ℕ) → length (filter p xs) ≤ length xs
length_filter p [] = le_refl 0
length_filter p (x ∷ xs) = let ih = length_filter p xs in by_bool (p x) (λ e. simp e (omega arith)) (λ e. simp e (omega arith))

-- a line has no blanks
pub line_line : (xs : List ℕ) → line (line xs) ≡ line xs
line_line [] = refl
line_line (zero ∷ xs) = refl
line_line (suc n ∷ xs) = ap (λ (r : List ℕ). suc n ∷ r) (line_line xs)

-- a line is no longer than its array
pub length_line : (xs : List ℕ) → length (line xs) ≤ length xs
length_line [] = le_refl 0
length_line (zero ∷ xs) = zero-le
length_line (suc n ∷ xs) = suc-le-suc (length_line xs)

-- xs has no blank exactly where `line xs ≡ xs`
pub line_cons : (x : ℕ) (xs : List ℕ) → line (x ∷ xs) ≡ x ∷ xs → (0 < x) × (line xs ≡ xs)
line_cons zero xs h = absurd (nil≢cons h)
line_cons (suc n) xs h = (suc-le-suc zero-le, tail-eq_of_cons-eq h)

-- a number before a list with no blanks
pub line_of_cons : (x : ℕ) (xs : List ℕ) → 0 < x → line xs ≡ xs → line (x ∷ xs) ≡ x ∷ xs
line_of_cons zero xs p h = absurd (not-suc-le-zero p)
line_of_cons (suc n) xs p h = ap (λ (r : List ℕ). suc n ∷ r) h

-- two lists with no blanks, joined
pub line_append : (xs ys : List ℕ) → line xs ≡ xs → line ys ≡ ys → line (xs ++ ys) ≡ xs ++ ys
line_append [] ys h k = k
line_append (x ∷ xs) ys h k = let d = line_cons x xs h in line_of_cons x (xs ++ ys) d.0 (line_append xs ys d.1 k)

-- room for n has n places
pub length_pad_to : (n : ℕ) (xs : List ℕ) → length (pad_to n xs) ≡ n
unfolding pad_to
length_pad_to zero xs = refl
length_pad_to (suc n) [] = ap suc (length_pad_to n [])
length_pad_to (suc n) (x ∷ xs) = ap suc (length_pad_to n xs)

-- what is laid out in n places is read back
pub line_pad_to : (n : ℕ) (xs : List ℕ) → line xs ≡ xs → length xs ≤ n → line (pad_to n xs) ≡ xs
unfolding pad_to
line_pad_to zero [] h l = refl
line_pad_to zero (x ∷ xs) h l = absurd (not-suc-le-zero l)
line_pad_to (suc n) [] h l = refl
line_pad_to (suc n) (zero ∷ xs) h l = absurd (nil≢cons h)
line_pad_to (suc n) (suc x ∷ xs) h l = ap (λ (r : List ℕ). suc x ∷ r) (line_pad_to n xs (tail-eq_of_cons-eq h) (le_of_suc-le-suc l))

-- what is laid out is read back
pub line_pad : (xs : List ℕ) → line xs ≡ xs → length xs ≤ 31 → line (pad xs) ≡ xs
unfolding pad
line_pad xs h l = line_pad_to 31 xs h l

-- n entries fill the room: what would come behind falls off
pub pad_to_full : (n : ℕ) (xs ys : List ℕ) → length xs ≡ n → pad_to n (xs ++ ys) ≡ xs
unfolding pad_to
pad_to_full zero [] ys e = refl
pad_to_full zero (x ∷ xs) ys e = absurd (suc-ne-zero (length xs) e)
pad_to_full (suc n) [] ys e = absurd (suc-ne-zero n (sym e))
pad_to_full (suc n) (x ∷ xs) ys e = ap (λ (r : List ℕ). x ∷ r) (pad_to_full n xs ys (suc_inj e))

-- an array has 31 places
pub length_pad : (xs : List ℕ) → length (pad xs) ≡ 31
unfolding pad
length_pad xs = length_pad_to 31 xs

-- each of zeros alone is 0
pub blanks_at : (a : List ℕ) → blanks a ≡ true → (i : ℕ) → get_or a i 0 ≡ 0
blanks_at [] h i = refl
blanks_at (x ∷ xs) h zero = eqb-true x 0 (and_first (eqb x 0) (blanks xs) h)
blanks_at (x ∷ xs) h (suc i) = blanks_at xs (and_second (eqb x 0) (blanks xs) h) i

-- zeros alone are nothing laid out
blank_pad_to : (xs : List ℕ) → blanks xs ≡ true → xs ≡ pad_to (length xs) []
unfolding pad_to
blank_pad_to [] h = refl
blank_pad_to (x ∷ xs) h =
    λ i. eqb-true x 0 (and_first (eqb x 0) (blanks xs) h) i ∷ blank_pad_to xs (and_second (eqb x 0) (blanks xs) h) i

tidy_pad_to : (xs : List ℕ) → tidy xs ≡ true → xs ≡ pad_to (length xs) (line xs)
unfolding pad_to
tidy_pad_to [] h = refl
tidy_pad_to (zero ∷ xs) h = ap (λ (r : List ℕ). 0 ∷ r) (blank_pad_to xs h)
tidy_pad_to (suc n ∷ xs) h = ap (λ (r : List ℕ). suc n ∷ r) (tidy_pad_to xs h)

-- a tidy array is its line laid out
pub tidy_pad : (a : List ℕ) → length a ≡ 31 → tidy a ≡ true → a ≡ pad (line a)
unfolding pad
tidy_pad a l h = tidy_pad_to a h ∙ ap (λ (n : ℕ). pad_to n (line a)) l

pad_to_blank : (n : ℕ) (xs : List ℕ) → pad_to n (xs ++ (0 ∷ [])) ≡ pad_to n xs
unfolding pad_to
pad_to_blank zero xs = refl
pad_to_blank (suc n) [] = refl
pad_to_blank (suc n) (x ∷ xs) = ap (λ (r : List ℕ). x ∷ r) (pad_to_blank n xs)

-- a blank at the end is room
pub pad_blank : (xs : List ℕ) → pad (xs ++ (0 ∷ [])) ≡ pad xs
unfolding pad
pad_blank xs = pad_to_blank 31 xs

take_pad_to : (n : ℕ) (xs : List ℕ) → length xs ≤ n → take (length xs) (pad_to n xs) ≡ xs
unfolding pad_to
take_pad_to n [] l = refl
take_pad_to zero (x ∷ xs) l = absurd (not-suc-le-zero l)
take_pad_to (suc n) (x ∷ xs) l = ap (λ (r : List ℕ). x ∷ r) (take_pad_to n xs (le_of_suc-le-suc l))

-- the front of what is laid out
pub take_pad : (xs : List ℕ) → length xs ≤ 31 → take (length xs) (pad xs) ≡ xs
unfolding pad
take_pad xs l = take_pad_to 31 xs l

-- a filtered list with no blanks has none
pub line_filter : (p : ℕ → Bool) (xs : List ℕ) → line xs ≡ xs → line (filter p xs) ≡ filter p xs
line_filter p [] h = refl
line_filter p (x ∷ xs) h =
    let d = line_cons x xs h in
    let ih = line_filter p xs d.1 in
    by_bool (p x) (λ e. simp e (line_of_cons x (filter p xs) d.0 ih)) (λ e. simp e ih)

-- those of a line that pass a test, laid out and read back
pub line_picked : (p : ℕ → Bool) (a : List ℕ) → length a ≡ 31 → line (pad (filter p (line a))) ≡ filter p (line a)
line_picked p a l =
    line_pad (filter p (line a)) (line_filter p (line a) (line_line a)) (omega (arith, length_filter p (line a), length_line a))

pad_to_blanks : (n : ℕ) → blanks (pad_to n []) ≡ true
unfolding pad_to
pad_to_blanks zero = refl
pad_to_blanks (suc n) = pad_to_blanks n

pad_to_tidy : (n : ℕ) (xs : List ℕ) → line xs ≡ xs → tidy (pad_to n xs) ≡ true
unfolding pad_to
pad_to_tidy zero xs h = refl
pad_to_tidy (suc n) [] h = pad_to_blanks n
pad_to_tidy (suc n) (zero ∷ xs) h = absurd (nil≢cons h)
pad_to_tidy (suc n) (suc x ∷ xs) h = pad_to_tidy n xs (tail-eq_of_cons-eq h)

-- what is laid out is tidy
pub pad_tidy : (xs : List ℕ) → line xs ≡ xs → tidy (pad xs) ≡ true
unfolding pad
pad_tidy xs h = pad_to_tidy 31 xs h

-- the first of a line stands at place 0
pub first_at : (a : List ℕ) → get_or a 0 0 ≡ first (line a)
first_at [] = refl
first_at (zero ∷ xs) = refl
first_at (suc x ∷ xs) = refl

-- an empty list has no last
pub last_none : (l : List ℕ) → length l ≡ 0 → 0 ≡ last l
last_none [] h = refl
last_none (x ∷ xs) h = absurd (omega arith)

-- the last of a line stands at the place before its length
pub last_at : (a : List ℕ) (n : ℕ) → n ≡ length (line a) → (n ≡ 0 → ⊥) → get_or a (n - 1) 0 ≡ last (line a)
last_at [] n e z = absurd (z e)
last_at (zero ∷ xs) n e z = absurd (z e)
last_at (suc x ∷ xs) n e z = go (line xs) refl (last_at xs (length (line xs)) refl)
  where
    go : (l : List ℕ) → line xs ≡ l → ((length (line xs) ≡ 0 → ⊥) → get_or xs (length (line xs) - 1) 0 ≡ last (line xs)) → get_or (suc x ∷ xs) (n - 1) 0 ≡ last (suc x ∷ l)
    go [] q ih = let k : n - 1 ≡ 0 = omega (arith, ap length q) in rw k
    go (y ∷ ys) q ih =
        let k : n - 1 ≡ suc (length (line xs) - 1) = omega (arith, ap length q) in
        rw k (ih (λ w. omega (arith, ap length q)) ∙ ap last q)

-- what `without` left of a line
module _ (a : List ℕ) (t : ℕ) (l : List ℕ) (long : length a ≡ 31) (e : l ≡ pad (remove t (line a))) where
  pub left_over : line l ≡ remove t (line a)
  left_over = ap line e ∙ line_picked (λ x. not (eqb x t)) a long
