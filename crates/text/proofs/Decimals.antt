-- The decimal text of a number, digit by digit, and how many digits it has at most.
-- Assumes nothing.
use Prim.Native.Nat.{ℕ, zero, suc, ◌+◌, ◌*◌, ◌/◌, ◌%◌, ◌^◌, ◌<◌, ◌≤◌}
use mathlib.Core.Path.{◌≡◌, refl, sym, ap, subst, ◌∙◌}
use mathlib.Core.List.{List, [], ◌∷◌, ◌++◌}
use native.Mathlib.Omega.{arith}
use native.Mathlib.Nat.{pow-suc, pow-zero}
use lib.Dec.{ltb}
use lib.ListN.{length, length-append, drop, set}
use Rattle.std.proofs.Common.{append_assoc, add-one}
use Rattle.std.proofs.lemmas.List.{drop-set}
use borrow.Author.Tests.{lt-ltb, le-ltb, ltb-true, ltb-false}
use Rattle.lists.proofs.ListLaws.{by_bool}
use Rattle.text.specs.Text.{spelled, decimal}

pub small : (k n : ℕ) → n < 10 → spelled (suc k) n ≡ (48 + n) ∷ []
small k n h = rw (lt-ltb n 10 h) refl

pub large : (k n : ℕ) → 10 ≤ n → spelled (suc k) n ≡ spelled k (n / 10) ++ ((48 + n % 10) ∷ [])
large k n h = rw (le-ltb n 10 h) refl

-- a number has fewer digits than it counts, so leave for more of them changes nothing
enough : (k m n : ℕ) → n < k → n < m → spelled k n ≡ spelled m n
enough zero m n h g = absurd (omega arith)
enough (suc k) zero n h g = absurd (omega arith)
enough (suc k) (suc m) n h g = by_bool (ltb n 10)
    (λ e. let low = ltb-true n 10 e in small k n low ∙ sym (small m n low))
    (λ e. let high = ltb-false n 10 e in
    large k n high ∙ ap (λ (l : List ℕ). l ++ ((48 + n % 10) ∷ [])) (enough k m (n / 10) (omega arith) (omega arith)) ∙ sym (large m n high))

decimal_small : (n : ℕ) → n < 10 → (48 + n) ∷ [] ≡ decimal n
unfolding decimal
decimal_small n h = sym (small n n h)

decimal_large : (n : ℕ) → 10 ≤ n → decimal (n / 10) ++ ((48 + n % 10) ∷ []) ≡ decimal n
unfolding decimal
decimal_large n h =
    ap (λ (l : List ℕ). l ++ ((48 + n % 10) ∷ [])) (enough (suc (n / 10)) n (n / 10) (omega arith) (omega arith)) ∙ sym (large n n h)

-- a digit more in front of those that stand behind place i
pub digit_on : (n r i d : ℕ) (row : List ℕ) → i < length row → 10 ≤ r → d ≡ 48 + r % 10 → decimal n ≡ decimal r ++ drop (i + 1) row
    → decimal n ≡ decimal (r / 10) ++ drop i (set row i d)
digit_on n r i d row h g e f =
    let s : drop i (set row i d) ≡ (48 + r % 10) ∷ drop (i + 1) row = rw (← e) (drop-set row i d h) in
    rw (f, s, ← decimal_large r g) (append_assoc (decimal (r / 10)) ((48 + r % 10) ∷ []) (drop (i + 1) row))

-- the first digit
pub digit_first : (n r i d : ℕ) (row : List ℕ) → i < length row → r < 10 → d ≡ 48 + r → decimal n ≡ decimal r ++ drop (i + 1) row
    → drop i (set row i d) ≡ decimal n
digit_first n r i d row h g e f =
    let s : drop i (set row i d) ≡ (48 + r) ∷ drop (i + 1) row = rw (← e) (drop-set row i d h) in
    rw (f, s, ← decimal_small r g) refl

-- a number without its last digit has one digit less
pub digit_room : (r i : ℕ) → r < 10 ^ (i + 1) → r / 10 < 10 ^ i
digit_room r i h =
    let p = 10 ^ i in
    let z : r < p * 10 = rw pow-suc at (rw add-one at h) in
    omega arith

one_more : (l : List ℕ) (x d n : ℕ) → ((d : ℕ) → 0 < d → n / 10 < 10 ^ d → length l ≤ d) → 10 ≤ n → n < 10 ^ d → length (l ++ (x ∷ [])) ≤ d
one_more l x zero n ih g h = let z : n < 1 = subst (λ (p : ℕ). n < p) (pow-zero 10) h in absurd (omega arith)
one_more l x (suc zero) n ih g h =
    let z : n < 10 = subst (λ (p : ℕ). n < p) (pow-suc 10 0 ∙ ap (λ (p : ℕ). p * 10) (pow-zero 10)) h in absurd (omega arith)
one_more l x (suc (suc d)) n ih g h =
    let p = 10 ^ (suc d) in
    let z : n < p * 10 = subst (λ (p : ℕ). n < p) (pow-suc 10 (suc d)) h in
    let i = ih (suc d) (omega arith) (omega arith) in
    rw (length-append l (x ∷ [])) (omega arith)

spelled_short : (k n d : ℕ) → 0 < d → n < 10 ^ d → length (spelled k n) ≤ d
spelled_short zero n d o h = omega arith
spelled_short (suc k) n d o h = by_bool (ltb n 10)
    (λ e. subst (λ (l : List ℕ). length l ≤ d) (sym (small k n (ltb-true n 10 e))) (omega arith))
    (λ e. let g = ltb-false n 10 e in
    subst (λ (l : List ℕ). length l ≤ d) (sym (large k n g))
    (one_more (spelled k (n / 10)) (48 + n % 10) d n (λ d o h. spelled_short k (n / 10) d o h) g h))

-- a number below the d-th power of ten has at most d digits
pub decimal_short : (n d : ℕ) → 0 < d → n < 10 ^ d → length (decimal n) ≤ d
unfolding decimal
decimal_short n d o h = spelled_short (suc n) n d o h
