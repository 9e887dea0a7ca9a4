-- Decimal numbers: their digits, their length, and the number that is read back.
-- Assumes nothing.
use Prim.Native.Nat.{ℕ, zero, suc, ◌+◌, ◌*◌, ◌/◌, ◌%◌, ◌≤◌, ◌<◌}
use mathlib.Core.Path.{◌≡◌, refl, sym, ap, subst, ◌∙◌}
use mathlib.Core.List.{List, [], ◌∷◌, ◌++◌}
use native.Mathlib.Omega.{arith}
use lib.Dec.{ltb}
use lib.ListN.{length, length-append}
use borrow.Author.Tests.{le-leb, ltb-true, ltb-false}
use Rattle.lists.proofs.ListLaws.{by_bool}
use Rattle.text.specs.Text.{spelled, decimal}
use Rattle.text.proofs.Decimals.{small, large}
use Rattle.script.specs.Guess.{bit_of, fresh, grown_of}
use Rattle.script.specs.declared.guess.Word.{Word}

-- ── digits ──

-- a digit, or a comma: neither a blank nor a letter nor a minus nor a comment
pub record Plain (b : ℕ) : Type 0 where
  pub low : 44 ≤ b
  pub high : b ≤ 57
  pub no_minus : b ≡ 45 → ⊥

-- every byte is plain
abbrev pub AllPlain : List ℕ → Type 0
AllPlain [] = Unit {0}
AllPlain (b ∷ l) = Plain b × AllPlain l

plain_append : (a b : List ℕ) → AllPlain a → AllPlain b → AllPlain (a ++ b)
plain_append [] b p q = q
plain_append (x ∷ a) b p q = (p.0, plain_append a b p.1 q)

digit : (d : ℕ) → d < 10 → AllPlain ((48 + d) ∷ [])
digit d h = (record { low = omega arith; high = omega arith; no_minus = λ e. omega arith }, tt)

spelled_plain : (k n : ℕ) → AllPlain (spelled k n)
spelled_plain zero n = tt
spelled_plain (suc k) n = by_bool (ltb n 10)
    (λ e. let h = ltb-true n 10 e in subst AllPlain (sym (small k n h)) (digit n h))
    (λ e. let h = ltb-false n 10 e in
    subst AllPlain (sym (large k n h)) (plain_append (spelled k (n / 10)) ((48 + n % 10) ∷ []) (spelled_plain k (n / 10)) (digit (n % 10) (omega arith))))

pub decimal_plain : (n : ℕ) → AllPlain (decimal n)
unfolding decimal
decimal_plain n = spelled_plain (suc n) n

-- ── length ──

pub decimal_some : (n : ℕ) → 0 < length (decimal n)
unfolding decimal
decimal_some n = by_bool (ltb n 10)
    (λ e. subst (λ (l : List ℕ). 0 < length l) (sym (small n n (ltb-true n 10 e))) (omega arith))
    (λ e. subst (λ (l : List ℕ). 0 < length l) (sym (large n n (ltb-false n 10 e)))
    (let g = length-append (spelled n (n / 10)) ((48 + n % 10) ∷ []) in omega (arith, g)))

-- ── the number that is read back ──

-- a word with all bytes of a text
abbrev pub grow_all : Word → List ℕ → Word
grow_all w [] = w
grow_all w (b ∷ l) = grow_all (grown_of w b) l

grow_append : (w : Word) (a b : List ℕ) → grow_all w (a ++ b) ≡ grow_all (grow_all w a) b
grow_append w [] b = refl
grow_append w (x ∷ a) b = grow_append (grown_of w x) a b

-- a reading of words takes a digit behind it, as long as what it reads stays below a bound
abbrev Counts : ℕ → (Word → ℕ) → Type 0
Counts m read = (w : Word) (d : ℕ) → d < 10 → read w * 10 + d < m → read (grown_of w (48 + d)) ≡ read w * 10 + d

spelled_back : (m : ℕ) (read : Word → ℕ) → read fresh ≡ 0 → Counts m read → (k n : ℕ) → n < k → n < m → read (grow_all fresh (spelled k n)) ≡ n
spelled_back m read z c zero n h b = absurd (omega arith)
spelled_back m read z c (suc k) n h b = by_bool (ltb n 10)
    (λ e. let low = ltb-true n 10 e in
    ap (λ (l : List ℕ). read (grow_all fresh l)) (small k n low) ∙ c fresh n low (omega (arith, z)) ∙ (omega (arith, z)))
    (λ e. let high = ltb-false n 10 e in
    let ih = spelled_back m read z c k (n / 10) (omega arith) (omega arith) in
    let w = grow_all fresh (spelled k (n / 10)) in
    ap (λ (l : List ℕ). read (grow_all fresh l)) (large k n high)
    ∙ ap read (grow_append fresh (spelled k (n / 10)) ((48 + n % 10) ∷ []))
    ∙ c w (n % 10) (omega arith) (omega (arith, ih))
    ∙ (omega (arith, ih)))

digit_taken : (w : Word) (d : ℕ) → d < 10
    → grown_of w (48 + d) ≡ record { byte = (w.byte * 10 + d) % 256; set = (w.set + bit_of d) % 256; number = (w.number * 10 + d) % 4294967296 }
digit_taken w d h =
    let e : (48 + d) % 16 ≡ d = omega arith in
    rw (le-leb 48 (48 + d) (omega arith), le-leb (48 + d) 57 (omega arith), e) refl

pub decimal_back : (n : ℕ) → n < 4294967296 → (grow_all fresh (decimal n)).number ≡ n
unfolding decimal
decimal_back n h =
    spelled_back 4294967296 (λ w. w.number) refl (λ w d l b. ap (λ (w : Word). w.number) (digit_taken w d l) ∙ (omega arith)) (suc n) n (omega arith) h

pub decimal_byte : (n : ℕ) → n < 256 → (grow_all fresh (decimal n)).byte ≡ n
unfolding decimal
decimal_byte n h = spelled_back 256 (λ w. w.byte) refl (λ w d l b. ap (λ (w : Word). w.byte) (digit_taken w d l) ∙ (omega arith)) (suc n) n (omega arith) h
