-- The laws of the word. All that is proved of the check rests on these alone.
-- Assumes nothing.
use Rattle.std.proofs.Common.{◌≡◌, ℕ, zero, suc, ◌+◌, ◌*◌, ◌/◌, ◌%◌, ◌^◌, ◌<◌, ◌≤◌, Bool, true, false, not, ◌&&◌, ◌||◌, eqb, ltb, sym, refl, ap, ◌∙◌, mod-eq_of_lt, zero-lt-suc, one-mul, pow-suc, div-one, one-add, arith, shl_exact, shr-shr, ltb-true, lt-ltb, eq-eqb, ne_eqb, eqb-true}
use native.Mathlib.Nat.{div-eq_of_lt, mul-mod_left, mul-div-mul_right, mul-add-mod_self_right, zero-div}
use lib.Bits.{bit_xor, differ, xor_shr, xor_step, xor_lt}
use lib.Pow.{pow-lt}
use lib.Dec.{eqb-suc-suc}
use borrow.Author.Tests.{eqb-false}
use mathlib.Core.Bool.{beq}
use Rattle.lists.specs.Lists.{when◌then◌else◌, bit}
use Rattle.lists.proofs.ListLaws.{by_bool, by_eq, by_test}
use Rattle.soundness.specs.Marks.{Marks, Whole, no_marks, has_mark, next_mark, without_mark, put_mark, is_none}

-- ── bits ──

-- a power of two has one bit
pow_bit : (x t : ℕ) → 2 ^ x / 2 ^ t % 2 ≡ bit (eqb t x)
pow_bit zero zero = refl
pow_bit zero (suc t) = rw (ne_eqb (suc t) 0 (λ e. omega arith)) (ap (λ (n : ℕ). n % 2) (div-eq_of_lt (pow-lt (zero-lt-suc t))))
pow_bit (suc x) zero = rw (ne_eqb 0 (suc x) (λ e. omega arith), pow-suc 2 x, div-one) (mul-mod_left (2 ^ x) 2)
pow_bit (suc x) (suc t) = rw (eqb-suc-suc, pow-suc 2 x, pow-suc 2 t, mul-div-mul_right (2 ^ x) (2 ^ t) (zero-lt-suc 1)) (pow_bit x t)

-- a bit of `^`
differ_low : (a b : ℕ) → a < 2 → b < 2 → differ a b < 2
differ_low zero b h l = l
differ_low (suc zero) zero h l = omega arith
differ_low (suc zero) (suc zero) h l = omega arith
differ_low (suc zero) (suc (suc b)) h l = absurd (omega arith)
differ_low (suc (suc a)) b h l = absurd (omega arith)

differ_none : (a : ℕ) → differ a 0 ≡ a
differ_none zero = refl
differ_none (suc a) = refl

xor_bit : (a b t : ℕ) → bit_xor a b / 2 ^ t % 2 ≡ differ (a / 2 ^ t % 2) (b / 2 ^ t % 2)
xor_bit a b t =
    let p = a / 2 ^ t in
    let q = b / 2 ^ t in
    ap (λ (n : ℕ). n % 2) (xor_shr a b t ∙ xor_step p q)
    ∙ mul-add-mod_self_right (bit_xor (p / 2) (q / 2)) 2 (differ (p % 2) (q % 2)) ∙ mod-eq_of_lt (differ_low (p % 2) (q % 2) (omega arith) (omega arith))

-- a number whose bits are all clear is 0
no_bits : (n w : ℕ) → w < 2 ^ n → ((t : ℕ) → t < n → w / 2 ^ t % 2 ≡ 0) → w ≡ 0
no_bits zero w h f = omega arith
no_bits (suc n) w h f =
    let low : w % 2 ≡ 0 = ap (λ (x : ℕ). x % 2) (sym (div-one w)) ∙ f 0 (omega arith) in
    let half : w / 2 < 2 ^ n = omega (arith, h, pow-suc 2 n) in
    let rest : w / 2 ≡ 0 = no_bits n (w / 2) half (λ t l. ap (λ (x : ℕ). x % 2) (shr-shr w 1 t ∙ ap (λ (k : ℕ). w / 2 ^ k) (one-add t)) ∙ f (suc t) (omega arith)) in
    omega arith

-- ── the word ──

pub next_whole : (m : Marks) (b : Bool) → Whole (next_mark m b)
unfolding next_mark
next_whole m true = omega arith
next_whole m false = omega arith

-- of j marks, at most 31
pub below : (j : ℕ) (m : Marks) → m < 2 ^ j → j ≤ 31 → m < 2147483648
below j m l h = by_eq j 31 (λ e. rw e at l) (λ e. let p = pow-lt {i = j} {j = 31} (omega arith) in omega arith)

pub next_low : (m : Marks) (b : Bool) (j : ℕ) → m < 2 ^ j → j ≤ 31 → next_mark m b < 2 ^ suc j
unfolding next_mark
next_low m b j l h = let k = below j m l h in go b k
  where
    go : (b : Bool) → m < 2147483648 → m % 2147483648 * 2 + bit b < 2 ^ suc j
    go true k = omega (arith, pow-suc 2 j, l)
    go false k = omega (arith, pow-suc 2 j, l)

pub without_whole : (m : Marks) (x : ℕ) → Whole m → Whole (without_mark m x)
unfolding without_mark
without_whole m x h = by_bool (ltb x 32) (λ e. rw e (xor_lt 32 m (2 ^ x) h (pow-lt {i = x} {j = 32} (ltb-true x 32 e)))) (λ e. rw e h)

pub has_none : (t : ℕ) → has_mark no_marks t ≡ false
unfolding has_mark
has_none t = rw (zero-div (2 ^ t))

-- the new mark is bit 0
pub has_first : (m : Marks) (b : Bool) → has_mark (next_mark m b) 0 ≡ b
unfolding has_mark next_mark
has_first m true = let e : (m % 2147483648 * 2 + 1) % 2 ≡ 1 = omega arith in rw (div-one (m % 2147483648 * 2 + 1), e)
has_first m false = let e : (m % 2147483648 * 2 + 0) % 2 ≡ 0 = omega arith in rw (div-one (m % 2147483648 * 2 + 0), e)

-- each other one stands one place on
pub has_next : (m : Marks) (b : Bool) (t : ℕ) → m < 2147483648 → has_mark (next_mark m b) (suc t) ≡ has_mark m t
unfolding has_mark next_mark
has_next m b t h =
    ap (λ (n : ℕ). eqb (n % 2) 1) (sym (shr-shr (m % 2147483648 * 2 + bit b) 1 t ∙ ap (λ (k : ℕ). (m % 2147483648 * 2 + bit b) / 2 ^ k) (one-add t)) ∙ ap (λ (n : ℕ). n / 2 ^ t) (half b))
  where
    half : (b : Bool) → (m % 2147483648 * 2 + bit b) / 2 ^ 1 ≡ m
    half true = omega arith
    half false = omega arith

-- the bit of x is changed, whichever way it stands
has_changed : (m : Marks) (x t : ℕ) → x < 32 → has_mark (without_mark m x) t ≡ (when eqb t x then not (has_mark m t) else has_mark m t)
unfolding has_mark without_mark
has_changed m x t l =
    rw (lt-ltb x 32 l, xor_bit m (2 ^ x) t, pow_bit x t)
    (by_bool (eqb t x)
    (λ e. rw e (other (m / 2 ^ t % 2) (omega arith)))
    (λ e. rw (e, differ_none (m / 2 ^ t % 2))))
  where
    other : (a : ℕ) → a < 2 → eqb (differ a 1) 1 ≡ not (eqb a 1)
    other zero h = refl
    other (suc zero) h = refl
    other (suc (suc a)) h = absurd (omega arith)

pub has_without : (m : Marks) (x t : ℕ) → Whole m → x < 32 → has_mark m x ≡ true → has_mark (without_mark m x) t ≡ (when eqb t x then false else has_mark m t)
has_without m x t h l z =
    has_changed m x t l ∙ by_bool (eqb t x) (λ e. rw e (ap (λ (y : ℕ). not (has_mark m y)) (eqb-true t x e) ∙ ap not z)) (λ e. rw e)

pub put_whole : (m : Marks) (x : ℕ) (b : Bool) → Whole m → Whole (put_mark m x b)
unfolding put_mark
put_whole m x b h = by_test Whole ((has_mark m x && not b) || (b && not (has_mark m x))) (λ _. without_whole m x h) (λ _. h)

pub has_put : (m : Marks) (x t : ℕ) (b : Bool) → x < 32 → has_mark (put_mark m x b) t ≡ (when eqb t x then b else has_mark m t)
unfolding put_mark
has_put m x t b l = go (has_mark m x) b refl
  where
    stays : (c : Bool) → has_mark m x ≡ c → has_mark m t ≡ (when eqb t x then c else has_mark m t)
    stays c e = by_bool (eqb t x) (λ q. rw q (ap (has_mark m) (eqb-true t x q) ∙ e)) (λ q. rw q)

    turns : (c : Bool) → not (has_mark m x) ≡ c → has_mark (without_mark m x) t ≡ (when eqb t x then c else has_mark m t)
    turns c e = has_changed m x t l ∙ by_bool (eqb t x) (λ q. rw q (ap (λ (y : ℕ). not (has_mark m y)) (eqb-true t x q) ∙ e)) (λ q. rw q)

    go : (there here : Bool) → has_mark m x ≡ there → has_mark (when (has_mark m x && not here) || (here && not (has_mark m x)) then without_mark m x else m) t ≡ (when eqb t x then here else has_mark m t)
    go true true e = rw e (stays true e)
    go true false e = rw e (turns false (ap not e))
    go false true e = rw e (turns true (ap not e))
    go false false e = rw e (stays false e)

pub none_has : (m : Marks) (t : ℕ) → is_none m ≡ true → has_mark m t ≡ false
unfolding is_none
none_has m t e = rw (eqb-true m 0 e) (has_none t)

pub next_none : (m : Marks) → is_none m ≡ true → is_none (next_mark m false) ≡ true
unfolding is_none next_mark
next_none m e = rw (eqb-true m 0 e)

pub has_all : (m : Marks) → Whole m → ((t : ℕ) → has_mark m t ≡ false) → is_none m ≡ true
unfolding has_mark is_none
has_all m h f = eq-eqb m 0 (no_bits 32 m h clear)
  where
    clear : (t : ℕ) → t < 32 → m / 2 ^ t % 2 ≡ 0
    clear t l =
        let k = eqb-false (m / 2 ^ t % 2) 1 (f t) in
        by_eq (m / 2 ^ t % 2) 1 (λ e. absurd (k e)) (λ e. omega arith)

-- a word of 32 bits has no bit above them
pub has_high : (m t : ℕ) → Whole m → 32 ≤ t → has_mark m t ≡ false
unfolding has_mark
has_high m t h l = rw (div-eq_of_lt (high l))
  where
    high : 32 ≤ t → m < 2 ^ t
    high l = by_eq t 32 (λ e. rw e (omega arith)) (λ e. let p = pow-lt {i = 32} {j = t} (omega arith) in omega arith)

-- ── the machine's forms ──

-- the bit of t has to change, and has not to
pub put_changed : (m : Marks) (t : ℕ) (here there : Bool) → there ≡ has_mark m t → not (beq there here) ≡ true → without_mark m t ≡ put_mark m t here
unfolding put_mark
put_changed m t true true e q = absurd (cc)
put_changed m t true false e q = rw (← e)
put_changed m t false true e q = rw (← e)
put_changed m t false false e q = absurd (cc)

pub put_same : (m : Marks) (t : ℕ) (here there : Bool) → there ≡ has_mark m t → not (beq there here) ≡ false → m ≡ put_mark m t here
unfolding put_mark
put_same m t true true e q = rw (← e)
put_same m t true false e q = absurd (cc)
put_same m t false true e q = absurd (cc)
put_same m t false false e q = rw (← e)

pub shifted : (t : ℕ) → t < 32 → (1 * 2 ^ t) % 4294967296 ≡ 2 ^ t
shifted t h = shl_exact {a = 1} 1 t 32 (omega arith) (omega arith) ∙ one-mul (2 ^ t)
