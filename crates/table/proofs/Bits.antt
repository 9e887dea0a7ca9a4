-- Open sets: bits of a byte.
-- Assumes nothing.
use Rattle.std.proofs.Common.{◌≡◌, ℕ, zero, suc, ◌-◌, ◌/◌, ◌%◌, ◌^◌, ◌<◌, ◌≤◌, false, not, eqb, leb, sym, div-add-mod', arith, pow_pos, ne_eqb, leb-false, leb-true}
use native.Mathlib.Nat.{div-eq_of_lt, pow-le-pow_right}
use borrow.Author.Tests.{lt-leb}
use Rattle.rules.specs.State.{opens}
use Rattle.lists.proofs.ListLaws.{by_bool}

wide : (k : ℕ) → 8 ≤ k → 256 ≤ 2 ^ k
wide k h = pow-le-pow_right {n = 2} (omega arith) {i = 8} {j = k} h

pub open_none : (o e : ℕ) → e ≡ 0 → false ≡ opens o e
open_none o e z = rw z

pub open_bit : (o e : ℕ) → 0 < e → eqb (o / 2 ^ (e - 1) % 2) 1 ≡ opens o e
open_bit o zero h = absurd (omega arith)
open_bit o (suc e) h = let k : suc e - 1 ≡ e = omega arith in rw k

pub open_high : (o e : ℕ) → o < 256 → 8 < e → false ≡ opens o e
open_high o e b h =
    let w : 256 ≤ 2 ^ (e - 1) = wide (e - 1) (omega arith) in
    rw (← open_bit o e (omega arith), div-eq_of_lt {n = o} {m = 2 ^ (e - 1)} (omega arith))

pub set_high : (o n : ℕ) → o < 256 → 7 < n → false ≡ leb (2 ^ n) o
set_high o n b h = sym (lt-leb (2 ^ n) o (omega (arith, wide n (omega arith))))

pub set_test : (o n : ℕ) → not (eqb (o / 2 ^ n) 0) ≡ leb (2 ^ n) o
set_test o n =
    by_bool (leb (2 ^ n) o)
    (λ e. rw (e, ne_eqb (o / 2 ^ n) 0 (λ z. low (2 ^ n) (leb-true (2 ^ n) o e) (pow_pos n) z)))
    (λ e. rw (e, div-eq_of_lt {n = o} {m = 2 ^ n} (leb-false (2 ^ n) o e)))
  where
    low : (m : ℕ) → m ≤ o → 0 < m → o / m ≡ 0 → ⊥
    low m a p z = omega (arith, rw z at (div-add-mod' o m), native.Mathlib.Nat.mod-lt o {m = m} p)
