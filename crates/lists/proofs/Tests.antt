-- The way that control came; the parts of an `and`, of an `or`; the choice by a test, and a test as a number; what a contradiction gives (ListLaws has the laws of single tests).
-- The laws that only compute, as that of an `and` with `false`, are the library's: and-true, and-false, and-assoc of mathlib.Core.Bool.
-- Assumes nothing.
use Prim.Native.Nat.{ℕ, zero, suc, ◌≤◌, ◌<◌}
use mathlib.Core.Path.{◌≡◌, refl, sym, ◌∙◌}
use mathlib.Core.Logic.{◌⊎◌, inl, inr}
use mathlib.Core.Bool.{Bool, true, false, ◌&&◌, ◌||◌, true≢false, false≢true}
use mathlib.Core.List.{List, [], ◌∷◌}
use native.Mathlib.Omega.{arith}
use lib.Dec.{ltb, leb}
use lib.ListN.{get_or}
use borrow.Author.Tests.{ltb-true, leb-true}
use mir.Val.{bool_byte}
use Rattle.lists.specs.Lists.{when◌then◌else◌, bit}

-- what a contract asks that asks nothing
pub nothing : Unit {0}
nothing = tt

-- by cases on the way that control came: the sum first, so that antt knows each way's facts
pub ways : {A B G : Type 0} → A ⊎ B → (A → G) → (B → G) → G
ways (inl a) f g = f a
ways (inr b) f g = g b

-- where 0 is 1, and where true is false, anything holds
pub no : {A : Type 0} → ◌≡◌ {A = ℕ} 0 1 → A
no e = absurd (omega arith)

pub differ {ℓ} : {A : Type ℓ} → true ≡ false → A
differ e = absurd (true≢false e)

-- the first part of an `and` that is true
pub and_first : (a b : Bool) → (a && b) ≡ true → a ≡ true
and_first true b h = refl
and_first false b h = h

-- the second part of an `and` that is true
pub and_second : (a b : Bool) → (a && b) ≡ true → b ≡ true
and_second true b h = h
and_second false b h = absurd (false≢true h)

-- both parts make an `and`
pub and_both : {a b : Bool} → a ≡ true → b ≡ true → (a && b) ≡ true
and_both p q = λ i. p i && q i

-- two tests that pass alike
pub same_test : (a b : Bool) → (a ≡ true → b ≡ true) → (b ≡ true → a ≡ true) → a ≡ b
same_test true b f g = sym (f refl)
same_test false true f g = g refl
same_test false false f g = refl

-- a chain of tests, `a && b && c ..`
abbrev pub chain : Bool → List Bool → Bool
chain a [] = a
chain a (b ∷ bs) = chain (a && b) bs

-- each test of a chain that is true, by its place
pub each : (a : Bool) (bs : List Bool) → chain a bs ≡ true → (i : ℕ) → get_or (a ∷ bs) i true ≡ true
each a [] h zero = h
each a [] h (suc i) = refl
each a (b ∷ bs) h zero = and_first a b (each (a && b) bs h 0)
each a (b ∷ bs) h (suc zero) = and_second a b (each (a && b) bs h 0)
each a (b ∷ bs) h (suc (suc i)) = each (a && b) bs h (suc i)

-- a number that is tested to be one of 1..n
pub between : (t n : ℕ) → (ltb 0 t && leb t n) ≡ true → (0 < t) × (t ≤ n)
between t n e = (ltb-true 0 t (and_first (ltb 0 t) (leb t n) e), leb-true t n (and_second (ltb 0 t) (leb t n) e))

-- the second part of an `and` that is false is true: the first is false
pub and_fails : (a b : Bool) → (a && b) ≡ false → b ≡ true → a ≡ false
and_fails true b e h = sym h ∙ e
and_fails false b e h = refl

-- the first part of an `or` that is false
pub or_first : (a b : Bool) → (a || b) ≡ false → a ≡ false
or_first true b h = h
or_first false b h = refl

-- the second part of an `or` that is false
pub or_second : (a b : Bool) → (a || b) ≡ false → b ≡ false
or_second true b h = differ h
or_second false b h = h

-- the first part makes an `or`
pub or_left : (a b : Bool) → a ≡ true → (a || b) ≡ true
or_left a b h = λ i. h i || b

-- the second part makes an `or`
pub or_right : (a b : Bool) → b ≡ true → (a || b) ≡ true
or_right true b h = refl
or_right false b h = h

-- the choice of a test that is known
pub if-true : {A : Type 0} (b : Bool) (x y : A) → b ≡ true → (when b then x else y) ≡ x
if-true true x y e = refl
if-true false x y e = differ (sym e)

pub if-false : {A : Type 0} (b : Bool) (x y : A) → b ≡ false → (when b then x else y) ≡ y
if-false true x y e = differ e
if-false false x y e = refl

-- a test as a number: at most 1, and the machine's byte is the definitions' bit
pub bit_le : (b : Bool) → bit b ≤ 1
bit_le true = omega arith
bit_le false = omega arith

pub byte_bit : (b : Bool) → bool_byte b ≡ bit b
byte_bit true = refl
byte_bit false = refl
