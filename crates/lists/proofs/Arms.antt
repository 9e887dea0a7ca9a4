-- The arm `_` of a match on a number, whose definition is a chain of tests, one for each key.
-- Assumes nothing.
use Prim.Native.Nat.{ℕ}
use mathlib.Core.Path.{◌≡◌, refl}
use mathlib.Core.List.{List, [], ◌∷◌}
use borrow.Author.Tests.{ne_eqb}
use lib.Dec.{eqb}
use Rattle.lists.specs.Lists.{when◌then◌else◌}

-- what the arm knows: beside what is known before the first key, that the number is none of the keys
abbrev pub NoneOf : Type 0 → ℕ → List ℕ → Type 0
NoneOf Known x [] = Known
NoneOf Known x (k ∷ ks) = NoneOf (Known × (x ≡ k → ⊥)) x ks

-- an answer for each key
abbrev pub Answers : Type 0 → List ℕ → Type 0
Answers A [] = Unit {0}
Answers A (k ∷ ks) = A × Answers A ks

-- the answer of the first key that the number is, or the last one
abbrev pub chosen : {A : Type 0} (x : ℕ) (ks : List ℕ) → Answers A ks → A → A
chosen x [] vs a = a
chosen x (k ∷ ks) vs a = when eqb x k then vs.0 else chosen x ks vs.1 a

rest : {A Known : Type 0} (x : ℕ) (ks : List ℕ) (vs : Answers A ks) (a : A) → NoneOf Known x ks → Known × (a ≡ chosen x ks vs a)
rest x [] vs a n = (n, refl)
rest x (k ∷ ks) vs a n = let r = rest x ks vs.1 a n in (r.0.0, simp (ne_eqb x k r.0.1) r.1)

-- the arm gives the last answer
pub last_arm : {A : Type 0} (x : ℕ) (ks : List ℕ) (vs : Answers A ks) (a : A) → NoneOf (Unit {0}) x ks → a ≡ chosen x ks vs a
last_arm x ks vs a n = (rest x ks vs a n).1
