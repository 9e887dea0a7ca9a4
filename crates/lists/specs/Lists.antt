-- The few operations on lists of task numbers that the rules need, and the choice by a test.
-- Assumes nothing.
use Rattle.std.specs.Prelude.{ℕ, zero, suc, ◌+◌, Bool, true, false, not, ◌&&◌, ◌||◌, List, [], ◌∷◌, ◌++◌, eqb, ltb}

infixr 5 when◌then◌else◌
-- `if b then x else y`
abbrev pub when◌then◌else◌ {ℓ} : {A : Type ℓ} → Bool → A → A → A
when true then x else y = x
when false then x else y = y

-- 1 for a test that passes, 0 for one that fails
abbrev pub bit : Bool → ℕ
bit true = 1
bit false = 0

-- those that pass the test, in their order
abbrev pub filter : (ℕ → Bool) → List ℕ → List ℕ
filter f [] = []
filter f (x ∷ xs) = when f x then x ∷ filter f xs else filter f xs

-- the list without t
abbrev pub remove : ℕ → List ℕ → List ℕ
remove t l = filter (λ x. not (eqb x t)) l

-- the list without t, and with t at its end if it belongs there now
abbrev pub rejoin : Bool → ℕ → List ℕ → List ℕ
rejoin true t l = remove t l ++ (t ∷ [])
rejoin false t l = remove t l

-- the list with t at its head
abbrev pub to_head : ℕ → List ℕ → List ℕ
to_head t l = t ∷ remove t l

-- t before the first that passes the test, or at the end
abbrev pub insert : (ℕ → Bool) → ℕ → List ℕ → List ℕ
insert f t [] = t ∷ []
insert f t (x ∷ xs) = when f x then t ∷ x ∷ xs else x ∷ insert f t xs

-- how often t stands in the list
abbrev pub count : ℕ → List ℕ → ℕ
count t [] = 0
count t (x ∷ xs) = bit (eqb x t) + count t xs

-- x stands in the list, and y behind it
abbrev pub ahead : ℕ → ℕ → List ℕ → Bool
ahead x y [] = false
ahead x y (z ∷ zs) = (eqb z x && ltb 0 (count y zs)) || ahead x y zs

-- the first and the last; 0 of the empty list
abbrev pub first : List ℕ → ℕ
first [] = 0
first (x ∷ xs) = x

abbrev pub last : List ℕ → ℕ
last [] = 0
last (x ∷ []) = x
last (x ∷ y ∷ ys) = last (y ∷ ys)

-- the test passes at each of the list
abbrev pub every : {A : Type 0} → (A → Bool) → List A → Bool
every f [] = true
every f (x ∷ xs) = f x && every f xs

-- each is related to all those behind it
abbrev pub in_order_by : {A : Type 0} → (A → A → Bool) → List A → Bool
in_order_by f [] = true
in_order_by f (x ∷ xs) = every (f x) xs && in_order_by f xs

-- n, n - 1, .., 1
abbrev pub down_from : ℕ → List ℕ
down_from zero = []
down_from (suc n) = suc n ∷ down_from n
