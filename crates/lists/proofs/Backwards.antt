-- A loop that goes over a list from its end.
-- Assumes nothing.
use Rattle.std.proofs.Common.{◌≡◌, suc, List, [], ◌∷◌, ◌++◌, length, take, get_or, refl}

-- the last of the front of a list, and the front before it
pub last_left : {A : Type 0} (d x : A) (xs l : List A) → xs ++ (x ∷ []) ≡ take (suc (length xs)) l → (xs ≡ take (length xs) l) × (x ≡ get_or l (length xs) d)
last_left d x [] [] e = absurd (cc)
last_left d x [] (y ∷ ys) e = (refl, cc)
last_left d x (z ∷ zs) [] e = absurd (cc)
last_left d x (z ∷ zs) (y ∷ ys) e =
    let r = last_left d x zs ys (cc) in
    let h : z ≡ y = cc in
    (λ i. h i ∷ r.0 i, r.1)
