-- What the inner functions over 32 places promise: searches, and places that are set, taken out and put in. No public contract cites this.
use Rattle.std.specs.Prelude.{ℕ, zero, suc, Bool, List, [], ◌∷◌, ◌++◌, ◌==◌, nat_le, nat_lt}
use Rattle.workspace.specs.declared.Stretch.{Stretch}
use Rattle.lists.specs.Lists.{when◌then◌else◌}
use Rattle.workspace.specs.Rules.{none}

-- the place of the first stretch that passes the test; the number of places where none does
abbrev pub place_of : (Stretch → Bool) → List Stretch → ℕ
place_of f [] = 0
place_of f (s ∷ ss) = when f s then 0 else suc (place_of f ss)

-- starts at n
abbrev pub has_start : ℕ → Stretch → Bool
has_start n s = s.start == n

-- starts behind n
abbrev pub is_behind : ℕ → Stretch → Bool
is_behind n s = nat_lt n s.start

-- has n units
abbrev pub has_units : ℕ → Stretch → Bool
has_units n s = nat_le n s.length

-- the place p is taken out, those behind it move up, and the last is unused
abbrev pub remove_at : ℕ → List Stretch → List Stretch
remove_at p [] = []
remove_at zero (x ∷ xs) = xs ++ none ∷ []
remove_at (suc p) (x ∷ xs) = x ∷ remove_at p xs

-- x is put in at the place p, those from p on move down, and the last is left out
abbrev pub insert_at : ℕ → Stretch → List Stretch → List Stretch
insert_at p x [] = []
insert_at zero x (y ∷ ys) = x ∷ insert_at zero y ys
insert_at (suc p) x (y ∷ ys) = y ∷ insert_at p x ys
