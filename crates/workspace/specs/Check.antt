-- The check of the rules that the code makes: one pass over both tables. No public contract cites this.
use Rattle.std.specs.Prelude.{ℕ, zero, suc, ◌+◌, Bool, true, false, not, ◌&&◌, List, [], ◌∷◌, ◌==◌, nat_lt, Option, Some, None}
use Rattle.workspace.specs.declared.Stretch.{Stretch}
use Rattle.workspace.specs.declared.Reach.{Reach}
use Rattle.lists.specs.Lists.{when◌then◌else◌}
use Rattle.workspace.specs.Rules.{units}

-- a stretch begins at a, and is not empty
abbrev pub begins_at : ℕ → Stretch → Bool
begins_at a s = s.start == a && nat_lt 0 s.length

-- the first of the list does
abbrev pub begins : ℕ → List Stretch → Bool
begins a [] = false
begins a (s ∷ ss) = begins_at a s

-- nothing is left at the end of the area
abbrev pub ends : ℕ → List Stretch → List Stretch → Bool
ends a [] [] = a == units
ends a [] (f ∷ fs) = false
ends a (b ∷ bs) fs = false

-- the length of the first
abbrev pub first : List Stretch → ℕ
first [] = 0
first (s ∷ ss) = s.length

-- those behind the first
abbrev pub rest : List Stretch → List Stretch
rest [] = []
rest (s ∷ ss) = ss

-- from unit a on: whichever table's first stretch begins there is passed, but no free one right behind a free one (k bounds the number of stretches)
abbrev pub tiled : ℕ → Bool → ℕ → List Stretch → List Stretch → Bool
tiled zero after a bs fs = false
tiled (suc k) after a bs fs =
    when begins a bs then tiled k false (a + first bs) (rest bs) fs
    else (when not after && begins a fs then tiled k true (a + first fs) bs (rest fs)
    else ends a bs fs)

-- one stretch further, x in the table of blocks or y in the table of free stretches; none where neither begins there
abbrev pub reach_of : Reach → Stretch → Stretch → Option Reach
reach_of t x y =
    when begins_at t.at x then Some (record { at = t.at + x.length; i = t.i + 1; j = t.j; after = false })
    else (when not t.after && begins_at t.at y then Some (record { at = t.at + y.length; i = t.i; j = t.j + 1; after = true })
    else None)
