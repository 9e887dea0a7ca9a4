-- An area as pieces that lie end to end: the form of the rules that the proofs use. `Words.antt` shows that it is the rules.
-- Assumes nothing.
use Rattle.std.proofs.Common.{◌≡◌, ℕ, ◌+◌, ◌<◌, ◌≤◌, Bool, true, false, List, [], ◌∷◌, length, refl, ap, subst, true≢false, le_trans, arith}
use Rattle.lists.specs.Lists.{bit}
use Rattle.workspace.specs.declared.Stretch.{Stretch}
use Rattle.workspace.specs.Rules.{units, stretch, end, total}

-- a block or a free stretch, by its length
pub data Piece : Type 0 where
  taken : ℕ → Piece
  spare : ℕ → Piece

-- the blocks and the free stretches of the pieces that lie from a on
abbrev pub blocks_from : ℕ → List Piece → List Stretch
blocks_from a [] = []
blocks_from a (taken n ∷ ps) = stretch a n ∷ blocks_from (a + n) ps
blocks_from a (spare n ∷ ps) = blocks_from (a + n) ps

abbrev pub free_from : ℕ → List Piece → List Stretch
free_from a [] = []
free_from a (taken n ∷ ps) = free_from (a + n) ps
free_from a (spare n ∷ ps) = stretch a n ∷ free_from (a + n) ps

-- the units of the pieces
abbrev pub measure : List Piece → ℕ
measure [] = 0
measure (taken n ∷ ps) = n + measure ps
measure (spare n ∷ ps) = n + measure ps

-- lengths are above 0, and no free piece follows a free one (after says whether the piece before is free)
abbrev pub Good : Bool → List Piece → Type 0
Good after [] = Unit {0}
Good after (taken n ∷ ps) = (0 < n) × Good false ps
Good after (spare n ∷ ps) = (0 < n) × (after ≡ false) × Good true ps

-- the blocks and the free stretches are the pieces of one area
pub record Sound (blocks free : List Stretch) : Type 0 where
  pub pieces : List Piece
  pub are_blocks : blocks ≡ blocks_from 0 pieces
  pub are_free : free ≡ free_from 0 pieces
  pub fill : measure pieces ≡ units
  pub good : Good false pieces

-- each lies from a to e
abbrev pub Within : ℕ → ℕ → List Stretch → Type 0
Within a e [] = Unit {0}
Within a e (s ∷ ss) = ((a ≤ s.start) × (end s ≤ e)) × Within a e ss

-- "their lengths always add up to the area"
pub adds_up : (a : ℕ) (ps : List Piece) → total (blocks_from a ps) + total (free_from a ps) ≡ measure ps
adds_up a [] = omega arith
adds_up a (taken n ∷ ps) = let ih : total (blocks_from (a + n) ps) + total (free_from (a + n) ps) ≡ measure ps = adds_up (a + n) ps in omega (arith, ih)
adds_up a (spare n ∷ ps) = let ih : total (blocks_from (a + n) ps) + total (free_from (a + n) ps) ≡ measure ps = adds_up (a + n) ps in omega (arith, ih)

-- there is at most one free stretch more than there are blocks
one_more : (after : Bool) (a : ℕ) (ps : List Piece) → Good after ps → length (free_from a ps) + bit after ≤ length (blocks_from a ps) + 1
one_more true a [] g = omega arith
one_more false a [] g = omega arith
one_more true a (taken n ∷ ps) g = let ih : length (free_from (a + n) ps) + 0 ≤ length (blocks_from (a + n) ps) + 1 = one_more false (a + n) ps g.1 in omega (arith, ih)
one_more false a (taken n ∷ ps) g = let ih : length (free_from (a + n) ps) + 0 ≤ length (blocks_from (a + n) ps) + 1 = one_more false (a + n) ps g.1 in omega (arith, ih)
one_more true a (spare n ∷ ps) g = absurd (true≢false g.1)
one_more false a (spare n ∷ ps) g = let ih : length (free_from (a + n) ps) + 1 ≤ length (blocks_from (a + n) ps) + 1 = one_more true (a + n) ps g.2 in omega (arith, ih)

-- "Show that 32 stretches suffice"
pub suffice : (bs fs : List Stretch) → Sound bs fs → length bs ≤ 31 → length fs ≤ 32
suffice bs fs s h =
    let m : length (free_from 0 s.pieces) + 0 ≤ length (blocks_from 0 s.pieces) + 1 = one_more false 0 s.pieces s.good in
    let b : length bs ≡ length (blocks_from 0 s.pieces) = ap length s.are_blocks in
    let f : length fs ≡ length (free_from 0 s.pieces) = ap length s.are_free in
    omega (arith, m, b, f, h)

-- "blocks and stretches lie inside the area": each lies between a and the end of the pieces
pub wider : (a b e : ℕ) (l : List Stretch) → b ≤ a → Within a e l → Within b e l
wider a b e [] h w = tt
wider a b e (s ∷ ss) h w = ((le_trans h w.0.0, w.0.1), wider a b e ss h w.1)

pub blocks_within : (a : ℕ) (ps : List Piece) → Within a (a + measure ps) (blocks_from a ps)
blocks_within a [] = tt
blocks_within a (taken n ∷ ps) = ((omega arith, omega arith), wider (a + n) a (a + (n + measure ps)) (blocks_from (a + n) ps) (omega arith) (subst (λ (e : ℕ). Within (a + n) e (blocks_from (a + n) ps)) (omega arith) (blocks_within (a + n) ps)))
blocks_within a (spare n ∷ ps) = wider (a + n) a (a + (n + measure ps)) (blocks_from (a + n) ps) (omega arith) (subst (λ (e : ℕ). Within (a + n) e (blocks_from (a + n) ps)) (omega arith) (blocks_within (a + n) ps))

pub free_within : (a : ℕ) (ps : List Piece) → Within a (a + measure ps) (free_from a ps)
free_within a [] = tt
free_within a (spare n ∷ ps) = ((omega arith, omega arith), wider (a + n) a (a + (n + measure ps)) (free_from (a + n) ps) (omega arith) (subst (λ (e : ℕ). Within (a + n) e (free_from (a + n) ps)) (omega arith) (free_within (a + n) ps)))
free_within a (taken n ∷ ps) = wider (a + n) a (a + (n + measure ps)) (free_from (a + n) ps) (omega arith) (subst (λ (e : ℕ). Within (a + n) e (free_from (a + n) ps)) (omega arith) (free_within (a + n) ps))

-- "A fresh area is one free stretch"
pub fresh_sound : Sound [] (stretch 0 units ∷ [])
fresh_sound = record { pieces = spare units ∷ []; are_blocks = refl; are_free = refl; fill = refl; good = (omega arith, refl, tt) }
