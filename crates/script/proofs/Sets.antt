-- The text of an open set that is not empty: one table of all 255 sets, computed once.
-- Assumes nothing.
use Prim.Native.Nat.{ℕ, ◌≤◌, ◌<◌}
use mathlib.Core.Path.{◌≡◌, refl, ap}
use mathlib.Core.Bool.{Bool, true, not, ◌&&◌}
use mathlib.Core.List.{List, [], ◌∷◌}
use native.Mathlib.Omega.{arith}
use lib.Dec.{eqb, leb, ltb}
use lib.ListN.{length}
use borrow.Author.Tests.{eqb-true, eqb-false, leb-true, ltb-true, not-true}
use Rattle.lists.specs.Lists.{first, every, down_from}
use Rattle.lists.proofs.ListLaws.{down_at}
use Rattle.lists.proofs.Tests.{each, and_first, and_second}
use Rattle.script.specs.CallText.{entries}
use Rattle.script.specs.Guess.{fresh}
use Rattle.script.proofs.Digits.{AllPlain, grow_all}

-- a text without its first byte
abbrev pub tail : List ℕ → List ℕ
tail [] = []
tail (x ∷ l) = l

-- a digit or a comma, as a test
abbrev listed : ℕ → Bool
listed b = leb 44 b && leb b 57 && not (eqb b 45)

-- a blank first, then digits and commas; it is short, and its bits are the set
abbrev neat : ℕ → Bool
neat k =
    eqb (first (entries 8 49 32 k)) 32 && every listed (tail (entries 8 49 32 k)) && ltb 0 (length (tail (entries 8 49 32 k)))
    && leb (length (entries 8 49 32 k)) 16 && eqb (grow_all fresh (tail (entries 8 49 32 k))).set k

all_neat : every neat (down_from 255) ≡ true
unfolding entries
all_neat = refl

listed_plain : (l : List ℕ) → every listed l ≡ true → AllPlain l
listed_plain [] e = tt
listed_plain (b ∷ l) e =
    let p = each (leb 44 b) (leb b 57 ∷ not (eqb b 45) ∷ []) (and_first (listed b) (every listed l) e) in
    (record { low = leb-true 44 b (p 0); high = leb-true b 57 (p 1); no_minus = eqb-false b 45 (not-true (eqb b 45) (p 2)) }, listed_plain l (and_second (listed b) (every listed l) e))

split : (l : List ℕ) → first l ≡ 32 → l ≡ 32 ∷ tail l
split [] e = let z : ◌≡◌ {A = ℕ} 0 32 = e in absurd (omega arith)
split (x ∷ l) e = ap (λ (b : ℕ). b ∷ l) e

-- the text of a set: a blank, and a word of digits and commas whose bits are the set
pub record SetText (k : ℕ) : Type 0 where
  pub blank : entries 8 49 32 k ≡ 32 ∷ tail (entries 8 49 32 k)
  pub plain : AllPlain (tail (entries 8 49 32 k))
  pub some : 0 < length (tail (entries 8 49 32 k))
  pub short : length (entries 8 49 32 k) ≤ 16
  pub back : (grow_all fresh (tail (entries 8 49 32 k))).set ≡ k

pub set_text : (k : ℕ) → 0 < k → k < 256 → SetText k
set_text k h g =
    let l = entries 8 49 32 k in
    let p = each (eqb (first l) 32) (every listed (tail l) ∷ ltb 0 (length (tail l)) ∷ leb (length l) 16 ∷ eqb (grow_all fresh (tail l)).set k ∷ []) (down_at neat 255 all_neat k h (omega arith)) in
    record {
      blank = split l (eqb-true (first l) 32 (p 0));
      plain = listed_plain (tail l) (p 1);
      some = ltb-true 0 (length (tail l)) (p 2);
      short = leb-true (length l) 16 (p 3);
      back = eqb-true (grow_all fresh (tail l)).set k (p 4);
    }
