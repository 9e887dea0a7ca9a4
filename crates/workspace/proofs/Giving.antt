-- A release on pieces: a taken piece becomes spare, and is merged with spare neighbours. It keeps the rules.
-- Assumes nothing.
use Rattle.std.proofs.Common.{◌≡◌, ℕ, ◌+◌, ◌<◌, ◌≤◌, Bool, true, false, eqb, List, [], ◌∷◌, sym, refl, ap, ◌∙◌, subst, true≢false, arith, le-ltb, lt-ltb, eq-eqb, ne_eqb, eqb-true}
use Rattle.workspace.specs.declared.Stretch.{Stretch}
use Rattle.lists.specs.Lists.{when◌then◌else◌}
use Rattle.workspace.specs.Rules.{stretch, end}
use Rattle.workspace.specs.Operations.{starts_at, length_at, without, joined}
use Rattle.lists.proofs.Tests.{no}
use Rattle.lists.proofs.ListLaws.{by_bool}
use Rattle.workspace.proofs.Pieces.{Piece, taken, spare, blocks_from, free_from, measure, Good, Sound, Within, free_within}

-- ---- a release: the piece that starts at c becomes free, and free neighbours are joined
pub flipped : ℕ → ℕ → List Piece → List Piece
flipped c a [] = []
flipped c a (taken n ∷ ps) = when eqb a c then spare n ∷ ps else taken n ∷ flipped c (a + n) ps
flipped c a (spare n ∷ ps) = spare n ∷ flipped c (a + n) ps

ahead : ℕ → List Piece → List Piece
ahead n [] = spare n ∷ []
ahead n (taken m ∷ ps) = spare n ∷ taken m ∷ ps
ahead n (spare m ∷ ps) = spare (n + m) ∷ ps

pub merged : List Piece → List Piece
merged [] = []
merged (taken n ∷ ps) = taken n ∷ merged ps
merged (spare n ∷ ps) = ahead n (merged ps)

ahead_measure : (n : ℕ) (ps : List Piece) → measure (ahead n ps) ≡ n + measure ps
unfolding ahead
ahead_measure n [] = refl
ahead_measure n (taken m ∷ ps) = refl
ahead_measure n (spare m ∷ ps) = omega arith

merged_measure : (ps : List Piece) → measure (merged ps) ≡ measure ps
unfolding merged
merged_measure [] = refl
merged_measure (taken n ∷ ps) = ap (λ (k : ℕ). n + k) (merged_measure ps)
merged_measure (spare n ∷ ps) = ahead_measure n (merged ps) ∙ ap (λ (k : ℕ). n + k) (merged_measure ps)

flipped_measure : (c a : ℕ) (ps : List Piece) → measure (flipped c a ps) ≡ measure ps
unfolding flipped
flipped_measure c a [] = refl
flipped_measure c a (taken n ∷ ps) = by_bool (eqb a c) (λ e. rw e refl) (λ e. rw e (ap (λ (k : ℕ). n + k) (flipped_measure c (a + n) ps)))
flipped_measure c a (spare n ∷ ps) = ap (λ (k : ℕ). n + k) (flipped_measure c (a + n) ps)

ahead_blocks : (n a : ℕ) (ps : List Piece) → blocks_from a (ahead n ps) ≡ blocks_from (a + n) ps
unfolding ahead
ahead_blocks n a [] = refl
ahead_blocks n a (taken m ∷ ps) = refl
ahead_blocks n a (spare m ∷ ps) = ap (λ (k : ℕ). blocks_from k ps) (let e : a + (n + m) ≡ a + n + m = omega arith in e)

merged_blocks : (a : ℕ) (ps : List Piece) → blocks_from a (merged ps) ≡ blocks_from a ps
unfolding merged
merged_blocks a [] = refl
merged_blocks a (taken n ∷ ps) = ap (λ (l : List Stretch). stretch a n ∷ l) (merged_blocks (a + n) ps)
merged_blocks a (spare n ∷ ps) = ahead_blocks n a (merged ps) ∙ merged_blocks (a + n) ps

flipped_blocks : (c a : ℕ) (ps : List Piece) → blocks_from a (flipped c a ps) ≡ without c (blocks_from a ps)
unfolding flipped
flipped_blocks c a [] = refl
flipped_blocks c a (taken n ∷ ps) = by_bool (eqb a c) (λ e. rw e refl) (λ e. rw e (ap (λ (l : List Stretch). stretch a n ∷ l) (flipped_blocks c (a + n) ps)))
flipped_blocks c a (spare n ∷ ps) = flipped_blocks c (a + n) ps

-- all lengths are above 0
abbrev Long : List Piece → Type 0
Long [] = Unit {0}
Long (taken n ∷ ps) = (0 < n) × Long ps
Long (spare n ∷ ps) = (0 < n) × Long ps

good_long : (after : Bool) (ps : List Piece) → Good after ps → Long ps
good_long after [] g = tt
good_long after (taken n ∷ ps) g = (g.0, good_long false ps g.1)
good_long after (spare n ∷ ps) g = (g.0, good_long true ps g.2)

flipped_long : (c a : ℕ) (ps : List Piece) → Long ps → Long (flipped c a ps)
unfolding flipped
flipped_long c a [] g = tt
flipped_long c a (taken n ∷ ps) g = by_bool (eqb a c) (λ e. rw e g) (λ e. rw e (g.0, flipped_long c (a + n) ps g.1))
flipped_long c a (spare n ∷ ps) g = (g.0, flipped_long c (a + n) ps g.1)

ahead_good : (n : ℕ) (ps : List Piece) → 0 < n → Good false ps → Good false (ahead n ps)
unfolding ahead
ahead_good n [] h g = (h, refl, tt)
ahead_good n (taken m ∷ ps) h g = (h, refl, g)
ahead_good n (spare m ∷ ps) h g = (let k : 0 < m = g.0 in omega (arith, k), refl, g.2)

merged_good : (ps : List Piece) → Long ps → Good false (merged ps)
unfolding merged
merged_good [] g = tt
merged_good (taken n ∷ ps) g = (g.0, merged_good ps g.1)
merged_good (spare n ∷ ps) g = ahead_good n (merged ps) g.0 (merged_good ps g.1)

-- good pieces are merged already
merged_same : (after : Bool) (ps : List Piece) → Good after ps → merged ps ≡ ps
unfolding merged ahead
merged_same after [] g = refl
merged_same after (taken n ∷ ps) g = ap (λ (l : List Piece). taken n ∷ l) (merged_same false ps g.1)
merged_same after (spare n ∷ []) g = refl
merged_same after (spare n ∷ taken m ∷ ps) g = ap (λ (l : List Piece). spare n ∷ taken m ∷ l) (merged_same false ps g.2.1)
merged_same after (spare n ∷ spare m ∷ ps) g = absurd (true≢false g.2.1)

-- a stretch that ends before all others start is joined with none
joins_none : (b : Stretch) (a e : ℕ) (l : List Stretch) → 0 < b.length → end b < a → Within a e l → joined b l ≡ b ∷ l
joins_none b a e [] p h w = refl
joins_none b a e (f ∷ fs) p h w =
    let s : a ≤ f.start = w.0.0 in
    rw (ne_eqb (end f) b.start (λ q. no (omega (arith, q, s, h, p))), ne_eqb (end b) f.start (λ q. no (omega (arith, q, s, h))), lt-ltb b.start f.start (omega (arith, s, h))) refl

-- the piece that becomes free, with what is behind it
ahead_free : (n a : ℕ) (ps : List Piece) → 0 < n → Good false ps → free_from a (ahead n ps) ≡ joined (stretch a n) (free_from (a + n) ps)
unfolding ahead
ahead_free n a [] h g = refl
ahead_free n a (taken m ∷ ps) h g = sym (joins_none (stretch a n) (a + n + m) (a + n + m + measure ps) (free_from (a + n + m) ps) h (let k : 0 < m = g.0 in omega (arith, k)) (free_within (a + n + m) ps))
ahead_free n a (spare m ∷ ps) h g =
    rw (ne_eqb (a + n + m) a (λ q. no (omega (arith, q, h))), eq-eqb (a + n) (a + n) refl) (ap (λ (k : ℕ). stretch a (n + m) ∷ free_from k ps) (let e : a + (n + m) ≡ a + n + m = omega arith in e))

starts_from : (c a : ℕ) (ps : List Piece) → starts_at c (blocks_from a ps) ≡ true → a ≤ c
starts_from c a [] e = absurd (true≢false (sym e))
starts_from c a (taken n ∷ ps) e = by_bool (eqb a c) (λ f. let q : a ≡ c = eqb-true a c f in omega (arith, q)) (λ f. let k : starts_at c (blocks_from (a + n) ps) ≡ true = rw f at e in let ih : a + n ≤ c = starts_from c (a + n) ps k in omega (arith, ih))
starts_from c a (spare n ∷ ps) e = let ih : a + n ≤ c = starts_from c (a + n) ps e in omega (arith, ih)

ahead_ahead : (n k : ℕ) (ps : List Piece) → ahead n (ahead k ps) ≡ ahead (n + k) ps
unfolding ahead
ahead_ahead n k [] = refl
ahead_ahead n k (taken m ∷ ps) = refl
ahead_ahead n k (spare m ∷ ps) = ap (λ (j : ℕ). spare j ∷ ps) (let e : n + (k + m) ≡ n + k + m = omega arith in e)

pub freed : (c a : ℕ) (after : Bool) (ps : List Piece) → Good after ps → starts_at c (blocks_from a ps) ≡ true → free_from a (merged (flipped c a ps)) ≡ joined (stretch c (length_at c (blocks_from a ps))) (free_from a ps)
unfolding merged flipped ahead
freed c a after [] g e = absurd (true≢false (sym e))
freed c a after (taken n ∷ ps) g e =
    by_bool (eqb a c)
    (λ f. let q : a ≡ c = eqb-true a c f in rw f (rw (merged_same false ps g.1) (ahead_free n a ps g.0 g.1 ∙ ap (λ (k : ℕ). joined (stretch k n) (free_from (a + n) ps)) q)))
    (λ f. let k : starts_at c (blocks_from (a + n) ps) ≡ true = rw f at e in rw f (freed c (a + n) false ps g.1 k))
freed c a after (spare n ∷ []) g e = absurd (true≢false (sym e))
freed c a after (spare n ∷ spare m ∷ ps) g e = absurd (true≢false g.2.1)
freed c a after (spare n ∷ taken m ∷ ps) g e =
    by_bool (eqb (a + n) c)
    (λ f.
    let q : a + n ≡ c = eqb-true (a + n) c f in
    let r : a + (n + m) ≡ a + n + m = omega arith in
    rw f (rw (merged_same false ps g.2.1, ahead_ahead n m ps) (ahead_free (n + m) a ps (let h : 0 < n = g.0 in omega (arith, h)) g.2.1 ∙ ap (λ (k : ℕ). joined (stretch a (n + m)) (free_from k ps)) r)))
    (λ f.
    let k : starts_at c (blocks_from (a + n + m) ps) ≡ true = rw f at e in
    let h : a + n + m ≤ c = starts_from c (a + n + m) ps k in
    let p : 0 < n = g.0 in
    let ih : free_from (a + n + m) (merged (flipped c (a + n + m) ps)) ≡ joined (stretch c (length_at c (blocks_from (a + n + m) ps))) (free_from (a + n + m) ps) = freed c (a + n + m) false ps g.2.1 k in
    rw f (rw (ne_eqb (c + length_at c (blocks_from (a + n + m) ps)) a (λ q. no (omega (arith, q, h, p))), le-ltb c a (omega (arith, h))) (ap (λ (l : List Stretch). stretch a n ∷ l) ih)))

-- a release that is granted keeps the rules
pub release_sound : (c : ℕ) (bs fs : List Stretch) → starts_at c bs ≡ true → Sound bs fs → Sound (without c bs) (joined (stretch c (length_at c bs)) fs)
release_sound c bs fs e s = record {
  pieces = merged (flipped c 0 s.pieces);
  are_blocks = ap (without c) s.are_blocks ∙ sym (flipped_blocks c 0 s.pieces) ∙ sym (merged_blocks 0 (flipped c 0 s.pieces));
  are_free = (λ i. joined (stretch c (length_at c (s.are_blocks i))) (s.are_free i)) ∙ sym (freed c 0 false s.pieces s.good (subst (λ (l : List Stretch). starts_at c l ≡ true) s.are_blocks e));
  fill = merged_measure (flipped c 0 s.pieces) ∙ flipped_measure c 0 s.pieces ∙ s.fill;
  good = merged_good (flipped c 0 s.pieces) (flipped_long c 0 s.pieces (good_long false s.pieces s.good));
}
