-- A request on pieces: n units off the front of the first spare piece that is long enough. It keeps the rules.
-- Assumes nothing.
use Rattle.std.proofs.Common.{◌≡◌, ℕ, ◌+◌, ◌-◌, ◌<◌, ◌≤◌, Bool, true, false, eqb, leb, List, [], ◌∷◌, sym, refl, ap, ◌∙◌, subst, true≢false, le_refl, lt_of_lt_of_le, eq-or-lt_of_le, arith, le-ltb, lt-ltb, eqb-true, leb-true}
use borrow.Author.Tests.{eqb-false}
use Rattle.workspace.specs.declared.Stretch.{Stretch}
use Rattle.lists.specs.Lists.{when◌then◌else◌}
use Rattle.workspace.specs.Rules.{stretch}
use Rattle.workspace.specs.Operations.{placed, fits, fit_start, cut}
use Rattle.lists.proofs.Tests.{ways}
use Rattle.lists.proofs.ListLaws.{by_bool}
use Rattle.workspace.proofs.Pieces.{Piece, taken, spare, blocks_from, free_from, measure, Good, Sound, Within, blocks_within}

-- ---- a request: n units off the front of the first spare piece that is long enough
pub given : ℕ → List Piece → List Piece
given n [] = []
given n (taken m ∷ ps) = taken m ∷ given n ps
given n (spare m ∷ ps) = when leb n m then (when eqb n m then taken n ∷ ps else taken n ∷ spare (m - n) ∷ ps) else spare m ∷ given n ps

pub given_free : (n a : ℕ) (ps : List Piece) → free_from a (given n ps) ≡ cut n (free_from a ps)
unfolding given
given_free n a [] = refl
given_free n a (taken m ∷ ps) = given_free n (a + m) ps
given_free n a (spare m ∷ ps) =
    by_bool (leb n m)
    (λ e. by_bool (eqb n m)
    (λ s. let t : n ≡ m = eqb-true n m s in rw (e, s) (ap (λ (k : ℕ). free_from (a + k) ps) t))
    (λ s. let le : n ≤ m = leb-true n m e in let t : a + n + (m - n) ≡ a + m = omega (arith, le) in rw (e, s) (ap (λ (k : ℕ). stretch (a + n) (m - n) ∷ free_from k ps) t)))
    (λ e. rw e (ap (λ (l : List Stretch). stretch a m ∷ l) (given_free n (a + m) ps)))

pub given_measure : (n : ℕ) (ps : List Piece) → measure (given n ps) ≡ measure ps
unfolding given
given_measure n [] = refl
given_measure n (taken m ∷ ps) = ap (λ (k : ℕ). m + k) (given_measure n ps)
given_measure n (spare m ∷ ps) =
    by_bool (leb n m)
    (λ e. by_bool (eqb n m)
    (λ s. let t : n ≡ m = eqb-true n m s in rw (e, s) (ap (λ (k : ℕ). k + measure ps) t))
    (λ s. let le : n ≤ m = leb-true n m e in rw (e, s) (omega (arith, le))))
    (λ e. rw e (ap (λ (k : ℕ). m + k) (given_measure n ps)))

less : (n m : ℕ) → n ≤ m → eqb n m ≡ false → 0 < m - n
less n m h s = let d : n ≡ m → ⊥ = eqb-false n m s in ways (eq-or-lt_of_le h) (λ e. absurd (d e)) (λ l. omega (arith, l))

pub given_good : (n : ℕ) (after : Bool) (ps : List Piece) → 0 < n → Good after ps → Good after (given n ps)
unfolding given
given_good n after [] h g = tt
given_good n after (taken m ∷ ps) h g = (g.0, given_good n false ps h g.1)
given_good n after (spare m ∷ ps) h g =
    by_bool (leb n m)
    (λ e. by_bool (eqb n m)
    (λ s. rw (e, s) (h, good_behind ps g.2))
    (λ s. rw (e, s) (h, (less n m (leb-true n m e) s, refl, g.2))))
    (λ e. rw e (g.0, g.1, given_good n true ps h g.2))
  where
    -- pieces that are good behind a free one are good behind a block
    good_behind : (qs : List Piece) → Good true qs → Good false qs
    good_behind [] u = tt
    good_behind (taken k ∷ qs) u = u
    good_behind (spare k ∷ qs) u = absurd (true≢false u.1)

-- ---- the blocks of a request
fit_from : (n a : ℕ) (ps : List Piece) → fits n (free_from a ps) ≡ true → a ≤ fit_start n (free_from a ps)
fit_from n a [] e = absurd (true≢false (sym e))
fit_from n a (taken m ∷ ps) e = let ih : a + m ≤ fit_start n (free_from (a + m) ps) = fit_from n (a + m) ps e in omega (arith, ih)
fit_from n a (spare m ∷ ps) e =
    by_bool (leb n m)
    (λ f. rw f (le_refl a))
    (λ f. rw f (let k : fits n (free_from (a + m) ps) ≡ true = rw f at e in let ih : a + m ≤ fit_start n (free_from (a + m) ps) = fit_from n (a + m) ps k in omega (arith, ih)))

-- a stretch before all others is placed in front
in_front : (s : Stretch) (a e : ℕ) (l : List Stretch) → s.start < a → Within a e l → placed s l ≡ s ∷ l
in_front s a e [] h w = refl
in_front s a e (c ∷ cs) h w = rw (lt-ltb s.start c.start (lt_of_lt_of_le h w.0.0)) refl

pub given_blocks : (n a : ℕ) (after : Bool) (ps : List Piece) → Good after ps → fits n (free_from a ps) ≡ true → blocks_from a (given n ps) ≡ placed (stretch (fit_start n (free_from a ps)) n) (blocks_from a ps)
unfolding given
given_blocks n a after [] g e = absurd (true≢false (sym e))
given_blocks n a after (taken m ∷ ps) g e =
    let ih : blocks_from (a + m) (given n ps) ≡ placed (stretch (fit_start n (free_from (a + m) ps)) n) (blocks_from (a + m) ps) = given_blocks n (a + m) false ps g.1 e in
    let k : a + m ≤ fit_start n (free_from (a + m) ps) = fit_from n (a + m) ps e in
    rw (le-ltb (fit_start n (free_from (a + m) ps)) a (omega (arith, k))) (ap (λ (l : List Stretch). stretch a m ∷ l) ih)
given_blocks n a after (spare m ∷ ps) g e =
    by_bool (leb n m)
    (λ f. by_bool (eqb n m)
    (λ s. let t : n ≡ m = eqb-true n m s in rw (f, s) (ap (λ (k : ℕ). stretch a n ∷ blocks_from (a + k) ps) t ∙ sym (in_front (stretch a n) (a + m) (a + m + measure ps) (blocks_from (a + m) ps) (let h : 0 < m = g.0 in omega (arith, h)) (blocks_within (a + m) ps))))
    (λ s. let le : n ≤ m = leb-true n m f in let t : a + n + (m - n) ≡ a + m = omega (arith, le) in
    rw (f, s) (ap (λ (k : ℕ). stretch a n ∷ blocks_from k ps) t ∙ sym (in_front (stretch a n) (a + m) (a + m + measure ps) (blocks_from (a + m) ps) (let h : 0 < m = g.0 in omega (arith, h)) (blocks_within (a + m) ps)))))
    (λ f. let k : fits n (free_from (a + m) ps) ≡ true = rw f at e in rw f (given_blocks n (a + m) true ps g.2 k))

-- a request that is granted keeps the rules
pub request_sound : (n : ℕ) (bs fs : List Stretch) → 0 < n → fits n fs ≡ true → Sound bs fs → Sound (placed (stretch (fit_start n fs) n) bs) (cut n fs)
request_sound n bs fs h e s = record {
  pieces = given n s.pieces;
  are_blocks = (λ i. placed (stretch (fit_start n (s.are_free i)) n) (s.are_blocks i)) ∙ sym (given_blocks n 0 false s.pieces s.good (subst (λ (l : List Stretch). fits n l ≡ true) s.are_free e));
  are_free = ap (cut n) s.are_free ∙ sym (given_free n 0 s.pieces);
  fill = given_measure n s.pieces ∙ s.fill;
  good = given_good n false s.pieces h s.good;
}
