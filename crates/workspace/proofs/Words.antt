-- The rules in the words of the request hold exactly of the blocks and the free stretches that are the pieces of one area.
--     kept-sound       by counting: the stretches cannot overlap and their lengths add up to the area, so the next one always starts where the last one ends
--     sound-kept       piece by piece
-- Assumes nothing.
use Rattle.std.proofs.Common.{◌≡◌, ℕ, zero, suc, ◌+◌, ◌<◌, ◌≤◌, Bool, true, false, ◌||◌, eqb, leb, ◌⊎◌, List, [], ◌∷◌, ◌++◌, length, sym, refl, ◌∙◌, inl, inr, true≢false, le_trans, le_refl, arith, ltb-true, lt-ltb, eq-eqb, ne_eqb, eqb-true, le-leb, leb-false, leb-true}
use borrow.Author.Tests.{eqb-false, not-true}
use Rattle.workspace.specs.declared.Stretch.{Stretch}
use Rattle.lists.specs.Lists.{every, in_order_by, bit}
use Rattle.workspace.specs.Rules.{units, stretch, end, total, is_before, is_long, is_inside, is_apart, is_loose, is_kept}
use Rattle.lists.proofs.Tests.{ways, no, each, and_first, and_second, and_both as both, or_first, or_left, or_right}
use Rattle.lists.proofs.ListLaws.{by_bool}
use Rattle.workspace.proofs.Pieces.{Piece, taken, spare, blocks_from, free_from, measure, Good, Sound, Within, adds_up, wider, blocks_within, free_within}
use Rattle.workspace.proofs.CheckLaws.{Cut}

-- ---- tests of lists
abbrev pub All : (Stretch → Bool) → List Stretch → Type 0
All p l = every p l ≡ true

-- a test that follows from three
follows : (p q r w : Stretch → Bool) → ((t : Stretch) → p t ≡ true → q t ≡ true → r t ≡ true → w t ≡ true) → (l : List Stretch) → All p l → All q l → All r l → All w l
follows p q r w f [] a b c = refl
follows p q r w f (x ∷ xs) a b c = both (f x (and_first _ _ a) (and_first _ _ b) (and_first _ _ c)) (follows p q r w f xs (and_second (p x) _ a) (and_second (q x) _ b) (and_second (r x) _ c))

-- ---- two lists as one
pub all_left : (p : Stretch → Bool) (l m : List Stretch) → All p (l ++ m) → All p l
all_left p [] m e = refl
all_left p (x ∷ xs) m e = both (and_first (p x) _ e) (all_left p xs m (and_second (p x) _ e))

pub all_right : (p : Stretch → Bool) (l m : List Stretch) → All p (l ++ m) → All p m
all_right p [] m e = e
all_right p (x ∷ xs) m e = all_right p xs m (and_second (p x) _ e)

all_join : (p : Stretch → Bool) (l m : List Stretch) → All p l → All p m → All p (l ++ m)
all_join p [] m e f = f
all_join p (x ∷ xs) m e f = both (and_first (p x) _ e) (all_join p xs m (and_second (p x) _ e) f)

-- each of the first list passes with each of the second
abbrev pub across : (Stretch → Stretch → Bool) → List Stretch → List Stretch → Bool
across p l m = every (λ (x : Stretch). every (p x) m) l

pairs_left : (p : Stretch → Stretch → Bool) (l m : List Stretch) → in_order_by p (l ++ m) ≡ true → in_order_by p l ≡ true
pairs_left p [] m e = refl
pairs_left p (x ∷ xs) m e = both (all_left (p x) xs m (and_first _ _ e)) (pairs_left p xs m (and_second (every (p x) (xs ++ m)) _ e))

pairs_right : (p : Stretch → Stretch → Bool) (l m : List Stretch) → in_order_by p (l ++ m) ≡ true → in_order_by p m ≡ true
pairs_right p [] m e = e
pairs_right p (x ∷ xs) m e = pairs_right p xs m (and_second (every (p x) (xs ++ m)) _ e)

pub pairs_across : (p : Stretch → Stretch → Bool) (l m : List Stretch) → in_order_by p (l ++ m) ≡ true → across p l m ≡ true
pairs_across p [] m e = refl
pairs_across p (x ∷ xs) m e = both (all_right (p x) xs m (and_first _ _ e)) (pairs_across p xs m (and_second (every (p x) (xs ++ m)) _ e))

pairs_join : (p : Stretch → Stretch → Bool) (l m : List Stretch) → in_order_by p l ≡ true → in_order_by p m ≡ true → across p l m ≡ true → in_order_by p (l ++ m) ≡ true
pairs_join p [] m e f g = f
pairs_join p (x ∷ xs) m e f g =
    both (all_join (p x) xs m (and_first _ _ e) (and_first _ _ g)) (pairs_join p xs m (and_second (every (p x) xs) _ e) f (and_second (every (p x) m) _ g))

total_join : (l m : List Stretch) → total (l ++ m) ≡ total l + total m
total_join [] m = omega arith
total_join (x ∷ xs) m = let ih : total (xs ++ m) ≡ total xs + total m = total_join xs m in omega (arith, ih)

-- ---- lists in which each stretch starts g units or more behind the one before
abbrev pub Chain : ℕ → ℕ → List Stretch → Type 0
Chain g a [] = Unit {0}
Chain g a (s ∷ ss) = (a ≤ s.start) × (0 < s.length) × (end s ≤ units) × Chain g (end s + g) ss

lower : (g a b : ℕ) (l : List Stretch) → b ≤ a → Chain g a l → Chain g b l
lower g a b [] h c = tt
lower g a b (s ∷ ss) h c = (le_trans h c.0, c.1, c.2, c.3)

either : (a b : Bool) → a || b ≡ true → (a ≡ true) ⊎ (b ≡ true)
either true b e = inl refl
either false b e = inr e

-- two that never overlap: one ends before the other starts
pub apart_is : (s t : Stretch) → is_apart s t ≡ true → (end s ≤ t.start) ⊎ (end t ≤ s.start)
apart_is s t e = ways (either (leb (end s) t.start) (leb (end t) s.start) e) (λ p. inl (leb-true (end s) t.start p)) (λ p. inr (leb-true (end t) s.start p))

-- two that never overlap, in address order
in_turn : (s t : Stretch) → is_long t ≡ true → is_before s t ≡ true → is_apart s t ≡ true → end s ≤ t.start
in_turn s t l e f =
    let h : s.start < t.start = ltb-true s.start t.start e in
    let k : 0 < t.length = ltb-true 0 t.length l in
    ways (apart_is s t f) (λ p. p) (λ q. no (omega (arith, h, k, q)))

-- t starts g units or more behind s
abbrev behind : ℕ → Stretch → Stretch → Bool
behind g s t = leb (end s + g) t.start

-- a test of pairs that follows from two
pairs_follow : (p q w : Stretch → Stretch → Bool) → ((s t : Stretch) → p s t ≡ true → q s t ≡ true → is_long t ≡ true → w s t ≡ true) → (l : List Stretch) → in_order_by p l ≡ true → in_order_by q l ≡ true → All is_long l → in_order_by w l ≡ true
pairs_follow p q w f [] a b c = refl
pairs_follow p q w f (x ∷ xs) a b c =
    both (follows (p x) (q x) is_long (w x) (f x) xs (and_first _ _ a) (and_first _ _ b) (and_second (is_long x) _ c)) (pairs_follow p q w f xs (and_second (every (p x) xs) _ a) (and_second (every (q x) xs) _ b) (and_second (is_long x) _ c))

in_order : (l : List Stretch) → in_order_by is_before l ≡ true → in_order_by is_apart l ≡ true → All is_long l → in_order_by (behind 0) l ≡ true
in_order l = pairs_follow is_before is_apart (behind 0) (λ s t e f g. let h : end s ≤ t.start = in_turn s t g e f in le-leb (end s + 0) t.start (omega (arith, h))) l

-- two that do not touch
loosely : (s t : Stretch) → behind 0 s t ≡ true → is_loose s t ≡ true → behind 1 s t ≡ true
loosely s t e f =
    let h : end s + 0 ≤ t.start = leb-true (end s + 0) t.start e in
    let d : end s ≡ t.start → ⊥ = eqb-false (end s) t.start (or_first (eqb (end s) t.start) (eqb (end t) s.start) (not-true (eqb (end s) t.start || eqb (end t) s.start) f)) in
    by_bool (leb (end s + 1) t.start) (λ k. k) (λ k. let l : t.start < end s + 1 = leb-false (end s + 1) t.start k in absurd (d (omega (arith, h, l))))

not-touching : (l : List Stretch) → in_order_by (behind 0) l ≡ true → in_order_by is_loose l ≡ true → All is_long l → in_order_by (behind 1) l ≡ true
not-touching l = pairs_follow (behind 0) is_loose (behind 1) (λ s t e f g. loosely s t e f) l

chained : (g a : ℕ) (l : List Stretch) → All (λ (t : Stretch). leb a t.start) l → in_order_by (behind g) l ≡ true → All is_long l → All is_inside l → Chain g a l
chained g a [] st bh lg is = tt
chained g a (s ∷ ss) st bh lg is = (
  leb-true a s.start (and_first _ _ st),
  ltb-true 0 s.length (and_first _ _ lg),
  leb-true (end s) units (and_first _ _ is),
  chained g (end s + g) ss (and_first _ _ bh) (and_second (every (behind g s) ss) _ bh) (and_second (is_long s) _ lg) (and_second (is_inside s) _ is),
)

-- ---- by counting
-- the first block and the first free stretch, whichever comes first
abbrev Cross : List Stretch → List Stretch → Type 0
Cross bs fs = across is_apart bs fs ≡ true

meet : (b f : Stretch) (bs fs : List Stretch) → Cross (b ∷ bs) (f ∷ fs) → (end b ≤ f.start) ⊎ (end f ≤ b.start)
meet b f bs fs x = apart_is b f (and_first (is_apart b f) (every (is_apart b) fs) (and_first (every (is_apart b) (f ∷ fs)) (across is_apart bs (f ∷ fs)) x))

fewer_blocks : (b : Stretch) (bs fs : List Stretch) → Cross (b ∷ bs) fs → Cross bs fs
fewer_blocks b bs fs x = and_second (every (is_apart b) fs) _ x

fewer_free : (f : Stretch) (bs fs : List Stretch) → Cross bs (f ∷ fs) → Cross bs fs
fewer_free f [] fs x = refl
fewer_free f (b ∷ bs) fs x =
    both (and_second (is_apart b f) _ (and_first (every (is_apart b) (f ∷ fs)) _ x)) (fewer_free f bs fs (fewer_blocks b bs (f ∷ fs) x))

-- what lies from a on has room from a to the end of the area
room : (k g a : ℕ) (bs fs : List Stretch) → length bs + length fs ≤ k → a ≤ units → Chain 0 a bs → Chain g a fs → Cross bs fs → a + total bs + total fs ≤ units
room k g a [] [] n h c d x = omega (arith, h)
room zero g a (b ∷ bs) fs n h c d x = no (omega (arith, n))
room zero g a [] (f ∷ fs) n h c d x = no (omega (arith, n))
room (suc k) g a (b ∷ bs) [] n h c d x =
    let i : end b + 0 + total bs + 0 ≤ units = room k g (end b + 0) bs [] (omega (arith, n)) (let q : end b ≤ units = c.2 in omega (arith, q)) c.3 tt (fewer_blocks b bs [] x) in
    let p : a ≤ b.start = c.0 in
    omega (arith, i, p)
room (suc k) g a [] (f ∷ fs) n h c d x =
    let i : end f + 0 + total fs ≤ units = room k g (end f) [] fs (omega (arith, n)) d.2 tt (lower g (end f + g) (end f) fs (omega arith) d.3) refl in
    let p : a ≤ f.start = d.0 in
    omega (arith, i, p)
room (suc k) g a (b ∷ bs) (f ∷ fs) n h c d x = ways (meet b f bs fs x)
    (λ q.
    let i : end b + 0 + total bs + (f.length + total fs) ≤ units = room k g (end b + 0) bs (f ∷ fs) (omega (arith, n)) (let e : end b ≤ units = c.2 in omega (arith, e)) c.3 (omega (arith, q), d.1, d.2, d.3) (fewer_blocks b bs (f ∷ fs) x) in
    let p : a ≤ b.start = c.0 in
    omega (arith, i, p))
    (λ q.
    let i : end f + (b.length + total bs) + total fs ≤ units = room k g (end f) (b ∷ bs) fs (omega (arith, n)) d.2 (q, c.1, c.2, c.3) (lower g (end f + g) (end f) fs (omega arith) d.3) (fewer_free f (b ∷ bs) fs x) in
    let p : a ≤ f.start = d.0 in
    omega (arith, i, p))

-- so what comes first starts at a, where the lengths add up to the area
at_block : (k a : ℕ) (b : Stretch) (bs fs : List Stretch) → length (b ∷ bs) + length fs ≤ k → Chain 0 a (b ∷ bs) → Chain 1 (end b) fs → Cross (b ∷ bs) fs → a + total (b ∷ bs) + total fs ≡ units → a ≡ b.start
at_block k a b bs fs n c d x t =
    let p : a ≤ b.start = c.0 in
    let r : b.start + (b.length + total bs) + total fs ≤ units = room k 1 b.start (b ∷ bs) fs n (let q : end b ≤ units = c.2 in omega (arith, q)) (le_refl b.start, c.1, c.2, c.3) (lower 1 (end b) b.start fs (omega arith) d) x in
    omega (arith, p, r, t)

at_free : (k a w : ℕ) (f : Stretch) (bs fs : List Stretch) → length bs + length (f ∷ fs) ≤ k → Chain 0 (end f) bs → Chain 1 (a + w) (f ∷ fs) → Cross bs (f ∷ fs) → a + total bs + total (f ∷ fs) ≡ units → (a ≡ f.start) × (w ≡ 0)
at_free k a w f bs fs n c d x t =
    let p : a + w ≤ f.start = d.0 in
    let r : f.start + total bs + (f.length + total fs) ≤ units = room k 1 f.start bs (f ∷ fs) n (let q : end f ≤ units = d.2 in omega (arith, q)) (lower 0 (end f) f.start bs (omega arith) c) (le_refl f.start, d.1, d.2, d.3) x in
    (omega (arith, p, r, t), omega (arith, p, r, t))

not_after : (after : Bool) → bit after ≡ 0 → after ≡ false
not_after true e = no (omega (arith, e))
not_after false e = refl

-- the next piece
next_block : (after : Bool) (a : ℕ) (b : Stretch) (bs fs : List Stretch) → a ≡ b.start → 0 < b.length → Cut false (a + b.length) bs fs → Cut after a (b ∷ bs) fs
next_block after a b bs fs e h c = record {
  pieces = taken b.length ∷ c.pieces;
  are_blocks = λ i. record { start = sym e i; length = b.length } ∷ c.are_blocks i;
  are_free = c.are_free;
  fill = let f : a + b.length + measure c.pieces ≡ units = c.fill in omega (arith, f);
  good = (h, c.good);
}

next_free : (after : Bool) (a : ℕ) (f : Stretch) (bs fs : List Stretch) → (a ≡ f.start) × (bit after ≡ 0) → 0 < f.length → Cut true (a + f.length) bs fs → Cut after a bs (f ∷ fs)
next_free after a f bs fs e h c = record {
  pieces = spare f.length ∷ c.pieces;
  are_blocks = c.are_blocks;
  are_free = λ i. record { start = sym e.0 i; length = f.length } ∷ c.are_free i;
  fill = let q : a + f.length + measure c.pieces ≡ units = c.fill in omega (arith, q);
  good = (h, not_after after e.1, c.good);
}

cut_up : (k : ℕ) (after : Bool) (a : ℕ) (bs fs : List Stretch) → length bs + length fs ≤ k → Chain 0 a bs → Chain 1 (a + bit after) fs → Cross bs fs → a + total bs + total fs ≡ units → Cut after a bs fs
cut_up k after a [] [] n c d x t = record { pieces = []; are_blocks = refl; are_free = refl; fill = omega (arith, t); good = tt }
cut_up zero after a (b ∷ bs) fs n c d x t = no (omega (arith, n))
cut_up zero after a [] (f ∷ fs) n c d x t = no (omega (arith, n))
cut_up (suc k) after a (b ∷ bs) [] n c d x t =
    let e : a ≡ b.start = at_block (suc k) a b bs [] n c tt x t in
    next_block after a b bs [] e c.1 (cut_up k false (a + b.length) bs [] (omega (arith, n)) (lower 0 (end b + 0) (a + b.length) bs (omega (arith, e)) c.3) tt (fewer_blocks b bs [] x) (omega (arith, t)))
cut_up (suc k) after a [] (f ∷ fs) n c d x t =
    let w : (a ≡ f.start) × (bit after ≡ 0) = at_free (suc k) a (bit after) f [] fs n tt d x t in
    let e : a ≡ f.start = w.0 in
    next_free after a f [] fs w d.1 (cut_up k true (a + f.length) [] fs (omega (arith, n)) tt (lower 1 (end f + 1) (a + f.length + 1) fs (omega (arith, e)) d.3) refl (omega (arith, t)))
cut_up (suc k) after a (b ∷ bs) (f ∷ fs) n c d x t = ways (meet b f bs fs x)
    (λ q.
    let e : a ≡ b.start = at_block (suc k) a b bs (f ∷ fs) n c (q, d.1, d.2, d.3) x t in
    next_block after a b bs (f ∷ fs) e c.1
    (cut_up k false (a + b.length) bs (f ∷ fs) (omega (arith, n)) (lower 0 (end b + 0) (a + b.length) bs (omega (arith, e)) c.3) (omega (arith, q, e), d.1, d.2, d.3) (fewer_blocks b bs (f ∷ fs) x) (omega (arith, t))))
    (λ q.
    let w : (a ≡ f.start) × (bit after ≡ 0) = at_free (suc k) a (bit after) f (b ∷ bs) fs n (q, c.1, c.2, c.3) d x t in
    let e : a ≡ f.start = w.0 in
    next_free after a f (b ∷ bs) fs w d.1
    (cut_up k true (a + f.length) (b ∷ bs) fs (omega (arith, n)) (omega (arith, q, e), c.1, c.2, c.3) (lower 1 (end f + 1) (a + f.length + 1) fs (omega (arith, e)) d.3) (fewer_free f (b ∷ bs) fs x) (omega (arith, t))))

all_from_0 : (l : List Stretch) → All (λ (t : Stretch). leb 0 t.start) l
all_from_0 [] = refl
all_from_0 (s ∷ ss) = both (le-leb 0 s.start (omega arith)) (all_from_0 ss)

-- the seven rules, one by one
module _ (bs fs : List Stretch) where
  pub record Words : Type 0 where
    pub blocks_before : in_order_by is_before bs ≡ true
    pub free_before : in_order_by is_before fs ≡ true
    pub long : every is_long (bs ++ fs) ≡ true
    pub inside : every is_inside (bs ++ fs) ≡ true
    pub apart : in_order_by is_apart (bs ++ fs) ≡ true
    pub loose : in_order_by is_loose fs ≡ true
    pub add_up : total (bs ++ fs) ≡ units

  pub kept_words : is_kept bs fs ≡ true → Words
  unfolding is_kept
  kept_words e =
      let w = each (in_order_by is_before bs) (in_order_by is_before fs ∷ every is_long (bs ++ fs) ∷ every is_inside (bs ++ fs) ∷ in_order_by is_apart (bs ++ fs) ∷ in_order_by is_loose fs ∷ eqb (total (bs ++ fs)) units ∷ []) e in
      record { blocks_before = w 0; free_before = w 1; long = w 2; inside = w 3; apart = w 4; loose = w 5; add_up = eqb-true (total (bs ++ fs)) units (w 6) }

  pub words_kept : Words → is_kept bs fs ≡ true
  unfolding is_kept
  words_kept w = both (both (both (both (both (both w.blocks_before w.free_before) w.long) w.inside) w.apart) w.loose) (eq-eqb (total (bs ++ fs)) units w.add_up)

  module _ (w : Words) where
    blocks_long : All is_long bs
    blocks_long = all_left is_long bs fs w.long

    free_long : All is_long fs
    free_long = all_right is_long bs fs w.long

    block_chain : Chain 0 0 bs
    block_chain = chained 0 0 bs (all_from_0 bs) (in_order bs w.blocks_before (pairs_left is_apart bs fs w.apart) blocks_long) blocks_long (all_left is_inside bs fs w.inside)

    pub free_chain : Chain 1 0 fs
    free_chain = chained 1 0 fs (all_from_0 fs) (not-touching fs (in_order fs w.free_before (pairs_right is_apart bs fs w.apart) free_long) w.loose free_long) free_long (all_right is_inside bs fs w.inside)

    words_cut : Cut false 0 bs fs
    words_cut =
        let t : total (bs ++ fs) ≡ units = w.add_up in
        let j : total (bs ++ fs) ≡ total bs + total fs = total_join bs fs in
        cut_up (length bs + length fs) false 0 bs fs (le_refl (length bs + length fs)) block_chain free_chain (pairs_across is_apart bs fs w.apart) (omega (arith, t, j))

  -- the rules are kept: the stretches are pieces of one area
  pub kept_sound : is_kept bs fs ≡ true → Sound bs fs
  kept_sound k =
      let c : Cut false 0 bs fs = words_cut (kept_words k) in
      record { pieces = c.pieces; are_blocks = c.are_blocks; are_free = c.are_free; fill = let f : 0 + measure c.pieces ≡ units = c.fill in omega (arith, f); good = c.good }

-- ---- piece by piece
all_within : (p : Stretch → Bool) (a e : ℕ) (l : List Stretch) → ((t : Stretch) → a ≤ t.start → end t ≤ e → p t ≡ true) → Within a e l → All p l
all_within p a e [] f w = refl
all_within p a e (s ∷ ss) f w = both (f s w.0.0 w.0.1) (all_within p a e ss f w.1)

-- a test of pairs that passes where the first ends before the second starts, and g units or more lie between free ones
blocks_pairs : (p : Stretch → Stretch → Bool) → ((s t : Stretch) → 0 < s.length → end s ≤ t.start → p s t ≡ true) → (after : Bool) (a : ℕ) (ps : List Piece) → Good after ps → in_order_by p (blocks_from a ps) ≡ true
blocks_pairs p f after a [] g = refl
blocks_pairs p f after a (taken n ∷ ps) g =
    both (all_within (p (stretch a n)) (a + n) (a + n + measure ps) (blocks_from (a + n) ps) (λ t h k. f (stretch a n) t g.0 h) (blocks_within (a + n) ps)) (blocks_pairs p f false (a + n) ps g.1)
blocks_pairs p f after a (spare n ∷ ps) g = blocks_pairs p f true (a + n) ps g.2

-- behind a free piece lies a block, or nothing
gap : (a : ℕ) (ps : List Piece) → Good true ps → Within (a + 1) (a + measure ps) (free_from a ps)
gap a [] g = tt
gap a (taken m ∷ ps) g =
    let h : 0 < m = g.0 in
    let e : a + m + measure ps ≡ a + (m + measure ps) = omega arith in
    rw (sym e) (wider (a + m) (a + 1) (a + m + measure ps) (free_from (a + m) ps) (omega (arith, h)) (free_within (a + m) ps))
gap a (spare m ∷ ps) g = absurd (true≢false g.1)

free_pairs : (p : Stretch → Stretch → Bool) → ((s t : Stretch) → 0 < s.length → end s + 1 ≤ t.start → p s t ≡ true) → (after : Bool) (a : ℕ) (ps : List Piece) → Good after ps → in_order_by p (free_from a ps) ≡ true
free_pairs p f after a [] g = refl
free_pairs p f after a (taken n ∷ ps) g = free_pairs p f false (a + n) ps g.1
free_pairs p f after a (spare n ∷ ps) g =
    both (all_within (p (stretch a n)) (a + n + 1) (a + n + measure ps) (free_from (a + n) ps) (λ t h k. f (stretch a n) t g.0 h) (gap (a + n) ps g.2)) (free_pairs p f true (a + n) ps g.2)

pieces_blocks_long : (after : Bool) (a : ℕ) (ps : List Piece) → Good after ps → All is_long (blocks_from a ps)
pieces_blocks_long after a [] g = refl
pieces_blocks_long after a (taken n ∷ ps) g = both (lt-ltb 0 n g.0) (pieces_blocks_long false (a + n) ps g.1)
pieces_blocks_long after a (spare n ∷ ps) g = pieces_blocks_long true (a + n) ps g.2

pieces_free_long : (after : Bool) (a : ℕ) (ps : List Piece) → Good after ps → All is_long (free_from a ps)
pieces_free_long after a [] g = refl
pieces_free_long after a (taken n ∷ ps) g = pieces_free_long false (a + n) ps g.1
pieces_free_long after a (spare n ∷ ps) g = both (lt-ltb 0 n g.0) (pieces_free_long true (a + n) ps g.2)

-- two that lie one behind the other
before_if : (s t : Stretch) → 0 < s.length → end s ≤ t.start → is_before s t ≡ true
before_if s t l h = lt-ltb s.start t.start (omega (arith, l, h))

apart_if : (s t : Stretch) → end s ≤ t.start → is_apart s t ≡ true
apart_if s t h = or_left (leb (end s) t.start) (leb (end t) s.start) (le-leb (end s) t.start h)

apart_back : (s t : Stretch) → end t ≤ s.start → is_apart s t ≡ true
apart_back s t h = or_right (leb (end s) t.start) (leb (end t) s.start) (le-leb (end t) s.start h)

loose_if : (s t : Stretch) → end s + 1 ≤ t.start → is_loose s t ≡ true
loose_if s t h = rw (ne_eqb (end s) t.start (λ e. no (omega (arith, e, h))), ne_eqb (end t) s.start (λ e. no (omega (arith, e, h)))) refl

across_cons : (f : Stretch) (bs fs : List Stretch) → All (λ (b : Stretch). is_apart b f) bs → Cross bs fs → Cross bs (f ∷ fs)
across_cons f [] fs e x = refl
across_cons f (b ∷ bs) fs e x =
    both (both (and_first (is_apart b f) _ e) (and_first (every (is_apart b) fs) _ x)) (across_cons f bs fs (and_second (is_apart b f) _ e) (fewer_blocks b bs fs x))

crossed : (a : ℕ) (ps : List Piece) → Cross (blocks_from a ps) (free_from a ps)
crossed a [] = refl
crossed a (taken n ∷ ps) = both (all_within (is_apart (stretch a n)) (a + n) (a + n + measure ps) (free_from (a + n) ps) (λ t h k. apart_if (stretch a n) t h) (free_within (a + n) ps)) (crossed (a + n) ps)
crossed a (spare n ∷ ps) =
    across_cons (stretch a n) (blocks_from (a + n) ps) (free_from (a + n) ps) (all_within (λ (b : Stretch). is_apart b (stretch a n)) (a + n) (a + n + measure ps) (blocks_from (a + n) ps) (λ t h k. apart_back t (stretch a n) h) (blocks_within (a + n) ps)) (crossed (a + n) ps)

pieces_words : (ps : List Piece) → measure ps ≡ units → Good false ps → Words (blocks_from 0 ps) (free_from 0 ps)
pieces_words ps f g =
    let inside_it : (t : Stretch) → end t ≤ 0 + measure ps → is_inside t ≡ true = λ t h. le-leb (end t) units (omega (arith, f, h)) in
    record {
      blocks_before = blocks_pairs is_before before_if false 0 ps g;
      free_before = free_pairs is_before (λ s t l h. before_if s t l (omega (arith, h))) false 0 ps g;
      long = all_join is_long (blocks_from 0 ps) (free_from 0 ps) (pieces_blocks_long false 0 ps g) (pieces_free_long false 0 ps g);
      inside = all_join is_inside (blocks_from 0 ps) (free_from 0 ps)
          (all_within is_inside 0 (0 + measure ps) (blocks_from 0 ps) (λ t h k. inside_it t k) (blocks_within 0 ps)) (all_within is_inside 0 (0 + measure ps) (free_from 0 ps) (λ t h k. inside_it t k) (free_within 0 ps));
      apart = pairs_join is_apart (blocks_from 0 ps) (free_from 0 ps) (blocks_pairs is_apart (λ s t l h. apart_if s t h) false 0 ps g) (free_pairs is_apart (λ s t l h. apart_if s t (omega (arith, h))) false 0 ps g) (crossed 0 ps);
      loose = free_pairs is_loose (λ s t l h. loose_if s t h) false 0 ps g;
      add_up = total_join (blocks_from 0 ps) (free_from 0 ps) ∙ adds_up 0 ps ∙ f;
    }

-- the stretches are pieces of one area: the rules are kept
pub sound_kept : (bs fs : List Stretch) → Sound bs fs → is_kept bs fs ≡ true
sound_kept bs fs s = (λ i. is_kept (s.are_blocks i) (s.are_free i)) ∙ words_kept (blocks_from 0 s.pieces) (free_from 0 s.pieces) (pieces_words s.pieces s.fill s.good)
