-- The check finds exactly the tables that keep the rules.
-- Assumes nothing.
use Rattle.std.proofs.Common.{◌≡◌, ℕ, zero, suc, ◌+◌, ◌-◌, ◌<◌, ◌≤◌, Bool, true, false, not, ◌&&◌, Option, Some, None, eqb, ltb, List, [], ◌∷◌, length, get_or, drop, sym, refl, ap, ◌∙◌, subst, true≢false, le_of_suc-le-suc, not-suc-le-zero, add-one, arith, ltb-true, lt-ltb, eq-eqb, ne_eqb, eqb-true}
use mathlib.Core.Bool.{and-true, and-false}
use borrow.Author.Tests.{eqb-false, not-true}
use Rattle.workspace.specs.declared.Stretch.{Stretch}
use Rattle.workspace.specs.declared.Reach.{Reach}
use Rattle.lists.specs.Lists.{when◌then◌else◌}
use Rattle.workspace.specs.Rules.{units, stretch, none}
use Rattle.workspace.specs.Check.{begins_at, begins, ends, first, rest, tiled, reach_of}
use Rattle.workspace.proofs.Pieces.{Piece, taken, spare, blocks_from, free_from, measure, Good, Sound, Within, blocks_within}
use Rattle.lists.proofs.Tests.{no, and_first, and_second}
use Rattle.lists.proofs.ListLaws.{by_bool}

-- the pieces of tables that lie end to end from a on
pub record Cut (after : Bool) (a : ℕ) (bs fs : List Stretch) : Type 0 where
  pub pieces : List Piece
  pub are_blocks : bs ≡ blocks_from a pieces
  pub are_free : fs ≡ free_from a pieces
  pub fill : a + measure pieces ≡ units
  pub good : Good after pieces

-- what begins at a is the first of the list
begun : (a : ℕ) (l : List Stretch) → begins a l ≡ true → (l ≡ stretch a (first l) ∷ rest l) × (0 < first l)
begun a [] e = absurd (true≢false (sym e))
begun a (s ∷ ss) e =
    let q : s.start ≡ a = eqb-true s.start a (and_first (eqb s.start a) (ltb 0 s.length) e) in
    ((λ i. record { start = q i; length = s.length } ∷ ss), ltb-true 0 s.length (and_second (eqb s.start a) (ltb 0 s.length) e))

finds : (k : ℕ) (after : Bool) (a : ℕ) (bs fs : List Stretch) → tiled k after a bs fs ≡ true → Cut after a bs fs
finds zero after a bs fs e = absurd (true≢false (sym e))
finds (suc k) after a bs fs e =
    by_bool (begins a bs)
    (λ p.
    let t : tiled k false (a + first bs) (rest bs) fs ≡ true = rw p at e in
    let c : Cut false (a + first bs) (rest bs) fs = finds k false (a + first bs) (rest bs) fs t in
    let b : (bs ≡ stretch a (first bs) ∷ rest bs) × (0 < first bs) = begun a bs p in
    record {
      pieces = taken (first bs) ∷ c.pieces;
      are_blocks = b.0 ∙ ap (λ (l : List Stretch). stretch a (first bs) ∷ l) c.are_blocks;
      are_free = c.are_free;
      fill = let f : a + first bs + measure c.pieces ≡ units = c.fill in omega (arith, f);
      good = (b.1, c.good);
    })
    (λ p. by_bool (not after && begins a fs)
    (λ r.
    let t : tiled k true (a + first fs) bs (rest fs) ≡ true = rw (p, r) at e in
    let c : Cut true (a + first fs) bs (rest fs) = finds k true (a + first fs) bs (rest fs) t in
    let b : (fs ≡ stretch a (first fs) ∷ rest fs) × (0 < first fs) = begun a fs (and_second (not after) (begins a fs) r) in
    record {
      pieces = spare (first fs) ∷ c.pieces;
      are_blocks = c.are_blocks;
      are_free = b.0 ∙ ap (λ (l : List Stretch). stretch a (first fs) ∷ l) c.are_free;
      fill = let f : a + first fs + measure c.pieces ≡ units = c.fill in omega (arith, f);
      good = (b.1, not-true after (and_first (not after) (begins a fs) r), c.good);
    })
    (λ r. let t : ends a bs fs ≡ true = rw (p, r) at e in last bs fs t))
  where
    last : (us vs : List Stretch) → ends a us vs ≡ true → Cut after a us vs
    last [] [] t = record { pieces = []; are_blocks = refl; are_free = refl; fill = let q : a ≡ units = eqb-true a units t in omega (arith, q); good = tt }
    last [] (v ∷ vs) t = absurd (true≢false (sym t))
    last (u ∷ us) vs t = absurd (true≢false (sym t))

-- what starts behind a does not begin at a
later : (a b e : ℕ) (l : List Stretch) → a < b → Within b e l → begins a l ≡ false
later a b e [] h w = refl
later a b e (s ∷ ss) h w = let k : b ≤ s.start = w.0.0 in rw (ne_eqb s.start a (λ q. no (omega (arith, q, h, k)))) refl

passes : (k : ℕ) (after : Bool) (a : ℕ) (ps : List Piece) → length ps < k → a + measure ps ≡ units → Good after ps → tiled k after a (blocks_from a ps) (free_from a ps) ≡ true
passes zero after a ps h f g = absurd (not-suc-le-zero h)
passes (suc k) true a [] h f g = eq-eqb a units (omega (arith, f))
passes (suc k) false a [] h f g = eq-eqb a units (omega (arith, f))
passes (suc k) after a (taken n ∷ ps) h f g =
    rw (eq-eqb a a refl, lt-ltb 0 n g.0) (passes k false (a + n) ps (le_of_suc-le-suc h) (omega (arith, f)) g.1)
passes (suc k) true a (spare n ∷ ps) h f g = absurd (true≢false g.1)
passes (suc k) false a (spare n ∷ ps) h f g =
    let p : 0 < n = g.0 in
    rw (later a (a + n) (a + n + measure ps) (blocks_from (a + n) ps) (omega (arith, p)) (blocks_within (a + n) ps), eq-eqb a a refl, lt-ltb 0 n g.0) (passes k true (a + n) ps (le_of_suc-le-suc h) (omega (arith, f)) g.2)

-- the check passes: the tables keep the rules
pub check_sound : (k : ℕ) (bs fs : List Stretch) → tiled k false 0 bs fs ≡ true → Sound bs fs
check_sound k bs fs e =
    let c : Cut false 0 bs fs = finds k false 0 bs fs e in
    record { pieces = c.pieces; are_blocks = c.are_blocks; are_free = c.are_free; fill = let f : 0 + measure c.pieces ≡ units = c.fill in omega (arith, f); good = c.good }

counted : (a : ℕ) (ps : List Piece) → length ps ≡ length (blocks_from a ps) + length (free_from a ps)
counted a [] = omega arith
counted a (taken n ∷ ps) = let ih : length ps ≡ length (blocks_from (a + n) ps) + length (free_from (a + n) ps) = counted (a + n) ps in omega (arith, ih)
counted a (spare n ∷ ps) = let ih : length ps ≡ length (blocks_from (a + n) ps) + length (free_from (a + n) ps) = counted (a + n) ps in omega (arith, ih)

-- the tables keep the rules: the check passes, with one turn more than there are stretches
pub sound_check : (k : ℕ) (bs fs : List Stretch) → length bs + length fs < k → Sound bs fs → tiled k false 0 bs fs ≡ true
sound_check k bs fs h s =
    let n : length s.pieces ≡ length (blocks_from 0 s.pieces) + length (free_from 0 s.pieces) = counted 0 s.pieces in
    let b : length bs ≡ length (blocks_from 0 s.pieces) = ap length s.are_blocks in
    let f : length fs ≡ length (free_from 0 s.pieces) = ap length s.are_free in
    let m : measure s.pieces ≡ units = s.fill in
    (λ i. tiled k false 0 (s.are_blocks i) (s.are_free i)) ∙ passes k false 0 s.pieces (omega (arith, n, b, f, h)) (omega (arith, m)) s.good

-- ---- the check, place by place
abbrev null : List Stretch → Bool
null [] = true
null (s ∷ ss) = false

begins_there : (a i : ℕ) (l : List Stretch) → begins a (drop i l) ≡ begins_at a (get_or l i none)
begins_there a zero [] = sym (and-false (eqb 0 a))
begins_there a (suc i) [] = sym (and-false (eqb 0 a))
begins_there a zero (x ∷ xs) = refl
begins_there a (suc i) (x ∷ xs) = begins_there a i xs

first_there : (i : ℕ) (l : List Stretch) → first (drop i l) ≡ (get_or l i none).length
first_there zero [] = refl
first_there (suc i) [] = refl
first_there zero (x ∷ xs) = refl
first_there (suc i) (x ∷ xs) = first_there i xs

rest_suc : (i : ℕ) (l : List Stretch) → rest (drop i l) ≡ drop (suc i) l
rest_suc zero [] = refl
rest_suc (suc i) [] = refl
rest_suc zero (x ∷ xs) = refl
rest_suc (suc i) (x ∷ xs) = rest_suc i xs

rest_there : (i : ℕ) (l : List Stretch) → rest (drop i l) ≡ drop (i + 1) l
rest_there i l = rw add-one (rest_suc i l)

-- one turn of the check, at the places reached
abbrev Turn : ℕ → Reach → List Stretch → List Stretch → Stretch → Stretch → Bool
Turn k t bs fs x y =
    when begins_at t.at x then tiled k false (t.at + x.length) (drop (t.i + 1) bs) (drop t.j fs)
    else (when not t.after && begins_at t.at y then tiled k true (t.at + y.length) (drop t.i bs) (drop (t.j + 1) fs)
    else ends t.at (drop t.i bs) (drop t.j fs))

abbrev pub Rest : ℕ → Reach → List Stretch → List Stretch → Bool
Rest k t bs fs = tiled k t.after t.at (drop t.i bs) (drop t.j fs)

turn : (k : ℕ) (t : Reach) (bs fs : List Stretch) → Rest (suc k) t bs fs ≡ Turn k t bs fs (get_or bs t.i none) (get_or fs t.j none)
turn k t bs fs = λ s.
    when begins_there t.at t.i bs s then tiled k false (t.at + first_there t.i bs s) (rest_there t.i bs s) (drop t.j fs)
    else (when not t.after && begins_there t.at t.j fs s then tiled k true (t.at + first_there t.j fs s) (drop t.i bs) (rest_there t.j fs s)
    else ends t.at (drop t.i bs) (drop t.j fs))

-- the turn goes on from where it reaches, or ends the check
unfoldable pub onward : (k : ℕ) (t : Reach) (bs fs : List Stretch) → Option Reach → Bool
onward k t bs fs (Some u) = Rest k u bs fs
onward k t bs fs None = ends t.at (drop t.i bs) (drop t.j fs)

turned : (k : ℕ) (t : Reach) (bs fs : List Stretch) → Rest (suc k) t bs fs ≡ onward k t bs fs (reach_of t (get_or bs t.i none) (get_or fs t.j none))
unfolding onward
turned k t bs fs = turn k t bs fs ∙ by_cases (get_or bs t.i none) (get_or fs t.j none)
  where
    by_cases : (x y : Stretch) → Turn k t bs fs x y ≡ onward k t bs fs (reach_of t x y)
    by_cases x y = by_bool (begins_at t.at x) (λ p. rw p refl) (λ p. by_bool (not t.after && begins_at t.at y) (λ r. rw (p, r) refl) (λ r. rw (p, r) refl))

-- the end of the check, by the places passed
drop_end : (i : ℕ) (l : List Stretch) → i ≤ length l → eqb i (length l) ≡ null (drop i l)
drop_end zero [] h = refl
drop_end zero (x ∷ xs) h = ne_eqb 0 (suc (length xs)) (λ q. no (omega (arith, q)))
drop_end (suc i) [] h = absurd (not-suc-le-zero h)
drop_end (suc i) (x ∷ xs) h = same ∙ drop_end i xs (le_of_suc-le-suc h)
  where
    same : eqb (suc i) (suc (length xs)) ≡ eqb i (length xs)
    same = by_bool (eqb i (length xs))
        (λ e. eq-eqb (suc i) (suc (length xs)) (ap suc (eqb-true i (length xs) e)) ∙ sym e)
        (λ e. ne_eqb (suc i) (suc (length xs)) (λ q. eqb-false i (length xs) e (let z : i ≡ length xs = omega (arith, q) in z)) ∙ sym e)

ends_null : (a : ℕ) (bs fs : List Stretch) → ends a bs fs ≡ (eqb a units && null bs) && null fs
ends_null a [] [] = sym (and-true (eqb a units && true) ∙ and-true (eqb a units))
ends_null a [] (f ∷ fs) = sym (and-false (eqb a units && true))
ends_null a (b ∷ bs) fs = sym (ap (λ (c : Bool). c && null fs) (and-false (eqb a units)))

pub ends_there : (a i j : ℕ) (bs fs : List Stretch) → i ≤ length bs → j ≤ length fs → (eqb a 65536 && eqb i (length bs)) && eqb j (length fs) ≡ ends a (drop i bs) (drop j fs)
ends_there a i j bs fs h k = (λ s. (eqb a units && drop_end i bs h s) && drop_end j fs k s) ∙ sym (ends_null a (drop i bs) (drop j fs))

-- how far one turn goes
get_d_in : (a i : ℕ) (l : List Stretch) → begins_at a (get_or l i none) ≡ true → i < length l
get_d_in a i [] e = absurd (true≢false (sym e ∙ and-false (eqb 0 a)))
get_d_in a zero (x ∷ xs) e = omega arith
get_d_in a (suc i) (x ∷ xs) e = let ih : i < length xs = get_d_in a i xs e in omega (arith, ih)

pub record Bounds (t u : Reach) (bs fs : List Stretch) : Type 0 where
  pub at : u.at ≤ t.at + 4294967295
  pub i : u.i ≤ length bs
  pub j : u.j ≤ length fs

bounded : (t u : Reach) (bs fs : List Stretch) → (get_or bs t.i none).length < 4294967296 → (get_or fs t.j none).length < 4294967296 → t.i ≤ length bs → t.j ≤ length fs
    → reach_of t (get_or bs t.i none) (get_or fs t.j none) ≡ Some u → Bounds t u bs fs
bounded t u bs fs hx hy hi hj e =
    by_bool (begins_at t.at (get_or bs t.i none))
    (λ p. let q : t.i < length bs = get_d_in t.at t.i bs p in
    let w : Some (record { at = t.at + (get_or bs t.i none).length; i = t.i + 1; j = t.j; after = false }) ≡ Some u = rw p at e in
    reaches w (record { at = omega (arith, hx); i = omega (arith, q); j = hj }))
    (λ p. by_bool (not t.after && begins_at t.at (get_or fs t.j none))
    (λ r. let q : t.j < length fs = get_d_in t.at t.j fs (and_second (not t.after) (begins_at t.at (get_or fs t.j none)) r) in
    let w : Some (record { at = t.at + (get_or fs t.j none).length; i = t.i; j = t.j + 1; after = true }) ≡ Some u = rw (p, r) at e in
    reaches w (record { at = omega (arith, hy); i = hi; j = omega (arith, q) }))
    (λ r. let w : ◌≡◌ {A = Option Reach} None (Some u) = rw (p, r) at e in absurd (let z : ⊥ = cc in z)))
  where
    reaches : {v : Reach} → ◌≡◌ {A = Option Reach} (Some v) (Some u) → Bounds t v bs fs → Bounds t u bs fs
    reaches {v} w b = subst (λ (r : Reach). Bounds t r bs fs) (let z : v ≡ u = cc in z) b

-- ---- the turns of the code, over plain variables
module _ (t : Reach) (bs fs : List Stretch) (k : ℕ) (x y : Stretch) (o : Option Reach) (whole : Bool) (h : k < 64) (ex : x ≡ get_or bs t.i none) (ey : y ≡ get_or fs t.j none) (eo : o ≡ reach_of t x y) (w : whole ≡ Rest (64 - k) t bs fs) where
  is_reached : o ≡ reach_of t (get_or bs t.i none) (get_or fs t.j none)
  is_reached = eo ∙ (λ s. reach_of t (ex s) (ey s))

  one_turn : whole ≡ onward (64 - (k + 1)) t bs fs o
  one_turn = let f : 64 - k ≡ suc (64 - (k + 1)) = omega (arith, h) in w ∙ ap (λ (n : ℕ). Rest n t bs fs) f ∙ turned (64 - (k + 1)) t bs fs ∙ ap (onward (64 - (k + 1)) t bs fs) (sym is_reached)

  pub stop_law : o ≡ None → t.i ≤ length bs → t.j ≤ length fs → (eqb t.at 65536 && eqb t.i (length bs)) && eqb t.j (length fs) ≡ whole
  unfolding onward
  stop_law e hi hj = ends_there t.at t.i t.j bs fs hi hj ∙ sym (one_turn ∙ ap (onward (64 - (k + 1)) t bs fs) e)

  pub again_law : (u : Reach) → o ≡ Some u → whole ≡ Rest (64 - (k + 1)) u bs fs
  unfolding onward
  again_law u e = one_turn ∙ ap (onward (64 - (k + 1)) t bs fs) e

  pub bounds-law : (u : Reach) → o ≡ Some u → x.length < 4294967296 → y.length < 4294967296 → t.i ≤ length bs → t.j ≤ length fs → Bounds t u bs fs
  bounds-law u e hx hy hi hj = bounded t u bs fs (subst (λ (z : Stretch). z.length < 4294967296) ex hx) (subst (λ (z : Stretch). z.length < 4294967296) ey hy) hi hj (sym is_reached ∙ e)
