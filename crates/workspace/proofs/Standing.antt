-- Two lent tables that keep the rules: what is seen of them is the list of blocks and the list of free stretches, and the code's check passes exactly there.
-- Assumes nothing.
use Rattle.std.proofs.Common.{◌≡◌, ℕ, ◌≤◌, Bool, true, false, ◌&&◌, leb, List, [], ◌∷◌, length, take, drop, sym, ap, ◌∙◌, arith, length-take-le, le-leb, leb-true}
use Rattle.workspace.specs.declared.Stretch.{Stretch}
use Rattle.workspace.specs.declared.Used.{Used}
use Rattle.lists.specs.Lists.{every}
use Rattle.workspace.specs.Rules.{is_none, is_kept, rules_kept}
use Rattle.workspace.specs.Seen.{table_of, look_of}
use Rattle.workspace.specs.Check.{tiled}
use Rattle.workspace.specs.Steps.{keeps_seen}
use Rattle.lists.proofs.Tests.{each, and_first, and_second, and_both as both, same_test}
use Rattle.workspace.proofs.Pieces.{Sound, suffice}
use Rattle.workspace.proofs.CheckLaws.{check_sound, sound_check}
use Rattle.workspace.proofs.Words.{kept_sound, sound_kept}
use Rattle.workspace.proofs.Padded.{pad, pad_clean, table_is, take_seen, unused_seen}

module _ (b f : List Stretch) (u : Used) where
  -- the blocks and the free stretches
  abbrev pub bs : List Stretch
  bs = take u.blocks b

  abbrev pub fs : List Stretch
  fs = take u.free f

  pub record Stands : Type 0 where
    pub block_places : 31 ≤ length b
    pub free_places : 32 ≤ length f
    pub few_blocks : u.blocks ≤ 31
    pub few_free : u.free ≤ length f
    pub unused_blocks : every is_none (drop u.blocks b) ≡ true
    pub unused_free : every is_none (drop u.free f) ≡ true
    pub sound : Sound bs fs

  pub kept_stands : rules_kept b f u ≡ true → Stands
  unfolding rules_kept
  kept_stands e =
      let w = each (leb 31 (length b)) (leb 32 (length f) ∷ leb u.blocks 31 ∷ leb u.free (length f) ∷ every is_none (drop u.blocks b) ∷ every is_none (drop u.free f) ∷ is_kept bs fs ∷ []) e in
      record {
        block_places = leb-true 31 (length b) (w 0);
        free_places = leb-true 32 (length f) (w 1);
        few_blocks = leb-true u.blocks 31 (w 2);
        few_free = leb-true u.free (length f) (w 3);
        unused_blocks = w 4;
        unused_free = w 5;
        sound = kept_sound bs fs (w 6);
      }

  pub stands_kept : Stands → rules_kept b f u ≡ true
  unfolding rules_kept
  stands_kept s =
      both (both (both (both (both (both (le-leb 31 (length b) s.block_places) (le-leb 32 (length f) s.free_places)) (le-leb u.blocks 31 s.few_blocks)) (le-leb u.free (length f) s.few_free)) s.unused_blocks) s.unused_free) (sound_kept bs fs s.sound)

  module _ (s : Stands) where
    pub count_blocks : length bs ≡ u.blocks
    count_blocks = let h : u.blocks ≤ 31 = s.few_blocks in let k : 31 ≤ length b = s.block_places in length-take-le u.blocks b (omega (arith, h, k))

    pub count_free : length fs ≡ u.free
    count_free = length-take-le u.free f s.few_free

    pub at_most_31 : length bs ≤ 31
    at_most_31 = let h : u.blocks ≤ 31 = s.few_blocks in let e : length bs ≡ u.blocks = count_blocks in omega (arith, h, e)

    -- "32 stretches suffice"
    pub at_most_32 : length fs ≤ 32
    at_most_32 = suffice bs fs s.sound at_most_31

    pub few : u.free ≤ 32
    few = let h : length fs ≤ 32 = at_most_32 in let e : length fs ≡ u.free = count_free in omega (arith, h, e)

    pub blocks_seen : (table_of b).places ≡ pad 32 bs
    unfolding table_of
    blocks_seen = ap (pad 32) (table_is u.blocks b s.unused_blocks) ∙ pad_clean 32 (length (drop u.blocks b)) bs

    pub free_seen_lem : (table_of f).places ≡ pad 32 fs
    unfolding table_of
    free_seen_lem = ap (pad 32) (table_is u.free f s.unused_free) ∙ pad_clean 32 (length (drop u.free f)) fs

  -- ---- the code's check
  stands_checked : (n : ℕ) → Stands → keeps_seen (look_of b f n) u ≡ true
  unfolding keeps_seen look_of table_of
  stands_checked n s =
      let hb : u.blocks ≤ 31 = s.few_blocks in
      let hf : u.free ≤ 32 = few s in
      let pb : 31 ≤ length b = s.block_places in
      let vb = unused_seen u.blocks 32 b (omega (arith, hb)) ∙ s.unused_blocks in
      let vf = unused_seen u.free 32 f hf ∙ s.unused_free in
      let lb : length bs ≤ 31 = at_most_31 s in
      let lf : length fs ≤ 32 = at_most_32 s in
      let t : tiled 64 false 0 bs fs ≡ true = sound_check 64 bs fs (omega (arith, lb, lf)) s.sound in
      both (both (both (both
      (both (le-leb 31 (length b) pb) (le-leb 32 (length f) s.free_places))
      (both (and_second (every is_none (drop u.blocks (pad 32 b))) (every is_none (drop 32 b)) vb) (and_second (every is_none (drop u.free (pad 32 f))) (every is_none (drop 32 f)) vf)))
      (le-leb u.blocks 31 hb))
      (le-leb u.free 32 hf))
      (both (both
      (and_first (every is_none (drop u.blocks (pad 32 b))) (every is_none (drop 32 b)) vb)
      (and_first (every is_none (drop u.free (pad 32 f))) (every is_none (drop 32 f)) vf))
      ((λ i. tiled 64 false 0 (take_seen u.blocks 32 b (let h : u.blocks ≤ 32 = omega (arith, hb) in h) (let h : u.blocks ≤ length b = omega (arith, hb, pb) in h) i) (take_seen u.free 32 f hf s.few_free i)) ∙ t))

  checked_stands : (n : ℕ) → keeps_seen (look_of b f n) u ≡ true → Stands
  unfolding keeps_seen look_of table_of
  checked_stands n e =
      let xb : Bool = every is_none (drop u.blocks (pad 32 b)) in
      let xf : Bool = every is_none (drop u.free (pad 32 f)) in
      let t : Bool = tiled 64 false 0 (take u.blocks (pad 32 b)) (take u.free (pad 32 f)) in
      let yb : Bool = every is_none (drop 32 b) in
      let yf : Bool = every is_none (drop 32 f) in
      let p = each (leb 31 (length b)) (leb 32 (length f) ∷ (yb && yf) ∷ leb u.blocks 31 ∷ leb u.free 32 ∷ (xb && xf && t) ∷ []) e in
      let x = and_first (xb && xf) t (p 5) in
      let pb : 31 ≤ length b = leb-true 31 (length b) (p 0) in
      let pf : 32 ≤ length f = leb-true 32 (length f) (p 1) in
      let hb : u.blocks ≤ 31 = leb-true u.blocks 31 (p 3) in
      let hf : u.free ≤ 32 = leb-true u.free 32 (p 4) in
      let sb : take u.blocks (pad 32 b) ≡ bs = take_seen u.blocks 32 b (omega (arith, hb)) (omega (arith, hb, pb)) in
      let sf : take u.free (pad 32 f) ≡ fs = take_seen u.free 32 f hf (omega (arith, hf, pf)) in
      record {
        block_places = pb;
        free_places = pf;
        few_blocks = hb;
        few_free = omega (arith, hf, pf);
        unused_blocks = sym (unused_seen u.blocks 32 b (omega (arith, hb))) ∙ both (and_first xb xf x) (and_first yb yf (p 2));
        unused_free = sym (unused_seen u.free 32 f hf) ∙ both (and_second xb xf x) (and_second yb yf (p 2));
        sound = check_sound 64 bs fs ((λ i. tiled 64 false 0 (sym sb i) (sym sf i)) ∙ and_second (xb && xf) t (p 5));
      }

  -- the code's check passes exactly where the rules are kept
  pub keeps_same : (n : ℕ) → keeps_seen (look_of b f n) u ≡ rules_kept b f u
  keeps_same n = same_test (keeps_seen (look_of b f n) u) (rules_kept b f u) (λ e. stands_kept (checked_stands n e)) (λ e. stands_checked n (kept_stands e))
