-- What the rules say of one block or free stretch that is found.
-- Assumes nothing.
use Rattle.std.proofs.Common.{◌≡◌, ℕ, zero, suc, ◌<◌, ◌≤◌, Bool, true, eqb, leb, List, [], ◌∷◌, length, get_or, sym, subst, true≢false, le_of_suc-le-suc, not-suc-le-zero, ltb-true, eqb-true, leb-true}
use Rattle.workspace.specs.declared.Stretch.{Stretch}
use Rattle.lists.specs.Lists.{every}
use Rattle.workspace.specs.Rules.{units, stretch, none, end, is_long, is_inside, is_apart}
use Rattle.workspace.specs.Operations.{fits, starts_at, length_at}
use Rattle.workspace.specs.Places.{place_of, has_units}
use Rattle.lists.proofs.Tests.{and_first, and_second}
use Rattle.lists.proofs.ListLaws.{by_bool}
use Rattle.workspace.proofs.Pieces.{Sound}
use Rattle.workspace.proofs.Words.{Words, kept_words, sound_kept, All, all_left, all_right, pairs_across, apart_is, Chain, free_chain}
use Rattle.workspace.proofs.Joining.{Clear}

-- the block that starts at a passes every test that all blocks pass
found_all : (p : Stretch → Bool) (a : ℕ) (l : List Stretch) → starts_at a l ≡ true → All p l → p (stretch a (length_at a l)) ≡ true
found_all p a [] e h = absurd (true≢false (sym e))
found_all p a (b ∷ bs) e h =
    by_bool (eqb b.start a)
    (λ q. let t : b.start ≡ a = eqb-true b.start a q in rw q (subst (λ (n : ℕ). p (stretch n b.length) ≡ true) t (and_first (p b) (every p bs) h)))
    (λ q. let k : starts_at a bs ≡ true = rw q at e in rw q (found_all p a bs k (and_second (p b) (every p bs) h)))

apart_clear : (b : Stretch) (fs : List Stretch) → All (is_apart b) fs → Clear b fs
apart_clear b [] h = tt
apart_clear b (f ∷ fs) h = (
  apart_is b f (and_first (is_apart b f) (every (is_apart b) fs) h),
  apart_clear b fs (and_second (is_apart b f) (every (is_apart b) fs) h),
)

-- each place passes every test that all pass
at_all : (p : Stretch → Bool) (l : List Stretch) (i : ℕ) → i < length l → All p l → p (get_or l i none) ≡ true
at_all p [] i h e = absurd (not-suc-le-zero h)
at_all p (x ∷ xs) zero h e = and_first (p x) (every p xs) e
at_all p (x ∷ xs) (suc i) h e = at_all p xs i (le_of_suc-le-suc h) (and_second (p x) (every p xs) e)

-- the free stretch that is found is long enough
pub found_long : (n : ℕ) (l : List Stretch) → fits n l ≡ true → n ≤ (get_or l (place_of (has_units n) l) none).length
found_long n [] e = absurd (true≢false (sym e))
found_long n (f ∷ fs) e = by_bool (leb n f.length) (λ q. rw q (leb-true n f.length q)) (λ q. let k : fits n fs ≡ true = rw q at e in rw q (found_long n fs k))

module _ (bs fs : List Stretch) (s : Sound bs fs) where
  words : Words bs fs
  words = kept_words bs fs (sound_kept bs fs s)

  pub free_inside : (i : ℕ) → i < length fs → end (get_or fs i none) ≤ units
  free_inside i h = leb-true (end (get_or fs i none)) units (at_all is_inside fs i h (all_right is_inside bs fs words.inside))

  pub free_apart : Chain 1 0 fs
  free_apart = free_chain bs fs words

  module _ (a : ℕ) (e : starts_at a bs ≡ true) where
    abbrev pub block : Stretch
    block = stretch a (length_at a bs)

    pub block_long : 0 < block.length
    block_long = ltb-true 0 block.length (found_all is_long a bs e (all_left is_long bs fs words.long))

    pub block_inside : end block ≤ units
    block_inside = leb-true (end block) units (found_all is_inside a bs e (all_left is_inside bs fs words.inside))

    pub block_clear : Clear block fs
    block_clear = apart_clear block fs (found_all (λ (b : Stretch). every (is_apart b) fs) a bs e (pairs_across is_apart bs fs words.apart))
