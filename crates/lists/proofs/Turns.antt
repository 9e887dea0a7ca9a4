-- What a turn of a loop over a line knows: what is left of the line from place i on, and an array that is filled from the front.
-- Assumes nothing.
use Prim.Native.Nat.{ℕ, zero, suc, ◌+◌, ◌≤◌, ◌<◌}
use native.Mathlib.Numerals.{add-one}
use native.Mathlib.Omega.{arith}
use mathlib.Core.Path.{◌≡◌, refl, sym, ap, ◌∙◌, subst}
use mathlib.Core.Bool.{Bool, true, false, ◌||◌}
use mathlib.Core.List.{List, [], ◌∷◌, ◌++◌, append-nil}
use lib.ListN.{length, replicate, take, drop, get_or, set, drop_of_length-le}
use lib.Seq.{drop-cons, take-suc-set, take_all, length-take-le, append_snoc}
use Rattle.lists.specs.Lists.{insert, every}
use Rattle.lists.specs.Line.{line, pad, pad_to}
use Rattle.lists.proofs.ListLaws.{clash}
use Rattle.lists.proofs.LineLaws.{take_pad, length_pad_to, pad_to_full}

-- ---- reading: the entries from place i on

-- what is left of a list from place i on is the element there, and the rest
pub rest_cons : {A : Type 0} (l : List A) (i : ℕ) (d : A) → i < length l → drop i l ≡ get_or l i d ∷ drop (i + 1) l
rest_cons l i d h = rw (add-one i) (drop-cons l i d h)

-- from a blank on there is nothing
pub rest_blank : (a : List ℕ) (i : ℕ) → i < length a → get_or a i 0 ≡ 0 → line (drop i a) ≡ []
rest_blank a i l e = rw (drop-cons a i 0 l, e)

-- from a number on there is the number and the rest
pub rest_entry : (a : List ℕ) (i : ℕ) → i < length a → (get_or a i 0 ≡ 0 → ⊥) → line (drop i a) ≡ get_or a i 0 ∷ line (drop (i + 1) a)
rest_entry a i l n = rw (drop-cons a i 0 l, add-one i) (entry (get_or a i 0) n)
  where
    entry : (x : ℕ) → (x ≡ 0 → ⊥) → line (x ∷ drop (suc i) a) ≡ x ∷ line (drop (suc i) a)
    entry zero n = absurd (n refl)
    entry (suc x) n = refl

-- from the end on there is nothing
pub rest_end : (a : List ℕ) (i : ℕ) → length a ≤ i → line (drop i a) ≡ []
rest_end a i l = ap line (drop_of_length-le a l)

-- a test of all from place i on: the next passes, the next fails, there is none
module _ {A : Type 0} (f : A → Bool) (l : List A) (i : ℕ) (d : A) where
  pub every_pass : i < length l → f (get_or l i d) ≡ true → every f (drop i l) ≡ every f (drop (i + 1) l)
  every_pass h e = rw (add-one i, drop-cons l i d h, e)

  pub every_fail : i < length l → f (get_or l i d) ≡ false → every f (drop i l) ≡ false
  every_fail h e = rw (drop-cons l i d h, e)

  pub every_done : length l ≤ i → every f (drop i l) ≡ true
  every_done h = rw (drop_of_length-le l h)

-- ---- writing: an array that holds its first j entries and blanks behind them, `r ≡ pad (take j r)`

set_pad_to : (n : ℕ) (xs : List ℕ) (x : ℕ) → set (pad_to n xs) (length xs) x ≡ pad_to n (xs ++ (x ∷ []))
unfolding pad_to
set_pad_to zero xs x = refl
set_pad_to (suc n) [] x = refl
set_pad_to (suc n) (y ∷ xs) x = ap (λ (r : List ℕ). y ∷ r) (set_pad_to n xs x)

-- a store at the first blank place puts an entry behind the others; there is none in a full array
pub set_next : (xs : List ℕ) (x : ℕ) → set (pad xs) (length xs) x ≡ pad (xs ++ (x ∷ []))
unfolding pad
set_next xs x = set_pad_to 31 xs x

-- such an array has 31 places
pub length_filled : (r : List ℕ) (j : ℕ) → r ≡ pad (take j r) → length r ≡ 31
unfolding pad
length_filled r j e = ap length e ∙ length_pad_to 31 (take j r)

-- an array of zeros has none yet
fill_none : replicate 31 0 ≡ pad (take 0 (replicate 31 0))
unfolding pad pad_to
fill_none = refl

-- a store at place j adds an entry
pub fill : (r : List ℕ) (j x : ℕ) → j < 31 → r ≡ pad (take j r) → set r j x ≡ pad (take (j + 1) (set r j x))
unfolding pad
fill r j x l e =
    let n = length_filled r j e in
    let k : length (take j r) ≡ j = length-take-le j r (omega arith) in
    rw (add-one j, take-suc-set r j x (omega arith))
    (ap (λ (s : List ℕ). set s j x) e ∙ subst (λ (m : ℕ). set (pad (take j r)) m x ≡ pad (take j r ++ (x ∷ []))) k (set_next (take j r) x))

-- the front after a store
pub fill_front : (r : List ℕ) (j x : ℕ) (ys : List ℕ) → j < 31 → r ≡ pad (take j r) → take (j + 1) (set r j x) ++ ys ≡ take j r ++ (x ∷ ys)
fill_front r j x ys l e =
    let n = length_filled r j e in
    rw (add-one j, take-suc-set r j x (omega arith)) (append_snoc (take j r) x ys)

-- what is left is nothing
pub filled : (r : List ℕ) (j : ℕ) → r ≡ pad (take j r) → pad (take j r ++ []) ≡ r
filled r j e = ap pad (append-nil (take j r)) ∙ sym e

-- there is no room left
pub filled_up : (r : List ℕ) (j : ℕ) (ys : List ℕ) → 31 ≤ j → r ≡ pad (take j r) → pad (take j r ++ ys) ≡ r
unfolding pad
filled_up r j ys h e =
    let l = length_filled r j e in
    ap (λ (s : List ℕ). pad (s ++ ys)) (take_all j r (omega arith)) ∙ pad_to_full 31 r ys l

-- ---- an array that another function laid out

-- its front is what was laid out
pub laid : (r : List ℕ) (j : ℕ) (xs : List ℕ) → length xs ≤ 31 → r ≡ pad xs → j ≡ length xs → take j r ≡ xs
laid r j xs l e n = rw (e, n) (take_pad xs l)

-- it holds its front and blanks behind it
pub laid_out : (r : List ℕ) (j : ℕ) (xs : List ℕ) → length xs ≤ 31 → r ≡ pad xs → j ≡ length xs → r ≡ pad (take j r)
laid_out r j xs l e n = e ∙ ap pad (sym (laid r j xs l e n))

-- ---- a line that is laid out afresh, place after place

-- of the line in a, i places are looked at; r holds j entries, and behind them is to come what F makes of the rest of the line: W in all
pub record Filling (W : List ℕ) (F : List ℕ → List ℕ) (a r : List ℕ) (j i : ℕ) : Type 0 where
  pub looked : i ≤ 31
  pub kept : j ≤ i
  pub front : r ≡ pad (take j r)
  pub whole : pad W ≡ pad (take j r ++ F (line (drop i a)))

-- at first there is nothing
pub fill_start : {F : List ℕ → List ℕ} {a : List ℕ} → Filling (F (line a)) F a (replicate 31 0) 0 0
fill_start = record { looked = omega arith; kept = omega arith; front = fill_none; whole = refl }

module _ {W : List ℕ} {F : List ℕ → List ℕ} {a r : List ℕ} {j i : ℕ} (f : Filling W F a r j i) where
  -- a turn at a number that puts x down, after which G is to be made of the rest; and one that puts nothing down
  module _ (long : length a ≡ 31) (here : i < 31) (entry : get_or a i 0 ≡ 0 → ⊥) where
    pub fill_keep : {G : List ℕ → List ℕ} {x : ℕ} → F (get_or a i 0 ∷ line (drop (i + 1) a)) ≡ x ∷ G (line (drop (i + 1) a)) → Filling W G a (set r j x) (j + 1) (i + 1)
    fill_keep {G} {x} e =
        let few = f.kept in
        let room : j < 31 = omega arith in
        record {
          looked = omega arith;
          kept = omega arith;
          front = fill r j x room f.front;
          whole = f.whole ∙ (rw (rest_entry a i (omega arith) entry, e) (ap pad (sym (fill_front r j x (G (line (drop (i + 1) a))) room f.front))));
        }

    pub fill_skip : F (get_or a i 0 ∷ line (drop (i + 1) a)) ≡ F (line (drop (i + 1) a)) → Filling W F a r j (i + 1)
    fill_skip e =
        let few = f.kept in
        record {
          looked = omega arith;
          kept = omega arith;
          front = f.front;
          whole = f.whole ∙ ap (λ (l : List ℕ). pad (take j r ++ l)) (ap F (rest_entry a i (omega arith) entry) ∙ e);
        }

  -- nothing is left
  fill_end : line (drop i a) ≡ [] → F [] ≡ [] → r ≡ pad W
  fill_end e z = sym (f.whole ∙ (rw (e, z) (filled r j f.front)))

  -- so it is at a blank, and behind the last place
  pub fill_stop : length a ≡ 31 → i < 31 → get_or a i 0 ≡ 0 → F [] ≡ [] → r ≡ pad W
  fill_stop long here blank z = fill_end (rest_blank a i (omega arith) blank) z

  pub fill_over : length a ≡ 31 → 31 ≤ i → F [] ≡ [] → r ≡ pad W
  fill_over long past z = fill_end (rest_end a i (omega arith)) z

  -- at a blank, x is put down behind all others
  pub fill_last : {x : ℕ} → length a ≡ 31 → i < 31 → get_or a i 0 ≡ 0 → F [] ≡ x ∷ [] → set r j x ≡ pad W
  fill_last {x} long here blank z =
      let few = f.kept in
      let room : j < 31 = omega arith in
      let behind = ap pad (sym (fill_front r j x [] room f.front)) ∙ filled (set r j x) (j + 1) (fill r j x room f.front) in
      sym (f.whole ∙ (rw (rest_blank a i (omega arith) blank, z) behind))

  -- there is no room left
  pub fill_full : 31 ≤ j → r ≡ pad W
  fill_full h = sym (f.whole ∙ filled_up r j (F (line (drop i a))) h f.front)

-- ---- insertion before the first that passes the test, or at once where one before has passed

-- one has passed: at the front
insert_front : (f : ℕ → Bool) (t : ℕ) (xs : List ℕ) → insert (λ x. true || f x) t xs ≡ t ∷ xs
insert_front f t [] = refl
insert_front f t (x ∷ xs) = refl

module _ (f : ℕ → Bool) (t x : ℕ) (ys : List ℕ) where
  -- x or one before it passes: t takes its place, and x goes in behind
  pub insert_here : (b n : Bool) → n ≡ (b || f x) → n ≡ true → insert (λ y. b || f y) t (x ∷ ys) ≡ t ∷ insert (λ y. n || f y) x ys
  insert_here b n e h = rw (sym e ∙ h, h, insert_front f x ys)

  -- none has passed yet: x stays, and t goes in further on
  pub insert_on : (b n : Bool) → n ≡ (b || f x) → n ≡ false → insert (λ y. b || f y) t (x ∷ ys) ≡ x ∷ insert (λ y. n || f y) t ys
  insert_on true n e h = clash e h
  insert_on false n e h = rw (sym e ∙ h, h)
