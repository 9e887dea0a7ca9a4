-- Laws of tables' places: searched, taken out and put in, read and written.
-- Assumes nothing.
use Rattle.std.proofs.Common.{◌≡◌, ℕ, zero, suc, ◌+◌, ◌-◌, ◌<◌, ◌≤◌, min, Bool, not, ltb, List, [], ◌∷◌, ◌++◌, Option, Some, None, length, take, drop, set, replicate, sym, refl, ap, ◌∙◌, le_of_suc-le-suc, not-suc-le-zero, arith, drop_of_length-le, take_all, length-drop, length-take-le, append-nil, ltb-true, ltb-false}
use borrow.Rule.Slice.PartMut.{put_mid, mid_of, post_of}
use Rattle.std.specs.List.{position, position_or_len}
use Rattle.std.specs.Option.{unwrap_or}
use Rattle.std.proofs.lemmas.List.Recursion.{is_position_or_len}
use Rattle.std.proofs.lemmas.List.Sums.{prefix_len-le-length}
use Rattle.workspace.specs.declared.Stretch.{Stretch}
use Rattle.lists.proofs.ListLaws.{by_bool}
use Rattle.lists.specs.Lists.{every}
use Rattle.lists.specs.Over.{over}
use Rattle.workspace.specs.Rules.{none, is_none}
use Rattle.workspace.specs.Places.{place_of, remove_at, insert_at}
-- handed on: who asks for a place asks how many there are
pub use Rattle.lists.proofs.ListLaws.{mapped_long}

-- ---- a search
-- the first place that passes is the library's
pub place_is : (p : Stretch → Bool) (l : List Stretch) → place_of p l ≡ position_or_len p l
place_is p l = is_position_or_len (place_of p) p refl (λ x xs. by_bool (p x) (λ e. rw e refl) (λ e. rw e (omega arith))) l

-- where none passes, the number of places
pub place_or_len : (p : Stretch → Bool) (l : List Stretch) → unwrap_or (position p l) (length l) ≡ place_of p l
place_or_len p l =
    let k : position_or_len p l ≤ length l = prefix_len-le-length (λ x. not (p x)) l in
    by_bool (ltb (position_or_len p l) (length l))
    (λ e. rw e (sym (place_is p l)))
    (λ e. rw e (let g = ltb-false (position_or_len p l) (length l) e in let h : length l ≡ position_or_len p l = omega (arith, g, k) in h ∙ sym (place_is p l)))

-- the search over the first n places
pub found_among : (p : Stretch → Bool) (n : ℕ) (l : List Stretch) {o : Option ℕ} {k : ℕ} → n ≤ length l → o ≡ position p (take n l) → k ≡ unwrap_or o n → k ≡ place_of p (take n l)
found_among p n l h eo ek = ek ∙ (λ i. unwrap_or (eo i) (sym (length-take-le n l h) i)) ∙ place_or_len p (take n l)

-- where one passes, and where none does
pub found_at : (p : Stretch → Bool) (l : List Stretch) (i : ℕ) → position p l ≡ Some i → (i ≡ place_of p l) × (i < length l)
found_at p l i e =
    by_bool (ltb (position_or_len p l) (length l))
    (λ b.
    let w : ◌≡◌ {A = Option ℕ} (Some (position_or_len p l)) (Some i) = rw b at e in
    let z : position_or_len p l ≡ i = cc in
    let h : position_or_len p l < length l = ltb-true (position_or_len p l) (length l) b in
    (sym z ∙ sym (place_is p l), omega (arith, z, h)))
    (λ b. let w : ◌≡◌ {A = Option ℕ} None (Some i) = rw b at e in absurd (let z : ⊥ = cc in z))

pub found_nowhere : (p : Stretch → Bool) (l : List Stretch) → position p l ≡ None → length l ≤ place_of p l
found_nowhere p l e =
    by_bool (ltb (position_or_len p l) (length l))
    (λ b. let w : ◌≡◌ {A = Option ℕ} (Some (position_or_len p l)) None = rw b at e in absurd (let z : ⊥ = cc in z))
    (λ b. let h : length l ≤ position_or_len p l = ltb-false (position_or_len p l) (length l) b in omega (arith, h, place_is p l))

-- ---- a place is taken out: what is behind it is turned by one, and the last is unused
set_last : (l : List Stretch) (x y : Stretch) → set (l ++ x ∷ []) (length l) y ≡ l ++ y ∷ []
set_last [] x y = refl
set_last (z ∷ zs) x y = ap (λ (l : List Stretch). z ∷ l) (set_last zs x y)

pub turned_left : (p m : ℕ) (l : List Stretch) → p ≤ m → length l ≡ suc m → set (take p l ++ (drop 1 (drop p l) ++ take 1 (drop p l))) m none ≡ remove_at p l
turned_left p m [] h e = absurd (omega arith)
turned_left zero m (x ∷ xs) h e = (λ i. set (xs ++ x ∷ []) ((let k : m ≡ length xs = omega arith in k) i) none) ∙ set_last xs x none
turned_left (suc p) zero (x ∷ xs) h e = absurd (omega arith)
turned_left (suc p) (suc m) (x ∷ xs) h e = ap (λ (l : List Stretch). x ∷ l) (turned_left p m xs (le_of_suc-le-suc h) (omega arith))

-- the rest of 32 places, which is all of them from p on
rest_all : (p : ℕ) (a : List Stretch) → length a ≡ 32 → p < 32 → mid_of p (32 - p) a ≡ drop p a
rest_all p a long h = take_all (32 - p) (drop p a) (omega (arith, length-drop p a, long))

put_rest : (p : ℕ) (a r : List Stretch) → length a ≡ 32 → p < 32 → put_mid p (32 - p) a r ≡ take p a ++ r
put_rest p a r long h = ap (λ (l : List Stretch). take p a ++ (r ++ l)) (let e : post_of p (32 - p) a ≡ [] = drop_of_length-le (drop p a) {i = 32 - p} (omega (arith, length-drop p a, long, h)) in e) ∙ ap (λ (l : List Stretch). take p a ++ l) (append-nil r)

pub closed_law : (p : ℕ) (a : List Stretch) {r : List Stretch} → length a ≡ 32 → p < 32 → r ≡ drop 1 (mid_of p (32 - p) a) ++ take 1 (mid_of p (32 - p) a) → set (put_mid p (32 - p) a r) 31 none ≡ remove_at p a
closed_law p a {r} long h e =
    ap (λ (l : List Stretch). set l 31 none) (put_rest p a r long h ∙ ap (λ (l : List Stretch). take p a ++ l) (e ∙ (λ i. drop 1 (rest_all p a long h i) ++ take 1 (rest_all p a long h i))))
    ∙ turned_left p 31 a (omega (arith, h)) (omega (arith, long))

pub remove_none : (p : ℕ) (l : List Stretch) → length l ≤ p → l ≡ remove_at p l
remove_none p [] h = refl
remove_none zero (x ∷ xs) h = absurd (not-suc-le-zero h)
remove_none (suc p) (x ∷ xs) h = ap (λ (l : List Stretch). x ∷ l) (remove_none p xs (le_of_suc-le-suc h))

-- ---- x is put in: what is from there on is turned by one, and x is put in the place of the last
insert_zero : (x : Stretch) (l : List Stretch) → take (length l) (x ∷ l) ≡ insert_at zero x l
insert_zero x [] = refl
insert_zero x (y ∷ ys) = ap (λ (l : List Stretch). x ∷ l) (insert_zero y ys)

set_first : (y x : Stretch) (l t : List Stretch) → set (drop (length l) (y ∷ l) ++ t) 0 x ≡ x ∷ t
set_first y x [] t = refl
set_first y x (z ∷ zs) t = set_first z x zs t

pub turned_right : (p k : ℕ) (x : Stretch) (l : List Stretch) → length l ≡ p + suc k → set (take p l ++ (drop k (drop p l) ++ take k (drop p l))) p x ≡ insert_at p x l
turned_right p k x [] e = absurd (omega arith)
turned_right zero k x (y ∷ ys) e =
    let n : k ≡ length ys = omega arith in
    (λ i. set (drop (n i) (y ∷ ys) ++ take (n i) (y ∷ ys)) 0 x) ∙ set_first y x ys (take (length ys) (y ∷ ys)) ∙ ap (λ (l : List Stretch). x ∷ l) (insert_zero y ys)
turned_right (suc p) k x (y ∷ ys) e = ap (λ (l : List Stretch). y ∷ l) (turned_right p k x ys (omega arith))

pub opened_law : (p : ℕ) (x : Stretch) (a : List Stretch) {r : List Stretch} → length a ≡ 32 → p < 32
    → r ≡ drop (length (mid_of p (32 - p) a) - 1) (mid_of p (32 - p) a) ++ take (length (mid_of p (32 - p) a) - 1) (mid_of p (32 - p) a) → set (put_mid p (32 - p) a r) p x ≡ insert_at p x a
opened_law p x a {r} long h e =
    let k : length (mid_of p (32 - p) a) - 1 ≡ 31 - p = omega (arith, ap length (rest_all p a long h), length-drop p a, long) in
    ap (λ (l : List Stretch). set l p x) (put_rest p a r long h ∙ ap (λ (l : List Stretch). take p a ++ l) (e ∙ (λ i. drop (k i) (rest_all p a long h i) ++ take (k i) (rest_all p a long h i))))
    ∙ turned_right p (31 - p) x a (omega (arith, h, long))

pub insert_none : (p : ℕ) (x : Stretch) (l : List Stretch) → length l ≤ p → l ≡ insert_at p x l
insert_none p x [] h = refl
insert_none zero x (y ∷ ys) h = absurd (not-suc-le-zero h)
insert_none (suc p) x (y ∷ ys) h = ap (λ (l : List Stretch). y ∷ l) (insert_none p x ys (le_of_suc-le-suc h))

-- ---- one table is read, or written
-- what has a place is laid over
pub over_cut : (n : ℕ) (xs ys : List Stretch) → n ≡ min (length xs) (length ys) → take n ys ++ drop n xs ≡ over xs ys
over_cut n [] ys e = ap (λ (k : ℕ). take k ys ++ drop k []) (let h : n ≡ 0 = omega (arith, e) in h)
over_cut n (x ∷ xs) [] e = ap (λ (k : ℕ). take k [] ++ drop k (x ∷ xs)) (let h : n ≡ 0 = omega (arith, e) in h)
over_cut zero (x ∷ xs) (y ∷ ys) e = absurd (omega (arith, e))
over_cut (suc n) (x ∷ xs) (y ∷ ys) e = ap (λ (l : List Stretch). y ∷ l) (over_cut n xs ys (omega (arith, e)))

-- what is behind the 32 places, of which a table may have fewer
pub behind_cut : (n : ℕ) (l : List Stretch) → n ≡ min (length l) 32 → every is_none (drop n l) ≡ every is_none (drop 32 l)
behind_cut n l e =
    by_bool (ltb (length l) 32)
    (λ s. let g = ltb-true (length l) 32 s in ap (every is_none) (drop_of_length-le l {i = n} (omega (arith, e, g)) ∙ sym (drop_of_length-le l {i = 32} (omega (arith, g)))))
    (λ s. let g = ltb-false (length l) 32 s in ap (λ (k : ℕ). every is_none (drop k l)) (let h : n ≡ 32 = omega (arith, e, g) in h))

-- what is seen of a table, laid over it, is the table
pub over_own : (k : ℕ) (l : List Stretch) → over l (over (replicate k none) l) ≡ l
over_own k [] = refl
over_own zero (x ∷ xs) = refl
over_own (suc k) (x ∷ xs) = ap (λ (l : List Stretch). x ∷ l) (over_own k xs)
