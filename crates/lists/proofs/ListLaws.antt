-- Laws of the lists of specs/Lists.antt: what filter, remove, insert do to a count and to an order; tests taken apart.
-- Assumes nothing.
use Prim.Native.Nat.{ℕ, zero, suc, ◌+◌, ◌-◌, ◌≤◌, ◌<◌}
use mathlib.Core.Path.{◌≡◌, refl, sym, ◌∙◌, ap}
use mathlib.Core.Bool.{Bool, true, false, not, ◌&&◌, true≢false}
use mathlib.Core.List.{List, [], ◌∷◌, ◌++◌, map}
use native.Mathlib.Omega.{arith}
use native.Mathlib.Numerals.{unary_clauses}
use lib.ListN.{length, replicate, length-map}
use lib.Dec.{eqb, ltb, leb}
use borrow.Author.Tests.{eqb-true, eqb-false, eq-eqb, ne_eqb, ltb-true, ltb-false, leb-true, le-leb}
use Rattle.std.specs.List.{list_all}
use Rattle.lists.specs.Lists.{when◌then◌else◌, bit, filter, remove, insert, count, every, in_order_by, down_from}
use Rattle.lists.proofs.Tests.{and_first, and_second, and_both}

-- ── tests ──

-- a test that passes and fails
pub clash : {A : Type 0} {b : Bool} → b ≡ true → b ≡ false → A
clash p q = absurd (true≢false (sym p ∙ q))

-- what holds of both branches, each under its test, holds of the choice
pub by_test {ℓ κ} : {A : Type ℓ} (P : A → Type κ) (b : Bool) {x y : A} → (b ≡ true → P x) → (b ≡ false → P y) → P (when b then x else y)
by_test P true f g = f refl
by_test P false f g = g refl

-- a test's two values
pub by_bool {κ} : {P : Type κ} (b : Bool) → (b ≡ true → P) → (b ≡ false → P) → P
by_bool true f g = f refl
by_bool false f g = g refl

-- equal or not
pub by_eq {κ} : {P : Type κ} (u t : ℕ) → (u ≡ t → P) → ((u ≡ t → ⊥) → P) → P
by_eq u t f g = by_bool (eqb u t) (λ e. f (eqb-true u t e)) (λ e. g (eqb-false u t e))

-- ── count ──

-- in the list or not
pub by_member {κ} : {P : Type κ} (u : ℕ) (l : List ℕ) → (0 < count u l → P) → (count u l ≡ 0 → P) → P
by_member u l f g = by_eq (count u l) 0 g (λ n. f (omega arith))

-- who cannot be in the list is not
pub not_in : (u : ℕ) (l : List ℕ) → (0 < count u l → ⊥) → count u l ≡ 0
not_in u l f = by_member u l (λ k. absurd (f k)) (λ z. z)

-- how often in two lists joined
pub count_append : (u : ℕ) (l m : List ℕ) → count u (l ++ m) ≡ count u l + count u m
count_append u [] m = omega arith
count_append u (x ∷ xs) m = omega (arith, count_append u xs m)

-- who passes the test stays as often
pub count_filter_yes : (f : ℕ → Bool) (u : ℕ) (l : List ℕ) → f u ≡ true → count u (filter f l) ≡ count u l
count_filter_yes f u [] h = refl
count_filter_yes f u (x ∷ xs) h = go (f x) refl (count_filter_yes f u xs h)
  where
    go : (b : Bool) → f x ≡ b → count u (filter f xs) ≡ count u xs → count u (when b then x ∷ filter f xs else filter f xs) ≡ bit (eqb x u) + count u xs
    go true e ih = omega (arith, ih)
    go false e ih = rw (ne_eqb x u (λ q. clash (ap f q ∙ h) e)) (omega (arith, ih))

-- who fails it is gone
pub count_filter_no : (f : ℕ → Bool) (u : ℕ) (l : List ℕ) → f u ≡ false → count u (filter f l) ≡ 0
count_filter_no f u [] h = refl
count_filter_no f u (x ∷ xs) h = go (f x) refl (count_filter_no f u xs h)
  where
    go : (b : Bool) → f x ≡ b → count u (filter f xs) ≡ 0 → count u (when b then x ∷ filter f xs else filter f xs) ≡ 0
    go true e ih = rw (ne_eqb x u (λ q. clash e (ap f q ∙ h))) (omega (arith, ih))
    go false e ih = ih

-- t is gone from the list without t
pub count_remove_same : (t : ℕ) (l : List ℕ) → count t (remove t l) ≡ 0
count_remove_same t l = count_filter_no (λ x. not (eqb x t)) t l (ap not (eq-eqb t t refl))

-- the others stay
pub count_remove_other : (t u : ℕ) (l : List ℕ) → (u ≡ t → ⊥) → count u (remove t l) ≡ count u l
count_remove_other t u l h = count_filter_yes (λ x. not (eqb x t)) u l (ap not (ne_eqb u t h))

-- an inserted number stands once more
pub count_insert : (f : ℕ → Bool) (t u : ℕ) (l : List ℕ) → count u (insert f t l) ≡ bit (eqb t u) + count u l
count_insert f t u [] = refl
count_insert f t u (x ∷ xs) = go (f x) (count_insert f t u xs)
  where
    go : (b : Bool) → count u (insert f t xs) ≡ bit (eqb t u) + count u xs → count u (when b then t ∷ x ∷ xs else x ∷ insert f t xs) ≡ bit (eqb t u) + (bit (eqb x u) + count u xs)
    go true ih = refl
    go false ih = omega (arith, ih)

-- ── every, by the members ──

-- the library's test of all is the same
pub every_is : {A : Type 0} (p : A → Bool) (l : List A) → list_all p l ≡ every p l
every_is p [] = refl
every_is p (x ∷ xs) = ap (λ (b : Bool). p x && b) (every_is p xs)

-- what holds of all holds of each member
pub every_at : (g : ℕ → Bool) (l : List ℕ) → every g l ≡ true → (x : ℕ) → 0 < count x l → g x ≡ true
every_at g [] h x k = absurd (omega arith)
every_at g (y ∷ ys) h x k = by_eq y x (λ e. ap g (sym e) ∙ and_first (g y) (every g ys) h) (λ n. every_at g ys (and_second (g y) (every g ys) h) x (omega (arith, rw (ne_eqb y x n) at k)))

-- what holds of each member holds of all
pub every_of : (g : ℕ → Bool) (l : List ℕ) → ((x : ℕ) → 0 < count x l → g x ≡ true) → every g l ≡ true
every_of g [] h = refl
every_of g (y ∷ ys) h = and_both (h y (rw (eq-eqb y y refl) (omega arith))) (every_of g ys (λ x k. h x (omega arith)))

-- what holds of all is d: a list of d alone
pub every_alike : {A : Type 0} (p : A → Bool) (d : A) → ((x : A) → p x ≡ true → x ≡ d) → (l : List A) → every p l ≡ true → l ≡ replicate (length l) d
every_alike p d f [] h = refl
every_alike p d f (x ∷ xs) h = λ i. f x (and_first (p x) (every p xs) h) i ∷ every_alike p d f xs (and_second (p x) (every p xs) h) i

-- ── order ──

-- each has a key no greater than that of those behind it
abbrev pub Ordered : (ℕ → ℕ) → List ℕ → Type 0
Ordered k [] = Unit {0}
Ordered k (x ∷ xs) = ((y : ℕ) → 0 < count y xs → k x ≤ k y) × Ordered k xs

-- a list that passes the test of order is in order
pub ordered_of : (k : ℕ → ℕ) (l : List ℕ) → in_order_by (λ a b. leb (k a) (k b)) l ≡ true → Ordered k l
ordered_of k [] o = tt
ordered_of k (x ∷ xs) o =
    let e = every (λ b. leb (k x) (k b)) xs in
    let r = in_order_by (λ a b. leb (k a) (k b)) xs in
    (λ y j. leb-true (k x) (k y) (every_at (λ b. leb (k x) (k b)) xs (and_first e r o) y j), ordered_of k xs (and_second e r o))

-- a list in order passes the test
pub in_order : (k : ℕ → ℕ) (l : List ℕ) → Ordered k l → in_order_by (λ a b. leb (k a) (k b)) l ≡ true
in_order k [] o = refl
in_order k (x ∷ xs) o =
    and_both (every_of (λ b. leb (k x) (k b)) xs (λ y j. le-leb (k x) (k y) (o.0 y j))) (in_order k xs o.1)

-- a filtered list has nobody more often
pub count_filter_le : (f : ℕ → Bool) (u : ℕ) (l : List ℕ) → count u (filter f l) ≤ count u l
count_filter_le f u l = by_bool (f u) (λ e. omega (arith, count_filter_yes f u l e)) (λ e. omega (arith, count_filter_no f u l e))

-- a filtered list stays in order
pub ordered_filter : (k : ℕ → ℕ) (g : ℕ → Bool) (l : List ℕ) → Ordered k l → Ordered k (filter g l)
ordered_filter k g [] o = tt
ordered_filter k g (x ∷ xs) o =
    let ih = ordered_filter k g xs o.1 in
    by_test (Ordered k) (g x) (λ e. (λ y j. o.0 y (omega (arith, count_filter_le g y xs)), ih)) (λ e. ih)

-- an order depends on the keys of the members alone
pub ordered_cong : (k m : ℕ → ℕ) (l : List ℕ) → ((x y : ℕ) → 0 < count x l → 0 < count y l → k x ≤ k y → m x ≤ m y) → Ordered k l → Ordered m l
ordered_cong k m [] h o = tt
ordered_cong k m (x ∷ xs) h o =
    (λ y j. h x y (rw (eq-eqb x x refl) (omega arith)) (omega arith) (o.0 y j), ordered_cong k m xs (λ y z i j. h y z (omega arith) (omega arith)) o.1)

-- t is put behind all those with a key that is no greater
pub ordered_insert : (k : ℕ → ℕ) (g : ℕ → Bool) (t : ℕ) (l : List ℕ) → ((x : ℕ) → 0 < count x l → g x ≡ ltb (k t) (k x)) → Ordered k l → Ordered k (insert g t l)
ordered_insert k g t [] h o = (λ y j. absurd (omega arith), tt)
ordered_insert k g t (x ∷ xs) h o =
    let gx = h x (rw (eq-eqb x x refl) (omega arith)) in
    let ih = ordered_insert k g t xs (λ y j. h y (omega arith)) o.1 in
    by_test (Ordered k) (g x)
    (λ e. (λ y j. by_eq x y (λ q. omega (arith, ltb-true (k t) (k x) (sym gx ∙ e), ap k q)) (λ n. omega (arith, o.0 y (omega (arith, rw (ne_eqb x y n) at j)), ltb-true (k t) (k x) (sym gx ∙ e))), o))
    (λ e. (λ y j. by_eq t y (λ q. omega (arith, ltb-false (k t) (k x) (sym gx ∙ e), ap k q)) (λ n. o.0 y (omega (arith, rw (ne_eqb t y n) at (count_insert g t y xs)))), ih))

-- ── how long ──

-- a list in which nobody stands
pub nobody : (l : List ℕ) → ((u : ℕ) → 0 < count u l → ⊥) → l ≡ []
nobody [] h = refl
nobody (x ∷ xs) h = absurd (h x (rw (eq-eqb x x refl) (omega arith)))

-- a list is as long as the list of what is made of each: so it is with an array of structs, of whose elements the toolchain says more than their number
pub mapped_long : {A B : Type 0} (f : A → B) (l : List A) (n : ℕ) → length (map f l) ≡ n → length l ≡ n
mapped_long f l n h = sym (length-map l f) ∙ h

-- a list is as long as what is left without t, and t as often as it stands there
pub length_remove : (t : ℕ) (l : List ℕ) → length l ≡ length (remove t l) + count t l
length_remove t [] = refl
length_remove t (x ∷ xs) = go (eqb x t) refl (length_remove t xs)
  where
    go : (b : Bool) → eqb x t ≡ b → length xs ≡ length (remove t xs) + count t xs → suc (length xs) ≡ length (when not b then x ∷ remove t xs else remove t xs) + (bit (eqb x t) + count t xs)
    go true e ih = rw e (omega (arith, ih))
    go false e ih = rw e (omega (arith, ih))

-- distinct numbers of 1..n are at most n
pub at_most : (n : ℕ) (l : List ℕ) → ((u : ℕ) → count u l ≤ 1) → ((u : ℕ) → 0 < count u l → (0 < u) × (u ≤ n)) → length l ≤ n
at_most zero [] h k = omega arith
at_most zero (x ∷ xs) h k = let i = k x (rw (eq-eqb x x refl) (omega arith)) in omega (arith, i.0, i.1)
at_most (suc n) l h k =
    omega (
      arith,
      length_remove (suc n) l,
      h (suc n),
      at_most n (remove (suc n) l)
          (λ u. by_eq u (suc n) (λ e. rw e (omega (arith, count_remove_same (suc n) l))) (λ m. omega (arith, count_remove_other (suc n) u l m, h u)))
          (λ u j. by_eq u (suc n)
          (λ e. absurd (omega (arith, count_remove_same (suc n) l, rw e at j)))
          (λ m. let i = k u (omega (arith, count_remove_other (suc n) u l m)) in (i.0, omega (arith, i.1, m)))),
    )

-- each number stands equally often in both
abbrev Alike : List ℕ → List ℕ → Type 0
Alike l m = (u : ℕ) → count u l ≡ count u m

none_alike : (m : List ℕ) → Alike [] m → 0 ≡ length m
none_alike [] h = refl
none_alike (y ∷ ys) h = absurd (omega (arith, rw (eq-eqb y y refl) at (h y)))

-- such lists are equally long; n bounds the first one's length
pub same_length : (n : ℕ) (l m : List ℕ) → length l ≤ n → Alike l m → length l ≡ length m
same_length zero l m k h = go l k h
  where
    go : (l : List ℕ) → length l ≤ 0 → Alike l m → length l ≡ length m
    go [] k h = none_alike m h
    go (x ∷ xs) k h = absurd (omega arith)
same_length (suc n) l m k h = go l k h (λ x. same_length n (remove x l) (remove x m))
  where
    go : (l : List ℕ) → length l ≤ suc n → Alike l m → ((x : ℕ) → length (remove x l) ≤ n → Alike (remove x l) (remove x m) → length (remove x l) ≡ length (remove x m)) → length l ≡ length m
    go [] k h f = none_alike m h
    go (x ∷ xs) k h f =
        let one : 0 < count x (x ∷ xs) = rw (eq-eqb x x refl) (omega arith) in
        let less = f x (omega (arith, one, k, length_remove x (x ∷ xs)))
        (λ u. by_eq u x
        (λ e. rw e (omega (arith, count_remove_same x (x ∷ xs), count_remove_same x m)))
        (λ e. omega (arith, count_remove_other x u (x ∷ xs) e, count_remove_other x u m e, h u))) in
        omega (arith, less, length_remove x (x ∷ xs), length_remove x m, h x)

-- ── n, n - 1, .., 1 ──

-- t, and those below it
pub down_on : (t : ℕ) → 0 < t → down_from t ≡ t ∷ down_from (t - 1)
down_on zero h = absurd (omega arith)
down_on (suc t) h = simp unary_clauses

pub down_end : (t : ℕ) → t ≤ 0 → down_from t ≡ []
down_end zero h = refl
down_end (suc t) h = absurd (omega arith)

-- each of 1..n stands there once
pub down_once : (u n : ℕ) → 0 < u → u ≤ n → count u (down_from n) ≡ 1
down_once u zero a b = absurd (omega arith)
down_once u (suc n) a b = by_eq (suc n) u (λ e. rw (eq-eqb (suc n) u e) (omega (arith, down_none u n (omega (arith, e))))) (λ k. rw (ne_eqb (suc n) u k) (omega (arith, down_once u n a (omega (arith, b, k)))))
  where
    down_none : (u n : ℕ) → n < u → count u (down_from n) ≡ 0
    down_none u zero k = refl
    down_none u (suc n) k = rw (ne_eqb (suc n) u (λ e. omega (arith, e, k))) (omega (arith, down_none u n (omega arith)))

-- what holds of all of them holds of each of 1..n
pub down_at : (f : ℕ → Bool) (n : ℕ) → every f (down_from n) ≡ true → (t : ℕ) → 0 < t → t ≤ n → f t ≡ true
down_at f n e t a b = every_at f (down_from n) e t (omega (arith, down_once t n a b))
