-- Laws of marks, and of the filters and the insertion that they make: two filters in a row, tests that agree, lists joined.
-- Assumes nothing.
use Prim.Native.Nat.{ℕ, ◌+◌, ◌≤◌, ◌<◌}
use mathlib.Core.Path.{◌≡◌, refl, sym, ◌∙◌, ap}
use mathlib.Core.Bool.{Bool, true, false, not, ◌&&◌, and_comm}
use mathlib.Core.List.{List, [], ◌∷◌, ◌++◌, append_assoc}
use native.Mathlib.Omega.{arith}
use lib.Dec.{eqb, ltb}
use lib.ListN.{length, set, length-set, get_or-replicate, get_or-eq_default}
use lib.Seq.{get_or-set_same, get_or-set_other}
use borrow.Author.Tests.{eq-eqb, ne_eqb, ltb-true, ltb-false}
use Rattle.lists.specs.Lists.{bit, filter, remove, insert, count}
use Rattle.lists.specs.Marks.{no_marks, mark_of, marked, insert_by}
use Rattle.lists.proofs.ListLaws.{by_bool, by_eq}

-- ── filters and insertion ──

-- tests that agree on the members pick the same
pub filter_same : (f g : ℕ → Bool) (l : List ℕ) → ((x : ℕ) → 0 < count x l → f x ≡ g x) → filter f l ≡ filter g l
filter_same f g [] h = refl
filter_same f g (x ∷ xs) h =
    let here = h x (rw (eq-eqb x x refl) (omega arith)) in
    let rest = filter_same f g xs (λ y k. h y (omega arith)) in
    rw (here, rest)

-- tests that agree on the members insert alike
pub insert_same : (f g : ℕ → Bool) (t : ℕ) (l : List ℕ) → ((x : ℕ) → 0 < count x l → f x ≡ g x) → insert f t l ≡ insert g t l
insert_same f g t [] h = refl
insert_same f g t (x ∷ xs) h =
    let here = h x (rw (eq-eqb x x refl) (omega arith)) in
    let rest = insert_same f g t xs (λ y k. h y (omega arith)) in
    rw (here, rest)

-- all pass
pub filter_all : (f : ℕ → Bool) (l : List ℕ) → ((x : ℕ) → f x ≡ true) → filter f l ≡ l
filter_all f [] h = refl
filter_all f (x ∷ xs) h = rw (h x, filter_all f xs h)

-- none passes
pub filter_none : (f : ℕ → Bool) (l : List ℕ) → ((x : ℕ) → 0 < count x l → f x ≡ false) → filter f l ≡ []
filter_none f [] h = refl
filter_none f (x ∷ xs) h = rw (h x (rw (eq-eqb x x refl) (omega arith))) (filter_none f xs (λ y k. h y (omega arith)))

-- t alone passes, and stands there once
pub filter_one : (t : ℕ) (l : List ℕ) → count t l ≡ 1 → filter (λ x. eqb x t) l ≡ t ∷ []
filter_one t [] h = absurd (omega arith)
filter_one t (x ∷ xs) h =
    by_eq x t
    (λ e. rw (eq-eqb x t e, filter_none (λ y. eqb y t) xs (λ y k. ne_eqb y t (λ z. omega (arith, rw (eq-eqb x t e) at h, rw z at k))), e))
    (λ n. rw (ne_eqb x t n) (filter_one t xs (omega (arith, rw (ne_eqb x t n) at h))))

-- one that fails the test may be removed before
pub filter_remove : (f : ℕ → Bool) (t : ℕ) (l : List ℕ) → f t ≡ false → filter f (remove t l) ≡ filter f l
filter_remove f t [] h = refl
filter_remove f t (x ∷ xs) h =
    let ih = filter_remove f t xs h in
    by_eq x t (λ z. let e : f x ≡ false = ap f z ∙ h in rw (eq-eqb x t z, e) ih) (λ n. rw (ne_eqb x t n, ih))

-- one that is not there may be removed
pub remove_absent : (t : ℕ) (l : List ℕ) → count t l ≡ 0 → remove t l ≡ l
remove_absent t [] h = refl
remove_absent t (x ∷ xs) h =
    by_eq x t (λ e. absurd (omega (arith, rw (eq-eqb x t e) at h))) (λ n. rw (ne_eqb x t n) (ap (λ (l : List ℕ). x ∷ l) (remove_absent t xs (omega arith))))

-- one filter behind another
pub filter_filter : (f g : ℕ → Bool) (l : List ℕ) → filter f (filter g l) ≡ filter (λ x. g x && f x) l
filter_filter f g [] = refl
filter_filter f g (x ∷ xs) =
    let ih = filter_filter f g xs in
    by_bool (g x) (λ e. rw (e, ih)) (λ e. rw (e, ih))

-- it does not matter which of two filters comes first
pub filter_swap : (f g : ℕ → Bool) (l : List ℕ) → filter f (filter g l) ≡ filter g (filter f l)
filter_swap f g l =
    filter_filter f g l ∙ filter_same (λ x. g x && f x) (λ x. f x && g x) l (λ x _. and_comm (g x) (f x)) ∙ sym (filter_filter g f l)

-- two lists joined
pub filter_append : (f : ℕ → Bool) (l m : List ℕ) → filter f (l ++ m) ≡ filter f l ++ filter f m
filter_append f [] m = refl
filter_append f (x ∷ xs) m = by_bool (f x) (λ e. rw (e, filter_append f xs m)) (λ e. rw (e, filter_append f xs m))

-- ── marks ──

pub marked_length : (f : ℕ → ℕ) (l m : List ℕ) → length (marked f l m) ≡ length m
marked_length f [] m = refl
marked_length f (t ∷ ts) m = marked_length f ts (set m t (f t)) ∙ length-set m t (f t)

-- who is not in the list keeps its mark
pub mark_out : (f : ℕ → ℕ) (l m : List ℕ) (x : ℕ) → count x l ≡ 0 → mark_of (marked f l m) x ≡ mark_of m x
mark_out f [] m x h = refl
mark_out f (t ∷ ts) m x h =
    by_eq t x
    (λ e. absurd (omega (arith, rw (eq-eqb t x e) at h)))
    (λ e. mark_out f ts (set m t (f t)) x (omega arith) ∙ get_or-set_other m t x (f t) 0 (λ q. e (sym q)))

-- who is in the list has the mark that f gives
pub mark_in : (f : ℕ → ℕ) (l m : List ℕ) (x : ℕ) → 0 < count x l → x < length m → mark_of (marked f l m) x ≡ f x
mark_in f [] m x h k = absurd (omega arith)
mark_in f (t ∷ ts) m x h k =
    by_eq (count x ts) 0
    (λ z. by_eq t x
    (λ e. mark_out f ts (set m t (f t)) x z ∙ rw e (get_or-set_same m x (f x) 0 k))
    (λ e. absurd (omega (arith, z, rw (ne_eqb t x e) at h))))
    (λ z. mark_in f ts (set m t (f t)) x (omega arith) (omega (arith, length-set m t (f t))))

-- who is in the list has what f gives as its mark, if f gives nothing to the numbers that have none
pub mark_is : (f : ℕ → ℕ) (l : List ℕ) (x : ℕ) → 0 < count x l → (32 ≤ x → f x ≡ 0) → mark_of (marked f l no_marks) x ≡ f x
mark_is f l x h k =
    by_bool (ltb x 32)
    (λ e. mark_in f l no_marks x h (ltb-true x 32 e))
    (λ e. get_or-eq_default (marked f l no_marks) 0 (omega (arith, ltb-false x 32 e, marked_length f l no_marks)) ∙ sym (k (ltb-false x 32 e)))

-- insertion by keys is insertion by what f gives
pub insert_by_lem : (f : ℕ → ℕ) (k t : ℕ) (l : List ℕ) → ((x : ℕ) → 32 ≤ x → f x ≡ 0) → insert_by (marked f l no_marks) k t l ≡ insert (λ x. ltb k (f x)) t l
insert_by_lem f k t l h = insert_same _ _ t l (λ x j. ap (ltb k) (mark_is f l x j (h x)))

-- one turn of marking
pub mark_on : (f : ℕ → ℕ) (xs : List ℕ) (x : ℕ) (ys m : List ℕ) (v : ℕ) → xs ≡ x ∷ ys → v ≡ f x → marked f xs m ≡ marked f ys (set m x v)
mark_on f xs x ys m v q e = ap (λ (l : List ℕ). marked f l m) q ∙ ap (λ (k : ℕ). marked f ys (set m x k)) (sym e)

-- ── who is not in a list ──

-- x does not stand in the list
abbrev pub out : List ℕ → ℕ → Bool
out l x = eqb (count x l) 0

-- at the start nobody has a mark
pub none_marked : (x : ℕ) → mark_of no_marks x ≡ 0
none_marked x = by_bool (ltb x 32) (λ e. get_or-replicate 32 x 0 0 (ltb-true x 32 e)) (λ e. get_or-eq_default no_marks 0 (ltb-false x 32 e))

-- where each of the list has a mark, those without one are those not in the list
pub unmarked : (l : List ℕ) (x : ℕ) → (0 < count x l → x < 32) → eqb (mark_of (marked (λ _. 1) l no_marks) x) 0 ≡ out l x
unmarked l x h =
    by_eq (count x l) 0
    (λ z. rw (mark_out (λ _. 1) l no_marks x z, none_marked x, z))
    (λ z. rw (mark_in (λ _. 1) l no_marks x (omega arith) (h (omega arith)), ne_eqb (count x l) 0 z))

-- without t, and then without all of a list
pub out_cons : (t : ℕ) (ts l : List ℕ) → filter (out ts) (remove t l) ≡ filter (out (t ∷ ts)) l
out_cons t ts l = filter_filter (out ts) (λ x. not (eqb x t)) l ∙ filter_same _ _ l (λ x k. one x)
  where
    one : (x : ℕ) → (not (eqb x t) && eqb (count x ts) 0) ≡ eqb (bit (eqb t x) + count x ts) 0
    one x =
        by_eq x t
        (λ e. rw (e, eq-eqb t t refl) (sym (ne_eqb (1 + count t ts) 0 (λ z. omega arith))))
        (λ e. let z : count x ts ≡ 0 + count x ts = omega arith in rw (ne_eqb x t e, ne_eqb t x (λ q. e (sym q))) (ap (λ (k : ℕ). eqb k 0) z))

-- t comes to the end of the list without t, and then all of ts to the end of what is left without them
pub out_rejoin : (t : ℕ) (ts l : List ℕ) → count t ts ≡ 0 → filter (out ts) (remove t l ++ (t ∷ [])) ++ ts ≡ filter (out (t ∷ ts)) l ++ (t ∷ ts)
out_rejoin t ts l z =
    let last : filter (out ts) (t ∷ []) ≡ t ∷ [] = rw z in
    ap (λ (r : List ℕ). r ++ ts) (filter_append (out ts) (remove t l) (t ∷ []) ∙ λ i. out_cons t ts l i ++ last i)
    ∙ append_assoc (filter (out (t ∷ ts)) l) (t ∷ []) ts
