-- Who stands ahead of whom in a list: what is taken out, what joins at the end and what is inserted leave the order of the others as it is.
-- Assumes nothing.
use Prim.Native.Nat.{ℕ, ◌≤◌, ◌<◌}
use mathlib.Core.Path.{◌≡◌, refl, sym, ap, ◌∙◌}
use mathlib.Core.Bool.{Bool, true, false, not, ◌&&◌}
use mathlib.Core.List.{List, [], ◌∷◌, ◌++◌}
use native.Mathlib.Omega.{arith}
use lib.Dec.{eqb, ltb}
use borrow.Author.Tests.{eqb-true, eq-eqb, ne_eqb, ltb-true, lt-ltb}
use Rattle.lists.specs.Lists.{count, filter, remove, rejoin, insert, ahead, first, last}
use Rattle.lists.proofs.Tests.{differ, and_first, and_second}
use Rattle.lists.proofs.ListLaws.{clash, by_bool, by_eq, count_append, count_filter_yes, count_remove_same, count_remove_other, count_insert, Ordered}

-- ── the order of others ──

pub ahead_filter : (f : ℕ → Bool) (a b : ℕ) (l : List ℕ) → f a ≡ true → f b ≡ true → ahead a b (filter f l) ≡ ahead a b l
ahead_filter f a b [] p q = refl
ahead_filter f a b (z ∷ zs) p q =
    let ih = ahead_filter f a b zs p q in
    by_bool (f z)
    (λ e. rw (e, count_filter_yes f b zs q, ih))
    (λ e. by_bool (eqb z a) (λ i. clash p (rw (eqb-true z a i) at e)) (λ i. rw (e, i) ih))

pub ahead_remove : (t a b : ℕ) (l : List ℕ) → (a ≡ t → ⊥) → (b ≡ t → ⊥) → ahead a b (remove t l) ≡ ahead a b l
ahead_remove t a b l n m = ahead_filter (λ x. not (eqb x t)) a b l (rw (ne_eqb a t n)) (rw (ne_eqb b t m))

ahead_end : (t a b : ℕ) (l : List ℕ) → (b ≡ t → ⊥) → ahead a b (l ++ (t ∷ [])) ≡ ahead a b l
ahead_end t a b [] m = by_bool (eqb t a) (λ e. rw e) (λ e. rw e)
ahead_end t a b (z ∷ zs) m =
    let k : count b (zs ++ (t ∷ [])) ≡ count b zs = count_append b zs (t ∷ []) ∙ rw (ne_eqb t b (λ e. m (sym e))) (omega arith) in
    rw (k, ahead_end t a b zs m)

pub ahead_rejoin : (j : Bool) (t a b : ℕ) (l : List ℕ) → (a ≡ t → ⊥) → (b ≡ t → ⊥) → ahead a b (rejoin j t l) ≡ ahead a b l
ahead_rejoin true t a b l n m = ahead_end t a b (remove t l) m ∙ ahead_remove t a b l n m
ahead_rejoin false t a b l n m = ahead_remove t a b l n m

pub ahead_insert : (f : ℕ → Bool) (t a b : ℕ) (l : List ℕ) → (a ≡ t → ⊥) → (b ≡ t → ⊥) → ahead a b (insert f t l) ≡ ahead a b l
ahead_insert f t a b [] n m = rw (ne_eqb t a (λ e. n (sym e)))
ahead_insert f t a b (z ∷ zs) n m =
    let k : count b (insert f t zs) ≡ count b zs = count_insert f t b zs ∙ rw (ne_eqb t b (λ e. m (sym e))) (omega arith) in
    by_bool (f z) (λ e. rw (e, ne_eqb t a (λ e. n (sym e)))) (λ e. rw (e, k, ahead_insert f t a b zs n m))

-- ── who comes in ──

-- all who are there stand ahead of one who joins at the end
pub ahead_joins : (t a : ℕ) (l : List ℕ) → 0 < count a l → ahead a t (l ++ (t ∷ [])) ≡ true
ahead_joins t a [] h = absurd (omega arith)
ahead_joins t a (z ∷ zs) h =
    by_bool (eqb z a)
    (λ e. rw (e, lt-ltb 0 (count t (zs ++ (t ∷ []))) (rw (count_append t zs (t ∷ []), eq-eqb t t refl) (omega arith))))
    (λ e. rw e (ahead_joins t a zs (omega (arith, rw e at h))))

-- and those with a key no greater ahead of one who is inserted by its key
pub ahead_inserted : (k : ℕ → ℕ) (f : ℕ → Bool) (t a : ℕ) (l : List ℕ) → ((x : ℕ) → 0 < count x l → f x ≡ ltb (k t) (k x)) → Ordered k l
    → 0 < count a l → k a ≤ k t → ahead a t (insert f t l) ≡ true
ahead_inserted k f t a [] g o h q = absurd (omega arith)
ahead_inserted k f t a (z ∷ zs) g o h q =
    by_bool (f z)
    (λ e. let w : k t < k z = ltb-true (k t) (k z) (sym (g z (rw (eq-eqb z z refl) (omega arith))) ∙ e) in
    absurd (by_eq z a (λ y. omega (arith, w, q, ap k y)) (λ n. omega (arith, w, q, o.0 a (omega (arith, rw (ne_eqb z a n) at h))))))
    (λ e. by_bool (eqb z a)
    (λ i. rw (e, i, lt-ltb 0 (count t (insert f t zs)) (rw (count_insert f t t zs, eq-eqb t t refl) (omega arith))))
    (λ i. rw (e, i) (ahead_inserted k f t a zs (λ x j. g x (omega arith)) o.1 (omega (arith, rw i at h)) q)))

-- a stands in the list, and u, if it does too, behind it: so it stays while others leave, or join at the end
abbrev pub Leads : ℕ → ℕ → List ℕ → Type 0
Leads a u l = (0 < count a l) × (0 < count u l → ahead a u l ≡ true)

pub leads_rejoin : (j : Bool) (t a u : ℕ) (l : List ℕ) → (a ≡ t → ⊥) → Leads a u l → Leads a u (rejoin j t l)
leads_rejoin j t a u l n h = (rw (count_rejoin j a n) h.0, by_eq u t (λ z. rw z (joins j)) (λ m i. rw (ahead_rejoin j t a u l n m) (h.1 (rw (count_rejoin j u m) at i))))
  where
    count_rejoin : (j : Bool) (x : ℕ) → (x ≡ t → ⊥) → count x (rejoin j t l) ≡ count x l
    count_rejoin true x m = count_append x (remove t l) (t ∷ []) ∙ rw (count_remove_other t x l m, ne_eqb t x (λ e. m (sym e))) (omega arith)
    count_rejoin false x m = count_remove_other t x l m

    joins : (j : Bool) → 0 < count t (rejoin j t l) → ahead a t (rejoin j t l) ≡ true
    joins true i = ahead_joins t a (remove t l) (rw (count_remove_other t a l n) h.0)
    joins false i = absurd (omega (arith, i, count_remove_same t l))

-- ── the first, the last, and one way only ──

pub first_ahead : (b : ℕ) (l : List ℕ) → 0 < count b l → (b ≡ first l → ⊥) → ahead (first l) b l ≡ true
first_ahead b [] h n = absurd (omega arith)
first_ahead b (z ∷ zs) h n = rw (eq-eqb z z refl, lt-ltb 0 (count b zs) (omega (arith, rw (ne_eqb z b (λ e. n (sym e))) at h)))

pub last_behind : (a : ℕ) (l : List ℕ) → 0 < count a l → (a ≡ last l → ⊥) → ahead a (last l) l ≡ true
last_behind a [] h n = absurd (omega arith)
last_behind a (z ∷ []) h n = absurd (omega (arith, rw (ne_eqb z a (λ e. n (sym e))) at h))
last_behind a (z ∷ y ∷ ys) h n =
    by_bool (eqb z a)
    (λ e. rw (e, lt-ltb 0 (count (last (y ∷ ys)) (y ∷ ys)) (last_there y ys)))
    (λ e. rw e (last_behind a (y ∷ ys) (omega (arith, rw e at h)) n))
  where
    last_there : (y : ℕ) (ys : List ℕ) → 0 < count (last (y ∷ ys)) (y ∷ ys)
    last_there y [] = rw (eq-eqb y y refl) (omega arith)
    last_there y (x ∷ xs) = omega (arith, last_there x xs)

ahead_there : (a b : ℕ) (l : List ℕ) → ahead a b l ≡ true → (0 < count a l) × (0 < count b l)
ahead_there a b [] e = differ (sym e)
ahead_there a b (z ∷ zs) e =
    by_bool (eqb z a && ltb 0 (count b zs))
    (λ i. (rw (and_first (eqb z a) (ltb 0 (count b zs)) i) (omega arith), omega (arith, ltb-true 0 (count b zs) (and_second (eqb z a) (ltb 0 (count b zs)) i))))
    (λ i. let k = ahead_there a b zs (rw i at e) in (omega (arith, k.0), omega (arith, k.1)))

pub one_way : (a b : ℕ) (l : List ℕ) → count a l ≤ 1 → count b l ≤ 1 → ahead a b l ≡ true → ahead b a l ≡ true → ⊥
one_way a b [] i j p q = differ (sym p)
one_way a b (z ∷ zs) i j p q =
    by_bool (eqb z a && ltb 0 (count b zs))
    (λ e. let za = and_first (eqb z a) (ltb 0 (count b zs)) e in
    let bk = ltb-true 0 (count b zs) (and_second (eqb z a) (ltb 0 (count b zs)) e) in
    by_bool (eqb z b && ltb 0 (count a zs))
    (λ f. omega (arith, bk, rw (and_first (eqb z b) (ltb 0 (count a zs)) f) at j))
    (λ f. let k = ahead_there b a zs (rw f at q) in omega (arith, k.1, rw za at i)))
    (λ e. by_bool (eqb z b && ltb 0 (count a zs))
    (λ f. let k = ahead_there a b zs (rw e at p) in omega (arith, k.1, rw (and_first (eqb z b) (ltb 0 (count a zs)) f) at j))
    (λ f. one_way a b zs (omega (arith, i)) (omega (arith, j)) (rw e at p) (rw f at q)))
