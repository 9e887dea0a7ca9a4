-- A walk that meets each task of the line once, in order, has seen what the rules ask of the line.
-- Assumes nothing.
use Rattle.std.proofs.Common.{◌≡◌, ℕ, zero, suc, ◌+◌, ◌-◌, ◌^◌, ◌<◌, ◌≤◌, Bool, true, false, ◌&&◌, eqb, ltb, List, [], ◌∷◌, sym, refl, ap, subst, ◌∙◌, arith, ltb-false, ltb-true, le-ltb, lt-ltb, eq-eqb, ne_eqb}
use mathlib.Core.Bool.{and-false, and_assoc, and_comm}
use Rattle.lists.specs.Line.{line, blanks, tidy}
use Rattle.lists.specs.Lists.{when◌then◌else◌, bit, count, every, down_from}
use Rattle.lists.proofs.ListLaws.{by_bool, by_eq, clash, every_of, down_at}
use Rattle.lists.proofs.Tests.{and_first, between}
use Rattle.rules.specs.State.{task_of}
use Rattle.rules.specs.Whole.{view_core}
use Rattle.rules.specs.declared.Core.{Core}
use Rattle.soundness.specs.Marks.{Marks, Whole, no_marks, has_mark, next_mark, without_mark, is_none}
use Rattle.soundness.specs.Check.{Line, Ready, Callers, Held, Delays, belongs, marked, marked_in, walked, holds_in}
use Rattle.soundness.proofs.TaskLaws.{named, named_is}
use Rattle.soundness.proofs.MarkLaws.{next_whole, next_low, below, without_whole, has_none, has_first, has_next, has_without, none_has, has_all}

-- ── what the rules ask of a line ──

-- where the code keeps the line
abbrev pub array_of : Core → Line → List ℕ
array_of s Ready = s.ready
array_of s Callers = []
array_of s Held = s.held
array_of s Delays = s.delays

-- the array is task numbers 1..n and blanks behind, and has each of 1..n once if it passes the test, and else not
unfoldable pub line_has : ℕ → (ℕ → Bool) → List ℕ → Bool
line_has n f a = (tidy a && every (named n) (line a)) && every (λ t. eqb (count t (line a)) (bit (f t))) (down_from n)

-- the line holds the created tasks that stand in it, each once, and nothing else
abbrev pub stands_in : Core → Line → Bool
stands_in s l = line_has s.created (λ t. belongs l (task_of (view_core s) t)) (array_of s l)

-- ── tests that pass at each of 1..n ──

-- two tests that agree on 1..n
pub every_same : (f g : ℕ → Bool) (n : ℕ) → ((t : ℕ) → 0 < t → t ≤ n → f t ≡ g t) → every f (down_from n) ≡ every g (down_from n)
every_same f g zero h = refl
every_same f g (suc n) h = rw (h (suc n) (omega arith) (omega arith), every_same f g n (λ t a b. h t a (omega arith)))

eqb_suc : (k : ℕ) → eqb k 0 ≡ eqb (1 + k) 1
eqb_suc k = by_eq k 0 (λ e. rw e) (λ e. rw (ne_eqb k 0 e, ne_eqb (1 + k) 1 (λ z. e (omega arith))))

-- ── who is to be met ──

-- of 1..n those that pass the test are to be met
abbrev pub wanted : (ℕ → Bool) → ℕ → Marks
wanted f n = next_mark (marked f no_marks (down_from n)) false

-- the word of the tasks n, n - 1, .., 1 behind the marks m, of which there are j: task 1 is bit 0
marked_low : (f : ℕ → Bool) (n j : ℕ) (m : Marks) → m < 2 ^ j → n + j ≤ 31 → marked f m (down_from n) < 2147483648
marked_low f zero j m l h = below j m l (omega arith)
marked_low f (suc n) j m l h = marked_low f n (suc j) (next_mark m (f (suc n))) (next_low m (f (suc n)) j l (omega arith)) (omega arith)

has_marked : (f : ℕ → Bool) (n j : ℕ) (m : Marks) (t : ℕ) → m < 2 ^ j → n + j ≤ 31 → has_mark (marked f m (down_from n)) t ≡ (when ltb t n then f (suc t) else has_mark m (t - n))
has_marked f zero j m t l h = let z : t - 0 ≡ t = omega arith in rw (le-ltb t 0 (omega arith), z)
has_marked f (suc n) j m t l h =
    has_marked f n (suc j) (next_mark m (f (suc n))) t (next_low m (f (suc n)) j l (omega arith)) (omega arith)
    ∙ by_bool (ltb t n)
    (λ e. let k = ltb-true t n e in rw (e, lt-ltb t (suc n) (omega arith)))
    (λ e. let k = ltb-false t n e in rw e (by_eq t n
    (λ q. let z : t - n ≡ 0 = omega arith in rw (z, lt-ltb t (suc n) (omega arith)) (has_first m (f (suc n)) ∙ ap (λ (x : ℕ). f (suc x)) (sym q)))
    (λ q. let z : t - n ≡ suc (t - suc n) = omega arith in rw (z, le-ltb t (suc n) (omega arith)) (has_next m (f (suc n)) (t - suc n) (below j m l (omega arith))))))

pub has_wanted : (f : ℕ → Bool) (n t : ℕ) → n ≤ 31 → has_mark (wanted f n) t ≡ (named n t && f t)
has_wanted f n zero h = has_first (marked f no_marks (down_from n)) false
has_wanted f n (suc t) h =
    has_next (marked f no_marks (down_from n)) false t (marked_low f n 0 no_marks (omega arith) (omega arith))
    ∙ has_marked f n 0 no_marks t (omega arith) (omega arith)
    ∙ by_bool (ltb t n)
    (λ e. let k = ltb-true t n e in rw (e, lt-ltb 0 (suc t) (omega arith)))
    (λ e. let k = ltb-false t n e in rw (e, has_none (t - n), lt-ltb 0 (suc t) (omega arith)))

-- ── who is met ──

-- each in the list is still to be met as the walk comes to it, and at the end none is
abbrev pub emptied : Marks → List ℕ → Bool
emptied m [] = is_none m
emptied m (x ∷ xs) = has_mark m x && emptied (without_mark m x) xs

-- only tasks 1..n are to be met
abbrev Within : ℕ → Marks → Type 0
Within n m = (t : ℕ) → has_mark m t ≡ true → named n t ≡ true

-- each of 1..n stands in the list once if it is to be met, and else not
abbrev counts : ℕ → Marks → List ℕ → Bool
counts n m l = every (λ t. eqb (count t l) (bit (has_mark m t))) (down_from n)

-- none is to be met exactly where none stands in the empty list
none_left : (n : ℕ) (m : Marks) → Whole m → Within n m → is_none m ≡ counts n m []
none_left n m w h =
    by_bool (is_none m)
    (λ e. e ∙ sym (every_of (λ t. eqb (count t []) (bit (has_mark m t))) (down_from n) (λ t _. rw (none_has m t e))))
    (λ e. e ∙ sym (by_bool (counts n m []) (λ q. clash (has_all m w (λ t. missing t q)) e) (λ q. q)))
  where
    missing : (t : ℕ) → counts n m [] ≡ true → has_mark m t ≡ false
    missing t q =
        by_bool (has_mark m t)
        (λ y. let i = between t n (h t y) in clash (down_at (λ t. eqb (count t []) (bit (has_mark m t))) n q t i.0 i.1) (rw y))
        (λ y. y)

-- x is met: it stands once more in the list than in the rest, where it is not to be met again
met : (n : ℕ) (m : Marks) (x : ℕ) (l : List ℕ) → Whole m → x < 32 → has_mark m x ≡ true → counts n (without_mark m x) l ≡ counts n m (x ∷ l)
met n m x l w k e = every_same _ _ n (λ t a b. one t)
  where
    one : (t : ℕ) → eqb (count t l) (bit (has_mark (without_mark m x) t)) ≡ eqb (count t (x ∷ l)) (bit (has_mark m t))
    one t =
        rw (has_without m x t w k e)
        (by_eq t x
        (λ q. subst (λ (u : ℕ). eqb (count u l) (bit (when eqb u x then false else has_mark m u)) ≡ eqb (count u (x ∷ l)) (bit (has_mark m u))) (sym q)
        (rw (eq-eqb x x refl, e) (eqb_suc (count x l))))
        (λ q. rw (ne_eqb t x q, ne_eqb x t (λ z. q (sym z))) (ap (λ (k : ℕ). eqb k (bit (has_mark m t))) (omega arith))))

-- x is not to be met: the list has it too often
unmet : (n : ℕ) (m : Marks) (x : ℕ) (l : List ℕ) → named n x ≡ true → has_mark m x ≡ false → counts n m (x ∷ l) ≡ false
unmet n m x l k e =
    let i = between x n k in
    by_bool (counts n m (x ∷ l))
    (λ q. clash (down_at (λ t. eqb (count t (x ∷ l)) (bit (has_mark m t))) n q x i.0 i.1) (rw (e, eq-eqb x x refl) (ne_eqb (1 + count x l) 0 (λ z. omega arith))))
    (λ q. q)

emptied_is : (n : ℕ) (m : Marks) (l : List ℕ) → n ≤ 31 → Whole m → Within n m → emptied m l ≡ (every (named n) l && counts n m l)
emptied_is n m [] l w h = none_left n m w h
emptied_is n m (x ∷ xs) l w h =
    let ih = emptied_is n (without_mark m x) xs l in
    by_bool (has_mark m x)
    (λ e. let k = h x e in let low : x < 32 = omega (arith, between x n k) in
    rw (e, k) (ih (without_whole m x w) (onward low e) ∙ ap (λ (b : Bool). every (named n) xs && b) (met n m x xs w low e)))
    (λ e. rw e
    (by_bool (named n x)
    (λ k. rw (unmet n m x xs k e) (sym (and-false (named n x && every (named n) xs))))
    (λ k. rw k)))
  where
    onward : x < 32 → has_mark m x ≡ true → Within n (without_mark m x)
    onward low e t y =
        let z : (when eqb t x then false else has_mark m t) ≡ true = sym (has_without m x t w low e) ∙ y in
        by_bool (eqb t x) (λ q. clash y (has_without m x t w low e ∙ rw q)) (λ q. h t (rw q at z))

-- ── the walk ──

-- the first two of three tests change places: with this, `simp` sorts tests that are taken together
pub and_swap : (a b c : Bool) → (a && (b && c)) ≡ (b && (a && c))
and_swap true b c = refl
and_swap false b c = sym (and-false b)

-- a walk looks at two things at once
walked_is : (m : Marks) (l : List ℕ) → walked m l ≡ (tidy l && emptied m (line l))
walked_is m [] = refl
walked_is m (zero ∷ xs) = and_comm (is_none m) (blanks xs)
walked_is m (suc n ∷ xs) =
    ap (λ (b : Bool). has_mark m (suc n) && b) (walked_is (without_mark m (suc n)) xs) ∙ and_swap (has_mark m (suc n)) (tidy xs) (emptied (without_mark m (suc n)) (line xs))

-- a tidy array where each is met has each of 1..n once that passes the test, and nothing else
line_is : (n : ℕ) (f : ℕ → Bool) (a : List ℕ) → n ≤ 31 → (tidy a && emptied (wanted f n) (line a)) ≡ line_has n f a
unfolding line_has
line_is n f a l =
    ap (λ (b : Bool). tidy a && b)
    (emptied_is n (wanted f n) (line a) l (next_whole _ false) (λ t e. and_first (named n t) (f t) (sym (has_wanted f n t l) ∙ e))
    ∙ ap (λ (b : Bool). every (named n) (line a) && b)
    (every_same _ _ n (λ t p q. ap (λ (b : Bool). eqb (count t (line a)) (bit b)) (passing t p q))))
    ∙ sym (and_assoc (tidy a) (every (named n) (line a)) (every (λ t. eqb (count t (line a)) (bit (f t))) (down_from n)))
  where
    passing : (t : ℕ) → 0 < t → t ≤ n → has_mark (wanted f n) t ≡ f t
    passing t p q = has_wanted f n t l ∙ ap (λ (b : Bool). b && f t) (named_is n t p q)

-- where each of a list is met in its turn, and none is left, it has each of 1..n once that passes the test, and nothing else
pub emptied_wanted : (n : ℕ) (f : ℕ → Bool) (l : List ℕ) → n ≤ 31 → emptied (next_mark (marked f no_marks (down_from n)) false) l ≡ (every (named n) l && every (λ t. eqb (count t l) (bit (f t))) (down_from n))
emptied_wanted n f l h =
    emptied_is n (wanted f n) l h (next_whole _ false) (λ t e. and_first (named n t) (f t) (sym (has_wanted f n t h) ∙ e))
    ∙ ap (λ (b : Bool). every (named n) l && b)
    (every_same _ _ n (λ t p q. ap (λ (b : Bool). eqb (count t l) (bit b)) (has_wanted f n t h ∙ ap (λ (b : Bool). b && f t) (named_is n t p q))))

-- the same of any array and any test
pub holds_any : (n : ℕ) (f : ℕ → Bool) (a : List ℕ) → n ≤ 31 → holds_in (marked f no_marks (down_from n)) a ≡ line_has n f a
holds_any n f a h = walked_is (next_mark (marked f no_marks (down_from n)) false) a ∙ line_is n f a h

pub stands_is : (s : Core) (l : Line) → s.created ≤ 31 → holds_in (marked_in s l) (array_of s l) ≡ stands_in s l
stands_is s l h = holds_any s.created (λ t. belongs l (task_of (view_core s) t)) (array_of s l) h
