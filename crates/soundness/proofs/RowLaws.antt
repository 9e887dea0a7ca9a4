-- The check of the rows, against what the rules ask of the callers of the second engine.
-- Assumes nothing.
use Rattle.std.proofs.Common.{◌≡◌, ℕ, zero, suc, ◌+◌, ◌<◌, ◌≤◌, Bool, true, false, ◌&&◌, eqb, ltb, leb, List, [], ◌∷◌, ◌++◌, Option, None, Some, length, get_or, take, drop, set, sym, refl, ap, ◌∙◌, add-one, arith, length-set, drop_of_length-le, length-take, drop-cons, get_or-set_other, get_or-set_same, ltb-false, ltb-true, ne_eqb, leb-true}
use mathlib.Core.Bool.{and-false, and_assoc}
use Rattle.std.specs.Bool.{then_some}
use lib.ListN.{get_or-eq_default}
use Rattle.lists.specs.Line.{line, tidy, blanks}
use Rattle.lists.specs.Lists.{when◌then◌else◌, bit, count, every, down_from}
use Rattle.lists.specs.Marks.{no_marks, mark_of}
use Rattle.lists.proofs.Tests.{and_first}
use Rattle.lists.proofs.ListLaws.{clash, by_bool, by_eq}
use Rattle.rules.specs.State.{place_of, task_of, is_queued, partner_of}
use Rattle.rules.specs.Callers.{calling}
use Rattle.rules.specs.Second.{gathered, rows_right, sound_second}
use Rattle.rules.specs.Whole.{view_core}
use Rattle.rules.specs.declared.Core.{Core}
use Rattle.rules.specs.declared.Row.{Row}
use Rattle.rules.specs.declared.Second.{Second}
use Rattle.rules.specs.declared.Task.{Task}
use Rattle.rules.proofs.Members.{nth_beyond}
use Rattle.soundness.specs.Marks.{Marks, has_mark, next_mark, without_mark, if_any, is_none}
use Rattle.soundness.specs.Rows.{called_by, Targets, met_in, met_all}
use Rattle.soundness.specs.Check.{Callers, belongs, marked_in, core_sound, checked_of}
use Rattle.soundness.proofs.TaskLaws.{named}
use Rattle.soundness.proofs.LineLaws.{emptied, emptied_wanted, and_swap}
use Rattle.soundness.proofs.WholeLaws.{callers_right, core_is, if_sound}

-- the walk over a list, and what is asked of the word that is left
abbrev along : Marks → List ℕ → (Marks → Bool) → Bool
along m [] K = K m
along m (x ∷ xs) K = has_mark m x && along (without_mark m x) xs K

along_same : (m : Marks) (l : List ℕ) (K L : Marks → Bool) → ((n : Marks) → K n ≡ L n) → along m l K ≡ along m l L
along_same m [] K L h = h m
along_same m (x ∷ xs) K L h = ap (λ (b : Bool). has_mark m x && b) (along_same (without_mark m x) xs K L h)

along_and : (b : Bool) (m : Marks) (l : List ℕ) (K : Marks → Bool) → along m l (λ n. b && K n) ≡ (b && along m l K)
along_and b m [] K = refl
along_and b m (x ∷ xs) K = ap (λ (c : Bool). has_mark m x && c) (along_and b (without_mark m x) xs K) ∙ and_swap (has_mark m x) b (along (without_mark m x) xs K)

along_all : (m : Marks) (l k : List ℕ) → along m l (λ n. emptied n k) ≡ emptied m (l ++ k)
along_all m [] k = refl
along_all m (x ∷ xs) k = ap (λ (c : Bool). has_mark m x && c) (along_all (without_mark m x) xs k)

module _ (T : List ℕ) where
  -- who has called task g, by the targets
  abbrev to : ℕ → ℕ → Bool
  to g x = eqb (mark_of T x) g

  row_step : (g : ℕ) (C : Marks → Bool) (l : List ℕ) (m : Marks) → if_any (met_in T g m l) C ≡ ((tidy l && every (to g) (line l)) && along m (line l) C)
  row_step g C [] m = refl
  row_step g C (zero ∷ xs) m = by_bool (blanks xs) (λ e. rw e) (λ e. rw e)
  row_step g C (suc n ∷ xs) m =
      by_bool (has_mark m (suc n))
      (λ h. by_bool (to g (suc n))
      (λ c. rw (h, c) (row_step g C xs (without_mark m (suc n))))
      (λ c. rw (h, c) (sym (ap (λ (x : Bool). x && along (without_mark m (suc n)) (line xs) C) (and-false (tidy xs))))))
      (λ h. rw h (sym (and-false (tidy xs && (to g (suc n) && every (to g) (line xs))))))

  -- each row is tidy, and has those alone who have called its task
  abbrev rows_to : ℕ → List Row → Bool
  rows_to g [] = true
  rows_to g (r ∷ rs) = (tidy r.line && every (to g) (line r.line)) && rows_to (suc g) rs

  rows_step : (g : ℕ) (m : Marks) (rs : List Row) → met_all T g m rs ≡ (rows_to g rs && emptied m (gathered rs))
  rows_step g m [] = refl
  rows_step g m (r ∷ rs) =
      let l = line r.line in
      let R = tidy r.line && every (to g) l in
      row_step g (λ n. met_all T (suc g) n rs) r.line m
      ∙ ap (λ (x : Bool). R && x)
      (along_same m l (λ n. met_all T (suc g) n rs) (λ n. rows_to (suc g) rs && emptied n (gathered rs)) (λ n. rows_step (suc g) n rs)
      ∙ along_and (rows_to (suc g) rs) m l (λ n. emptied n (gathered rs))
      ∙ ap (λ (x : Bool). rows_to (suc g) rs && x) (along_all m l (gathered rs)))
      ∙ sym (and_assoc R (rows_to (suc g) rs) (emptied m (l ++ gathered rs)))

-- ── the loops ──

module _ (T : List ℕ) (g m : ℕ) (l : List ℕ) (i : ℕ) where
  pub met_blank : i < length l → get_or l i 0 ≡ 0 → met_in T g m (drop i l) ≡ then_some (blanks (drop i l)) m
  met_blank h e = rw (drop-cons l i 0 h, e)

  pub met_on : i < length l → (get_or l i 0 ≡ 0 → ⊥) → (b : Bool) → b ≡ (has_mark m (get_or l i 0) && eqb (mark_of T (get_or l i 0)) g)
      → met_in T g m (drop i l) ≡ (when b then met_in T g (without_mark m (get_or l i 0)) (drop (i + 1) l) else None)
  met_on h n b e = rw (e, drop-cons l i 0 h, add-one i) (number (get_or l i 0) n)
    where
      number : (x : ℕ) → (x ≡ 0 → ⊥) → met_in T g m (x ∷ drop (suc i) l) ≡ (when has_mark m x && eqb (mark_of T x) g then met_in T g (without_mark m x) (drop (suc i) l) else None)
      number zero n = absurd (n refl)
      number (suc x) n = refl

  pub met_end : length l ≤ i → met_in T g m (drop i l) ≡ Some m
  met_end h = rw (drop_of_length-le l h)

-- a row that is blank throughout
pub blank_row : (T : List ℕ) (g m : ℕ) (l : List ℕ) → blanks l ≡ true → met_in T g m l ≡ Some m
blank_row T g m [] e = refl
blank_row T g m (zero ∷ xs) e = rw e
blank_row T g m (suc n ∷ xs) e = clash (and_first (eqb (suc n) 0) (blanks xs) e) (ne_eqb (suc n) 0 (λ z. omega arith))

abbrev pub no_row : Row
no_row = record { line = [] }

-- the next row: somebody stands there who is not to be met there, and nobody does
module _ (T : List ℕ) (m : ℕ) (rows : List Row) (i : ℕ) where
  next_row : i < length rows → met_all T (i + 1) m (drop i rows) ≡ if_any (met_in T (i + 1) m (get_or rows i no_row).line) (λ n. met_all T (i + 1 + 1) n (drop (i + 1) rows))
  next_row h = ap (met_all T (i + 1) m) (drop-cons rows i no_row h) ∙ λ j. if_any (met_in T (i + 1) m (get_or rows i no_row).line) (λ n. met_all T (sym (add-one (i + 1)) j) n (drop (sym (add-one i) j) rows))

  pub all_fail : (k : Option Marks) → i < length rows → k ≡ met_in T (i + 1) m (get_or rows i no_row).line → k ≡ None → met_all T (i + 1) m (drop i rows) ≡ false
  all_fail k h e n = next_row h ∙ ap (λ (x : Option Marks). if_any x (λ n. met_all T (i + 1 + 1) n (drop (i + 1) rows))) (sym e ∙ n)

  pub all_on : (k : Option Marks) (q : Marks) → i < length rows → k ≡ met_in T (i + 1) m (get_or rows i no_row).line → k ≡ Some q → met_all T (i + 1) m (drop i rows) ≡ met_all T (i + 1 + 1) q (drop (i + 1) rows)
  all_on k q h e n = next_row h ∙ ap (λ (x : Option Marks). if_any x (λ n. met_all T (i + 1 + 1) n (drop (i + 1) rows))) (sym e ∙ n)

  pub all_end : length rows ≤ i → met_all T (i + 1) m (drop i rows) ≡ is_none m
  all_end h = ap (met_all T (i + 1) m) (drop_of_length-le rows h)

-- the targets of the tasks up to i are told
abbrev pub TargetsTo : Core → List ℕ → ℕ → Type 0
TargetsTo s m i = (length m ≡ 32) × ((t : ℕ) → t ≤ i → mark_of m t ≡ called_by (place_of (view_core s) t))

pub targets_on : (s : Core) (m : List ℕ) (i b : ℕ) → i < 31 → TargetsTo s m i → b ≡ called_by (place_of (view_core s) (i + 1)) → TargetsTo s (set m (i + 1) b) (i + 1)
targets_on s m i b h k e = (
  length-set m (i + 1) b ∙ k.0,
  λ t l. by_eq t (i + 1)
      (λ z. ap (λ (x : ℕ). mark_of (set m (i + 1) b) x) z ∙ get_or-set_same m (i + 1) b 0 (omega (arith, k.0)) ∙ e ∙ ap (λ (x : ℕ). called_by (place_of (view_core s) x)) (sym z))
      (λ n. get_or-set_other m (i + 1) t b 0 n ∙ k.1 t (omega arith)),
)

pub targets_none : (s : Core) → TargetsTo s no_marks 0
targets_none s = (refl, go)
  where
    go : (t : ℕ) → t ≤ 0 → mark_of no_marks t ≡ called_by (place_of (view_core s) t)
    go zero h = refl
    go (suc t) h = absurd (omega arith)

-- ── the check ──

-- by the targets and by the rules
to_calling : (s : Core) (T : List ℕ) (g x : ℕ) → 0 < g → s.created ≤ 31 → length T ≡ 32 → Targets s T → to T g x ≡ calling (view_core s) g x
to_calling s T g x p h l k =
    let v = view_core s in
    by_bool (ltb x 32)
    (λ b. ap (λ (n : ℕ). eqb n g) (k x (ltb-true x 32 b)) ∙ by_bool (is_queued (place_of v x)) (λ q. rw q) (λ q. rw q (ne_eqb 0 g (λ z. omega arith))))
    (λ b.
    let far = ltb-false x 32 b in
    ap (λ (n : ℕ). eqb n g) (get_or-eq_default T 0 {n = x} (omega arith)) ∙ ne_eqb 0 g (λ z. omega arith)
    ∙ sym (ap (λ (y : Task). is_queued y.place && eqb (partner_of y.place) g) (nth_beyond (take s.created s.tasks) x (simp length-take (omega arith)))))

every_same_all : (f g : ℕ → Bool) (l : List ℕ) → ((x : ℕ) → f x ≡ g x) → every f l ≡ every g l
every_same_all f g [] h = refl
every_same_all f g (x ∷ xs) h = λ i. h x i && every_same_all f g xs h i

rows_to_lem : (s : Core) (T : List ℕ) (rs : List Row) (g : ℕ) → 0 < g → s.created ≤ 31 → length T ≡ 32 → Targets s T → rows_to T g rs ≡ rows_right (view_core s) g rs
rows_to_lem s T [] g p h l k = refl
rows_to_lem s T (r ∷ rs) g p h l k =
    λ i. (tidy r.line && every_same_all (to T g) (calling (view_core s) g) (line r.line) (λ x. to_calling s T g x p h l k) i) && rows_to_lem s T rs (suc g) (omega arith) h l k i

-- what the code finds, of the core and of the rows
pub second_is : (x : Second) (T : List ℕ) → x.core.clock < 4294967296 → length x.core.tasks ≡ 31 → length T ≡ 32 → Targets x.core T
    → if_any (checked_of x.core) (λ w. met_all T 1 (next_mark w false) x.rows) ≡ sound_second x
second_is x T clock l n et =
    let s = x.core in
    if_sound s (λ w. met_all T 1 (next_mark w false) x.rows)
    ∙ by_bool (leb s.created 31)
    (λ p.
    let h : s.created ≤ 31 = leb-true s.created 31 p in
    let f : ℕ → Bool = λ t. belongs Callers (task_of (view_core s) t) in
    let q = gathered x.rows in
    let e : met_all T 1 (next_mark (marked_in s Callers) false) x.rows ≡ callers_right s q (rows_right (view_core s) 1 x.rows) =
    rows_step T 1 (next_mark (marked_in s Callers) false) x.rows
    ∙ (λ i. rows_to_lem s T x.rows 1 (omega arith) h n et i && emptied_wanted s.created f q h i)
    ∙ sym (and_assoc (rows_right (view_core s) 1 x.rows) (every (named s.created) q) (every (λ t. eqb (count t q) (bit (f t))) (down_from s.created))) in
    ap (λ (b : Bool). core_sound s && b) e ∙ core_is s q (rows_right (view_core s) 1 x.rows) clock l)
    (λ p. rw p)

pub second_none : (x : Second) → x.core.clock < 4294967296 → length x.core.tasks ≡ 31 → checked_of x.core ≡ None → false ≡ sound_second x
second_none x clock l e =
    let s = x.core in
    let q = gathered x.rows in
    by_bool (core_sound s)
    (λ p. absurd (cc (rw p at e)))
    (λ p. ap (λ (b : Bool). b && callers_right s q (rows_right (view_core s) 1 x.rows)) (sym p) ∙ core_is s q (rows_right (view_core s) 1 x.rows) clock l)
