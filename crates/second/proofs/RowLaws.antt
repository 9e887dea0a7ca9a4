-- Rows: their lengths, the loop over them, and what is seen of them.
-- Assumes nothing.
use Prim.Native.Nat.{ℕ, zero, suc, ◌+◌, ◌≤◌, ◌<◌}
use mathlib.Core.Path.{◌≡◌, refl, sym, ap, ◌∙◌}
use mathlib.Core.Bool.{Bool, true, false, not, ◌&&◌, ◌||◌}
use mathlib.Core.List.{List, [], ◌∷◌, ◌++◌, append-nil}
use native.Mathlib.Omega.{arith}
use native.Mathlib.Numerals.{add-one, unary_clauses}
use lib.Dec.{eqb, leb}
use lib.ListN.{length, take, drop, get_or, set, drop_of_length-le}
use lib.Seq.{drop-cons, take-suc-set, take_all, append_snoc}
use denote.Array.{each}
use denote.Shadow.{shadow}
use mir.Val.{Val}
use borrow.Author.Tests.{lt-ltb, leb-false}
use Rattle.lists.specs.Line.{line, pad, pad_to, tidy}
use Rattle.lists.specs.Lists.{filter, every}
use Rattle.lists.specs.Marks.{mark_of}
use Rattle.lists.proofs.ListLaws.{by_bool}
use Rattle.lists.proofs.MarkLaws.{filter_same, filter_filter}
use Rattle.lists.proofs.Tests.{and_first, and_second}
use Rattle.rules.specs.State.{State}
use Rattle.rules.specs.Callers.{calling}
use Rattle.rules.specs.Second.{gathered, rows_right}
use Rattle.rules.specs.contracts.Row.{the_row}
use Rattle.rules.specs.declared.Row.{Row}
use Rattle.rules.specs.declared.Second.{Second}
use Rattle.rules.proofs.SecondLaws.{row_at, row_is, row_below}
use Rattle.steps.specs.Change.{line_by}
use Rattle.second.specs.Rows.{no_row, row_of, next_row, next_rows, TypedSecond}

-- ── what the type says of each row ──

pub rows_long : (rows : List Row) (us : List Val) → shadow (each (the_row).Denot (the_row).own_val rows us) → (j : ℕ) → j < length rows → length (get_or rows j no_row).line ≡ 31
rows_long [] us p j h = absurd (omega arith)
rows_long (r ∷ rs) [] p j h = absurd p
rows_long (r ∷ rs) (u ∷ us) p zero h = p.0.1.1.0.1.0.1
rows_long (r ∷ rs) (u ∷ us) p (suc j) h = rows_long rs us p.1 j (omega arith)

-- and of the whole struct
pub typed_second : (x : Second) (us : List Val) → x.core.clock < 4294967296 → length x.core.tasks ≡ 31 → length x.core.ready ≡ 31 → length x.core.held ≡ 31 → length x.core.delays ≡ 31 → length x.rows ≡ 31
    → shadow (each (the_row).Denot (the_row).own_val x.rows us) → TypedSecond x
typed_second x us k t r h d n w = record { core = record { clock = k; tasks = t; ready = r; held = h; delays = d }; rows = n; lines = λ j b. rows_long x.rows us w j (omega (arith, n, b)) }

-- ── the loop ──

drop_set : (l : List Row) (i : ℕ) (x : Row) → drop (suc i) (set l i x) ≡ drop (suc i) l
drop_set [] i x = refl
drop_set (y ∷ l) zero x = refl
drop_set (y ∷ l) (suc i) x = drop_set l i x

module _ (left gone : List ℕ) (a t : ℕ) (n : List Row) (i : ℕ) where
  -- the row at i, as it is afterwards
  abbrev here : List ℕ
  here = next_row (not (eqb (mark_of left (i + 1)) 0)) (eqb (i + 1) a) gone t (get_or n i no_row).line

  rows_on : (r : Row) → i < length n → r.line ≡ here
      → take i n ++ next_rows left gone a t (i + 1) (drop i n) ≡ take (i + 1) (set n i r) ++ next_rows left gone a t (i + 1 + 1) (drop (i + 1) (set n i r))
  rows_on r h e =
      ap (λ (l : List Row). take i n ++ next_rows left gone a t (i + 1) l) (drop-cons n i no_row h)
      ∙ ap (λ (x : Row). take i n ++ (x ∷ next_rows left gone a t (suc (i + 1)) (drop (suc i) n))) (λ j. record { line = sym e j })
      ∙ sym (append_snoc (take i n) r (next_rows left gone a t (suc (i + 1)) (drop (suc i) n)))
      ∙ (λ j. sym (take-suc-set n i r h) j ++ next_rows left gone a t (sym (add-one (i + 1)) j) (sym (drop_set n i r) j))
      ∙ ap (λ (x : ℕ). take x (set n i r) ++ next_rows left gone a t (i + 1 + 1) (drop x (set n i r))) (sym (add-one i))

  -- the row is touched, or it is not
  abbrev touched : Bool
  touched = eqb (i + 1) a || not (eqb (mark_of left (i + 1)) 0)

  abbrev Turn : List Row → Type 0
  Turn m = take i n ++ next_rows left gone a t (i + 1) (drop i n) ≡ take (i + 1) m ++ next_rows left gone a t (i + 1 + 1) (drop (i + 1) m)

  pub rows_touched : (k : List ℕ) → i < length n → touched ≡ true → k ≡ line_by gone (eqb (i + 1) a) t (get_or n i no_row).line → Turn (set n i (record { line = k }))
  rows_touched k h b e = rows_on (record { line = k }) h (e ∙ sym (rw b))

  pub rows_skipped : i < length n → touched ≡ false → Turn (set n i (get_or n i no_row))
  rows_skipped h b = rows_on (get_or n i no_row) h (sym (rw b))

pub rows_end : (left gone : List ℕ) (a t : ℕ) (n : List Row) (i : ℕ) → length n ≤ i → take i n ++ next_rows left gone a t (i + 1) (drop i n) ≡ n
rows_end left gone a t n i h = (λ j. take_all i n h j ++ next_rows left gone a t (i + 1) (drop_of_length-le n h j)) ∙ append-nil n

-- ── what is seen: the row of a task ──

row_past : (rows : List Row) (j : ℕ) → length rows ≤ j → row_at rows j ≡ []
row_past [] j h = refl
row_past (r ∷ rs) zero h = absurd (omega arith)
row_past (r ∷ rs) (suc j) h = row_past rs j (omega arith)

pub row_get : (rows : List Row) (j : ℕ) → line (get_or rows j no_row).line ≡ row_at rows j
row_get [] j = refl
row_get (r ∷ rs) zero = refl
row_get (r ∷ rs) (suc j) = row_get rs j

line_none : line (pad []) ≡ []
unfolding pad pad_to
line_none = refl

row_of_is : (rows : List Row) (j : ℕ) → length rows ≡ 31 → line (row_of rows (suc j)) ≡ row_at rows j
row_of_is rows j h =
    by_bool (leb (suc j) 31)
    (λ b. rw (lt-ltb 0 (suc j) (omega arith), b) (ap (λ (i : ℕ). line (get_or rows i no_row).line) (simp unary_clauses) ∙ row_get rows j))
    (λ b. rw (lt-ltb 0 (suc j) (omega arith), b) (line_none ∙ sym (row_past rows j (omega (arith, h, leb-false (suc j) 31 b)))))

twice : (f : ℕ → Bool) (l : List ℕ) → filter f (filter f l) ≡ filter f l
twice f l = filter_filter f f l ∙ filter_same _ _ l (λ x k. same (f x))
  where
    same : (b : Bool) → (b && b) ≡ b
    same true = refl
    same false = refl

-- the calls to a task are those in its row
pub sees_row : (v : State) (rows : List Row) (t : ℕ) → rows_right v 1 rows ≡ true → length rows ≡ 31 → filter (calling v t) (gathered rows) ≡ filter (calling v t) (line (row_of rows t))
sees_row v rows zero e h = row_below v rows 1 0 e (omega arith) ∙ sym (ap (filter (calling v 0)) line_none)
sees_row v rows (suc j) e h =
    let q : filter (calling v (suc j)) (gathered rows) ≡ row_at rows j = ap (λ (g : ℕ). filter (calling v g) (gathered rows)) (omega arith) ∙ row_is v rows 1 j e in
    sym (twice (calling v (suc j)) (gathered rows)) ∙ ap (filter (calling v (suc j))) (q ∙ sym (row_of_is rows j h))

-- each row is blank behind its callers
pub row_tidy : (v : State) (rows : List Row) (g j : ℕ) → rows_right v g rows ≡ true → j < length rows → tidy (get_or rows j no_row).line ≡ true
row_tidy v [] g j e h = absurd (omega arith)
row_tidy v (r ∷ rs) g zero e h = and_first (tidy r.line) (every (calling v g) (line r.line)) (and_first (tidy r.line && every (calling v g) (line r.line)) (rows_right v (suc g) rs) e)
row_tidy v (r ∷ rs) g (suc j) e h = row_tidy v rs (suc g) j (and_second (tidy r.line && every (calling v g) (line r.line)) (rows_right v (suc g) rs) e) (omega arith)
