-- The rows after a step are those of the next state.
-- Assumes nothing.
use Prim.Native.Nat.{ℕ, zero, suc, ◌+◌, ◌≤◌, ◌<◌}
use mathlib.Core.Path.{◌≡◌, refl, sym, ap, ◌∙◌}
use mathlib.Core.Bool.{Bool, true, false, not, ◌&&◌}
use mathlib.Core.List.{List, [], ◌∷◌, ◌++◌, append-nil}
use native.Mathlib.Omega.{arith}
use lib.Dec.{eqb}
use lib.ListN.{length, get_or}
use borrow.Author.Tests.{eq-eqb, ne_eqb, eqb-true}
use Rattle.calls.specs.declared.Call as C
use Rattle.lists.specs.Line.{line, pad, tidy}
use Rattle.lists.specs.Lists.{when◌then◌else◌, bit, filter, count}
use Rattle.lists.specs.Marks.{no_marks, mark_of, marked, with_mark}
use Rattle.lists.proofs.LineLaws.{tidy_pad}
use Rattle.lists.proofs.ListLaws.{by_bool, by_eq, count_append}
use Rattle.lists.proofs.MarkLaws.{filter_same, out, unmarked}
use Rattle.rules.specs.State.{State}
use Rattle.rules.specs.Step.{took}
use Rattle.rules.specs.Callers.{calling, callers_of, queued_in, gone_by, left_by, comes_by, told_by}
use Rattle.rules.specs.Runs.{target}
use Rattle.rules.specs.Second.{rows_from}
use Rattle.rules.specs.declared.Item.{Item}
use Rattle.rules.specs.declared.Row.{Row}
use Rattle.rules.proofs.Apart.{same_wait}
use Rattle.rules.proofs.Fate.{Fate}
use Rattle.rules.proofs.Invariant.{Sound}
use Rattle.rules.proofs.Leaving.{NamedIn, queue_told, joins, named_stay}
use Rattle.rules.proofs.Members.{in_filter, bit_true}
use Rattle.rules.proofs.SecondLaws.{comer}
use Rattle.steps.specs.Change.{one}
use Rattle.steps.proofs.ChangeLaws.{small}
use Rattle.second.specs.Rows.{no_row, next_row, next_rows}

-- a row of a sound struct, which has the callers l of its task
pub record RowOf (l row : List ℕ) : Type 0 where
  pub long : length row ≡ 31
  pub blank : tidy row ≡ true
  pub holds : line row ≡ l

module _ (v st : State) (c : C.Call) (a : Item) (x : List Item) (h : Sound v) (k : Sound st) (told : st.callers ≡ told_by c a x v.callers) (fates : (u : ℕ) → Fate v c u st a x) (names : NamedIn v (took st a x)) where
  -- who is gone, whose queues they have left, and whose queue the task of the answer comes into
  abbrev gone : List ℕ
  gone = marked one (gone_by a x) no_marks

  abbrev left : List ℕ
  left = marked one (left_by a x) no_marks

  abbrev into : ℕ
  into = when comes_by c a.result (length x) then target c else 0

  kept : (g : ℕ) (row : List ℕ) → RowOf (callers_of v g) row → with_mark gone 0 (line row) ≡ filter (out (gone_by a x)) (callers_of v g)
  kept g row z =
      ap (with_mark gone 0) z.holds
      ∙ filter_same _ _ (callers_of v g) (λ u j. unmarked (gone_by a x) u (λ _. small v h u (in_filter (calling v g) u v.callers j).1))

  after : (g : ℕ) → callers_of st g ≡ filter (out (gone_by a x)) (callers_of v g) ++ filter (calling st g) (comer c a x)
  after g = queue_told v st (gone_by a x) (comer c a x) g h k told (λ u p q. same_wait v st c a x u (fates u) p q)

  -- who comes is queued, on the task that it has called
  queued : comes_by c a.result (length x) ≡ true → queued_in st a.task ≡ true
  queued b =
      let e : count a.task st.callers ≡ count a.task (filter (out (gone_by a x)) v.callers) + count a.task (comer c a x) =
      ap (count a.task) told ∙ count_append a.task (filter (out (gone_by a x)) v.callers) (comer c a x) in
      let f : count a.task (comer c a x) ≡ 1 = rw b (ap (λ (y : Bool). bit y + 0) (eq-eqb a.task a.task refl)) in
      bit_true (queued_in st a.task) (omega (arith, e, f, k.callers a.task))

  comes_in : (g : ℕ) → 0 < g → filter (calling st g) (comer c a x) ≡ (when eqb g into then a.task ∷ [] else [])
  comes_in g p =
      by_bool (comes_by c a.result (length x))
      (λ b.
      let q : calling st g a.task ≡ eqb g into = (λ i. queued b i && eqb (joins v st c a x (fates a.task) (queued b) b i) g) ∙ swap (target c) ∙ ap (λ (y : Bool). eqb g (when y then target c else 0)) (sym b) in
      ap (λ (y : Bool). filter (calling st g) (when y then a.task ∷ [] else [])) b ∙ ap (λ (y : Bool). when y then a.task ∷ [] else []) q)
      (λ b. ap (λ (y : Bool). filter (calling st g) (when y then a.task ∷ [] else [])) b ∙ sym (ap (λ (y : Bool). when y then a.task ∷ [] else []) (ap (λ (y : Bool). eqb g (when y then target c else 0)) b ∙ ne_eqb g 0 (λ z. omega arith))))
    where
      swap : (u : ℕ) → eqb u g ≡ eqb g u
      swap u = by_eq u g (λ z. eq-eqb u g z ∙ sym (eq-eqb g u (sym z))) (λ z. ne_eqb u g z ∙ sym (ne_eqb g u (λ y. z (sym y))))

  -- nobody has left the queue of a task that has no mark
  unleft : (g : ℕ) → g < 32 → eqb (mark_of left g) 0 ≡ true → filter (out (gone_by a x)) (callers_of v g) ≡ callers_of v g
  unleft g l e = named_stay v st a x g names (eqb-true (count g (left_by a x)) 0 (sym (unmarked (left_by a x) g (λ _. l)) ∙ e))

  row_next : (g : ℕ) (row : List ℕ) → 0 < g → g < 32 → RowOf (callers_of v g) row → next_row (not (eqb (mark_of left g) 0)) (eqb g into) gone a.task row ≡ pad (callers_of st g)
  row_next g row p l z = by_bool (eqb g into) (λ b. rw b (ap (λ (m : List ℕ). pad (m ++ (a.task ∷ []))) (kept g row z) ∙ sym (ap pad (after g ∙ ap (λ (m : List ℕ). filter (out (gone_by a x)) (callers_of v g) ++ m) (comes_in g p ∙ rw b))))) stays
    where
      none : eqb g into ≡ false → callers_of st g ≡ filter (out (gone_by a x)) (callers_of v g)
      none b = after g ∙ ap (λ (m : List ℕ). filter (out (gone_by a x)) (callers_of v g) ++ m) (comes_in g p ∙ rw b) ∙ append-nil (filter (out (gone_by a x)) (callers_of v g))

      stays : eqb g into ≡ false → next_row (not (eqb (mark_of left g) 0)) (eqb g into) gone a.task row ≡ pad (callers_of st g)
      stays b =
          by_bool (eqb (mark_of left g) 0)
          (λ e. rw (b, e) (tidy_pad row z.long z.blank ∙ ap pad (z.holds ∙ sym (none b ∙ unleft g l e))))
          (λ e. rw (b, e) (ap pad (kept g row z ∙ sym (none b))))

  pub rows_next : (rs : List Row) (n g : ℕ) → 0 < g → g + n ≤ 32 → length rs ≡ n → ((j : ℕ) → j < n → RowOf (callers_of v (g + j)) (get_or rs j no_row).line) → next_rows left gone into a.task g rs ≡ rows_from st n g
  rows_next [] zero g p l e f = refl
  rows_next [] (suc n) g p l e f = absurd (omega arith)
  rows_next (r ∷ rs) zero g p l e f = absurd (omega arith)
  rows_next (r ∷ rs) (suc n) g p l e f =
      λ i. record { line = row_next g r.line p (omega arith) (at (g + 0) g (omega arith) (f 0 (omega arith))) i }
      ∷ rows_next rs n (suc g) (omega arith) (omega arith) (omega arith) (λ j o. at (g + suc j) (suc g + j) (omega arith) (f (suc j) (omega arith))) i
    where
      at : {row : List ℕ} (i j : ℕ) → i ≡ j → RowOf (callers_of v i) row → RowOf (callers_of v j) row
      at i j q w = record { long = w.long; blank = w.blank; holds = w.holds ∙ ap (callers_of v) q }
