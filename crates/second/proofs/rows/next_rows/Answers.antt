use native.Mathlib.Omega.{arith}
use borrow.Author.Rules.{rules}
use mathlib.Core.Path.{refl, sym, ◌∙◌}
use lib.ListN.{length-set}
use Rattle.lists.proofs.ListLaws.{mapped_long}
use Rattle.rules.specs.declared.Row.{Row}
use Rattle.second.proofs.RowLaws.{rows_touched, rows_skipped, rows_end}
use Rattle.second.proofs.rows.next_rows.Goals as goal
use Rattle.second.proofs.rows.next_rows.Goals.{then-joins-left, else-joins-left}

pub loop-i-init : goal.loop-i-init
loop-i-init c = (search (rules, mapped_long), refl)

pub loop-i-preserved : goal.loop-i-preserved
loop-i-preserved c =
    let l = c.loop-i in
    let a = c.args in
    elim c.if-joins-left.branch [
      | then-joins-left w ↦ (rw w.row-items-is (length-set {A = Row} l.row-items l.i _ ∙ l.invariant.0), rw w.row-items-is (l.invariant.1 ∙ rows_touched a.left a.gone a.g a.t l.row-items l.i w.next_line-row.result (omega (arith, l.invariant.0)) (rw c.from.ensures at w.if-joins-left.true) (rw c.from.ensures at w.next_line-row.ensures)))
      | else-joins-left w ↦ (rw w.row-items-is (length-set {A = Row} l.row-items l.i _ ∙ l.invariant.0), rw w.row-items-is (l.invariant.1 ∙ rows_skipped a.left a.gone a.g a.t l.row-items l.i (omega (arith, l.invariant.0)) (rw c.from.ensures at w.if-joins-left.false)))
    ]

pub returns : goal.returns
returns c =
    let l = c.loop-i in
    let a = c.args in
    sym (l.invariant.1 ∙ rows_end a.left a.gone a.g a.t l.row-items l.i (omega (arith, l.invariant.0)))
