use Rattle.std.proofs.Common.{sym, ap, ◌∙◌, arith, rules}
use Rattle.lists.proofs.ListLaws.{mapped_long}
use Rattle.soundness.specs.Marks.{Marks}
use Rattle.soundness.specs.Rows.{met_all}
use Rattle.soundness.proofs.RowLaws.{all_on, all_fail, all_end}
use Rattle.soundness.proofs.rows.rows_hold.Goals as goal

pub loop-i-init : goal.loop-i-init
loop-i-init c = (search (rules, mapped_long), ap (λ (m : Marks). met_all c.args.targets 1 m c.args.rows) (sym c.next-rest.ensures))

pub returns-in_default : goal.returns-in_default
returns-in_default c =
    let l = c.loop-i in
    let a = c.args in
    sym (l.invariant.1 ∙ all_fail a.targets l.rest a.rows l.i c.met_row.result (omega (arith, l.invariant.0)) c.met_row.ensures c.in_default.is)

pub loop-i-preserved : goal.loop-i-preserved
loop-i-preserved c =
    let l = c.loop-i in
    let a = c.args in
    (l.invariant.0, l.invariant.1 ∙ all_on a.targets l.rest a.rows l.i c.met_row.result c.in-Some.left (omega (arith, l.invariant.0)) c.met_row.ensures c.in-Some.is)

pub returns : goal.returns
returns c =
    let l = c.loop-i in
    let a = c.args in
    c.is_none.ensures ∙ sym (l.invariant.1 ∙ all_end a.targets l.rest a.rows l.i (omega (arith, l.invariant.0)))
