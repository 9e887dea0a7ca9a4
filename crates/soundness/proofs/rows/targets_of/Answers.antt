use Rattle.std.proofs.Common.{◌+◌, ap, ◌∙◌, arith, rules}
use Rattle.lists.proofs.ListLaws.{mapped_long}
use Rattle.rules.specs.declared.Task.{Task}
use Rattle.table.proofs.LeafLaws.{shown_at, index_next}
use Rattle.soundness.specs.Rows.{called_by}
use Rattle.soundness.proofs.RowLaws.{targets_on, targets_none}
use Rattle.soundness.proofs.rows.targets_of.Goals as goal

pub loop-i-init : goal.loop-i-init
loop-i-init c = (search (rules, mapped_long), targets_none c.args.s)

pub loop-i-preserved : goal.loop-i-preserved
loop-i-preserved c =
    let l = c.loop-i in
    let s = c.args.s in
    let e = shown_at s (l.i + 1) l.i c.shown-x.result l.invariant.0 (index_next l.i (omega arith)) c.shown-x.ensures in
    (l.invariant.0, targets_on s l.targets l.i c.called.result (omega arith) l.invariant.1 (c.called.ensures ∙ ap (λ (x : Task). called_by x.place) e))

pub returns : goal.returns
returns c = λ t k. c.loop-i.invariant.1.1 t (omega arith)
