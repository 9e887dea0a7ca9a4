use Rattle.std.proofs.Common.{refl, ap, ◌∙◌, rules}
use Rattle.lists.proofs.MarkLaws.{mark_on}
use Rattle.lists.proofs.ListLaws.{mapped_long, down_on}
use Rattle.rules.specs.State.{priority_of}
use Rattle.rules.specs.Whole.{view_core}
use Rattle.rules.specs.declared.Task.{Task}
use Rattle.table.proofs.LeafLaws.{shown_at}
use Rattle.table.proofs.tree.priorities_of.Goals as goal

pub loop-t-init : goal.loop-t-init
loop-t-init c = (search (rules, mapped_long), refl)

pub loop-t-preserved : goal.loop-t-preserved
loop-t-preserved c =
    let l = c.loop-t in
    let s = c.args.s in
    let v = l.invariant in
    -- the priority of task t
    let priority = ap (λ (x : Task). x.priority) (shown_at s l.t _ _ v.0 c.index_of-at.ensures.0 c.shown-x.ensures) in
    (v.0, rw c.mark.ensures (v.1 ∙ mark_on (priority_of (view_core s)) _ _ _ l.known _ (down_on l.t c.loop-t-test.true) priority))
