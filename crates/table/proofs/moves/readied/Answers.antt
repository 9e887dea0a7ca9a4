use Rattle.std.proofs.Common.{◌∙◌, get_or, length-set, rules}
use Rattle.lists.proofs.Turns.{rest_entry}
use Rattle.rules.specs.State.{placed}
use Rattle.rules.specs.declared.Place.TheVariants.{Ready}
use Rattle.rules.specs.declared.Task.{Task}
use Rattle.rules.specs.declared.Timer.TheVariants.{Off}
use Rattle.table.proofs.LeafLaws.{changed_put, readied_on}
use Rattle.table.proofs.moves.readied.Goals as goal

pub loop-t-preserved : goal.loop-t-preserved
loop-t-preserved c =
    let s = c.loop-t in
    let l = c.args.l in
    let t = get_or l s.t-index 0 in
    let changed = c.changed_task.ensures (λ x. placed x Ready Off) (λ x y h. search rules) in (
      length-set {A = Task} s.n.tasks _ c.changed_task.result ∙ s.invariant.0,
      s.invariant.1
          ∙ readied_on s.n t _ _ _ (rest_entry l s.t-index (search rules) c.if-t-eq0.false)
          (changed_put (λ x. placed x Ready Off) s.n t _ _ s.invariant.0 c.index_of-at.ensures.0 changed),
    )
