use Rattle.std.proofs.Common.{◌≡◌, length, rules}
use Rattle.lists.proofs.ListLaws.{mapped_long}
use Rattle.rules.specs.State.{placed, ranked}
use Rattle.rules.specs.declared.Timer.TheVariants.{Off}
use Rattle.table.proofs.LeafLaws.{ranked_moved_law}
use Rattle.table.proofs.moves.ranked_then_moved.Goals as goal

pub returns : goal.returns
returns c =
    let a = c.args in
    let l : length a.s.tasks ≡ 31 = search (rules, mapped_long) in
    ranked_moved_law a.s a.g a.level a.c a.p c.index_of-at.result c.index_of-to.result c.shown-x.result c.changed_task.result c.changed_task-2.result
    c.is_ready.result c.is_held.result c.ready_ranked-ready_then.result c.rejoined-ready_now.result c.rejoined-held_now.result c.without-delays_now.result l
    c.index_of-at.ensures.0 c.shown-x.ensures c.ready_ranked-ready_then.ensures (c.changed_task.ensures (λ x. ranked x a.level) (λ x y h. search rules)) c.index_of-to.ensures.0 (c.changed_task-2.ensures (λ x. placed x a.p Off) (λ x y h. search rules))
    c.is_ready.ensures c.is_held.ensures c.rejoined-ready_now.ensures c.rejoined-held_now.ensures c.without-delays_now.ensures
