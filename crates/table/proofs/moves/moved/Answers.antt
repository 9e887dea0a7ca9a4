use Rattle.std.proofs.Common.{◌≡◌, length, rules}
use Rattle.lists.proofs.ListLaws.{mapped_long}
use Rattle.rules.specs.State.{placed}
use Rattle.table.proofs.LeafLaws.{moved_law}
use Rattle.table.proofs.moves.moved.Goals as goal

pub returns : goal.returns
returns c =
    let a = c.args in
    let l : length a.s.tasks ≡ 31 = search (rules, mapped_long) in
    moved_law a.s a.t a.p a.w c.index_of-at.result c.changed_task.result c.is_ready.result c.is_held.result c.rejoined-ready_now.result c.rejoined-held_now.result c.retimed-delays_now.result l
    c.index_of-at.ensures.0 (c.changed_task.ensures (λ x. placed x a.p a.w) (λ x y h. search rules)) c.is_ready.ensures c.is_held.ensures c.rejoined-ready_now.ensures c.rejoined-held_now.ensures c.retimed-delays_now.ensures
