use Rattle.std.proofs.Common.{rules, ◌≡◌, length, ap, ◌∙◌}
use Rattle.lists.proofs.ListLaws.{mapped_long}
use Rattle.table.specs.declared.queues.Test.TheVariants.{QueuedOn}
use Rattle.steps.proofs.MoveLaws.{picked_line}
use Rattle.steps.proofs.engine.queue_length.Goals as goal

pub returns : goal.returns
returns c =
    let a = c.args in
    let k : length a.callers ≡ 31 = search (rules, mapped_long) in
    c.len.ensures ∙ ap length (picked_line a.core a.callers (QueuedOn a.t a.e) c.picked.result k c.picked.ensures)
