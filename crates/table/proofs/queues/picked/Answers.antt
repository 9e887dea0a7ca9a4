use Rattle.std.proofs.Common.{◌≡◌, length, rules}
use Rattle.lists.proofs.ListLaws.{mapped_long}
use Rattle.rules.specs.Whole.{view_core}
use Rattle.table.specs.Moved.{passes_of}
use Rattle.table.proofs.LeafLaws.{shown_is}
use Rattle.table.proofs.queues.picked.Goals as goal

pub returns : goal.returns
returns c =
    let a = c.args in
    let l : length a.s.tasks ≡ 31 = search (rules, mapped_long) in
    -- what the closure says of task x is what the test says of it
    c.kept.ensures (passes_of (view_core a.s) a.q) (λ x b _ post. rw (← shown_is a.s.tasks a.s.created x l) (search rules))
