use Rattle.std.proofs.Common.{rules}
use Rattle.steps.proofs.ChangeLaws.{line_joins}
use Rattle.steps.proofs.change.next_line.Goals as goal

pub returns-then-joins : goal.returns-then-joins
returns-then-joins c =
    let a = c.args in
    line_joins a.marks a.joins a.t a.l c.picked-kept.result (search rules) c.picked-kept.ensures c.joined.ensures c.if-joins.true

pub returns : goal.returns
returns c = rw c.if-joins.false c.picked-kept.ensures
