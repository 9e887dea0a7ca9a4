use Rattle.std.proofs.Common.{ℕ, eqb, List, ◌++◌, ap, ◌∙◌, rules}
use Rattle.lists.specs.Line.{line, pad}
use Rattle.lists.specs.Marks.{mark_of}
use Rattle.lists.proofs.LineLaws.{line_picked}
use Rattle.steps.proofs.FinishLaws.{nobody_has, some_has}
use Rattle.steps.proofs.callers.with_queue.Goals as goal

pub returns-then-not-contains : goal.returns-then-not-contains
returns-then-not-contains c = rw (nobody_has c.args.e c.args.marks c.contains.ensures.value c.if-not-contains.true)

pub returns : goal.returns
returns c =
    let a = c.args in
    rw (some_has a.e a.marks c.contains.ensures.value c.if-not-contains.false)
    (c.joined_all.ensures ∙ ap (λ (x : List ℕ). pad (line a.r ++ x)) (ap line c.picked-q.ensures ∙ line_picked (λ t. eqb (mark_of a.marks t) a.e) a.callers (search rules)))
