use Rattle.std.proofs.Common.{◌<◌, [], refl, arith}
use Rattle.rules.specs.State.{add}
use Rattle.rules.specs.Whole.{view_core}
use Rattle.steps.proofs.MoveLaws.{created_is}
use Rattle.steps.proofs.AnswerLaws.{by_outcome, answers}
use Rattle.steps.proofs.CreateLaws.{create_bad, create_full, create_new, add_packed}
use Rattle.steps.proofs.create.create.Goals as goal

pub returns-then-not-in_range : goal.returns-then-not-in_range
returns-then-not-in_range c =
    let a = c.args in
    by_outcome (create_bad (view_core a.s) a.priority a.entries c.in_range.result c.in_range.ensures c.if-not-in_range.true) refl

pub returns-then-s-ge31 : goal.returns-then-s-ge31
returns-then-s-ge31 c =
    let a = c.args in
    let k = created_is a.s c.requires in
    by_outcome (create_full (view_core a.s) a.priority a.entries c.in_range.result c.in_range.ensures c.if-not-in_range.false (omega (arith, k))) refl

-- behind the second test there is room for one more
pub returns : goal.returns
returns c =
    let a = c.args in
    let h = c.requires in
    let k = created_is a.s h in
    let few : a.s.created < 31 = omega arith in
    let m = c.with_task-n in
    by_outcome (create_new (view_core a.s) a.priority a.entries c.in_range.result _ c.in_range.ensures c.if-not-in_range.false (omega (arith, k, few)) (omega (arith, k)))
    (answers _ (add (view_core a.s) a.priority a.entries) _ [] c.answered.ensures
    (add_packed a.s m.result a.priority a.entries _ _ h few refl c.fresh_task-x.ensures c.joined-ready_now.ensures m.ensures) refl)
