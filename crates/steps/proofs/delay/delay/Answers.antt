use Rattle.std.proofs.Common.{◌≡◌, [], refl, ap, ◌∙◌, to_z-of_z}
use Rattle.rules.specs.Step.{delay_for, ticks, item, ELAPSED}
use Rattle.rules.specs.Whole.{view_core}
use Rattle.steps.proofs.AnswerLaws.{no_runner, runner, unrun, by_outcome, move-answers}
use Rattle.steps.proofs.DelayLaws.{delay_now, delay_later}
use Rattle.steps.proofs.delay.delay.Goals as goal

pub returns-in_err-t : goal.returns-in_err-t
returns-in_err-t c =
    let v = view_core c.args.s in
    by_outcome (no_runner v (λ t. delay_for v t (ticks c.args.d)) c.in_err-t.ensures.1)
    (unrun c.from_residual.result _ c.from_residual.ensures.1 (λ y e. e) c.in_err-t.ensures.0)

pub returns-then-n-eq0 : goal.returns-then-n-eq0
returns-then-n-eq0 c =
    let a = c.args in
    let t = c.in_ok-t.t in
    let n : c.ticks-n.result ≡ ticks a.d = c.ticks-n.ensures ∙ ap ticks (to_z-of_z c.ranges.d) in
    let runs = runner a.s t c.requires c.in_ok-t.ensures.0 c.in_ok-t.ensures.1 in
    by_outcome (delay_now (view_core a.s) t c.in_ok-t.ensures.0 c.in_ok-t.ensures.1 a.d c.ticks-n.result n c.if-n-eq0.true)
    (move-answers a.s c.moved-left.result t _ _ (item t ELAPSED 0 0) [] c.requires runs.high c.answered.ensures c.moved-left.ensures)

pub returns : goal.returns
returns c =
    let a = c.args in
    let t = c.in_ok-t.t in
    let n : c.ticks-n.result ≡ ticks a.d = c.ticks-n.ensures ∙ ap ticks (to_z-of_z c.ranges.d) in
    let runs = runner a.s t c.requires c.in_ok-t.ensures.0 c.in_ok-t.ensures.1 in
    by_outcome (delay_later (view_core a.s) t c.in_ok-t.ensures.0 c.in_ok-t.ensures.1 a.d c.ticks-n.result _ n c.if-n-eq0.false refl)
    (move-answers a.s _ _ _ _ _ [] c.requires runs.high c.answered-2.ensures c.moved-left-2.ensures)
