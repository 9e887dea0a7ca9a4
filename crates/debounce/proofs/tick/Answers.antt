use Rattle.std.proofs.Common.{sym, ap, ◌∙◌}
use Rattle.debounce.specs.declared.Card.{Card}
use Rattle.debounce.specs.Card.{answered}
use Rattle.debounce.proofs.CodeLaws.{tick_taken, tick_refused}
use Rattle.debounce.proofs.tick.Goals as goal

pub returns-then-is_whole : goal.returns-then-is_whole
returns-then-is_whole c =
    let q = c.ticked-after.ensures in
    let good = c.before.before.before in
    let a = good.args in
    (λ i. record { card = q i; refusal = 0; reported = (c.report_of-reported.ensures ∙ ap (λ (x : Card). (answered x).reported) q) i })
    ∙ sym (tick_taken a.card a.bits (sym good.is_whole.ensures ∙ good.if-is_whole.true))

pub returns : goal.returns
returns c = let a = c.args in sym (tick_refused a.card a.bits (sym c.is_whole.ensures ∙ c.if-is_whole.false))
