use Rattle.std.proofs.Common.{Bool, sym, ap, ◌∙◌}
use Rattle.lists.specs.Lists.{when◌then◌else◌}
use Rattle.rules.specs.declared.Task.{Task}
use Rattle.steps.specs.Lowest.{open_call}
use Rattle.steps.proofs.LowestLaws.{open_call_is}
use Rattle.steps.proofs.callers.open_call.Goals as goal

-- what the test and its two answers come to
pub returns-then-is_queued-partner_of : goal.returns-then-is_queued-partner_of
returns-then-is_queued-partner_of c =
    let a = c.args in
    let e = c.entry_of-e.result in
    ap (λ (b : Bool). when b then e else 9) (sym c.if-is_queued-partner_of.true)
    ∙ open_call_is a.t a.o c.shown-x.result.place _ _ _ _ _ c.entry_of-e.ensures c.is_queued.ensures c.partner_of.ensures c.is_between.ensures c.is_open.ensures
    ∙ ap (λ (y : Task). open_call a.t a.o y.place) c.shown-x.ensures

pub returns-else-is_queued-partner_of : goal.returns-else-is_queued-partner_of
returns-else-is_queued-partner_of c =
    let a = c.args in
    let e = c.entry_of-e.result in
    ap (λ (b : Bool). when b then e else 9) (sym c.if-is_queued-partner_of.false)
    ∙ open_call_is a.t a.o c.shown-x.result.place _ _ _ _ _ c.entry_of-e.ensures c.is_queued.ensures c.partner_of.ensures c.is_between.ensures c.is_open.ensures
    ∙ ap (λ (y : Task). open_call a.t a.o y.place) c.shown-x.ensures
