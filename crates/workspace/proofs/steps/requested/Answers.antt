use Rattle.std.proofs.Common.{sym, refl, ap, ◌∙◌}
use Rattle.workspace.specs.Steps.{number_or_0}
use Rattle.workspace.proofs.StepLaws.{numbered, granted_may, request_granted, request_refused}
use Rattle.workspace.proofs.steps.requested.Goals as goal

pub granted-requires : goal.granted-requires
granted-requires c =
    let a = c.args in
    let may = granted_may a.seen a.used a.size c.keeps-kept.ensures (ap number_or_0 (sym c.in-None.is) ∙ c.request_refusal.ensures) refl in
    record { blocks_bound = may.0; free_nonzero = may.1 }

pub returns-in-None : goal.returns-in-None
returns-in-None c =
    let a = c.args in
    request_granted a.seen a.used a.size c.keeps-kept.ensures (ap number_or_0 (sym c.in-None.is) ∙ c.request_refusal.ensures) refl c.granted.ensures

pub returns-in-Some : goal.returns-in-Some
returns-in-Some c =
    let a = c.args in
    request_refused a.seen a.used a.size c.keeps-kept.ensures (ap number_or_0 (sym c.in-Some.is) ∙ c.request_refusal.ensures) (numbered c.in-Some.why) c.refused.ensures
