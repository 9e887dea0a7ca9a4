use Rattle.calls.specs.declared.Call.TheVariants.{Tick}
use Rattle.rules.specs.Step.{take_call}
use Rattle.steps.specs.Taken.{passing}
use Rattle.rules.specs.Whole.{view_core}
use Rattle.steps.proofs.AnswerLaws.{by_core, by_core_ended}
use Rattle.steps.proofs.AdvanceLaws.{tick_core}
use Rattle.steps.proofs.advance.tick.Goals as goal

pub returns : goal.returns
returns c =
    let v = view_core c.args.s in
    let h = c.requires.0 in
    let o = take_call v Tick in
    let q = passing v 1 0 in
    let e = tick_core v h.callers h.sound in
    record { value = by_core o q e c.passed.ensures.value; room = by_core_ended o q _ _ e c.passed.ensures.room }
