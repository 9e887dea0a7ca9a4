use mathlib.Core.Path.{◌≡◌, ap, ◌∙◌}
use lib.ListN.{length}
use Rattle.rules.specs.Step.{room_after}
use Rattle.rules.specs.Whole.{stepped_of, step_whole}
use Rattle.rules.specs.declared.Stepped.{Stepped}
use Rattle.rules.specs.declared.Supervisor.{Supervisor}
use Rattle.codec.specs.Layout.{state_in, stored}
use Rattle.card.proofs.CardLaws.{did_take, did_refuse}
use Rattle.card.proofs.take_call.Goals as goal

pub returns-then-answer-eq0 : goal.returns-then-answer-eq0
returns-then-answer-eq0 c =
    let a = c.args in
    let b = a.state.now in
    let room = a.room.now in
    let n = length room in
    let w = step_whole (state_in b) a.c n in
    -- what the step answers, of the state in the lent bytes
    let q : c.step-k.result ≡ stepped_of w = c.step-k.ensures.value ∙ ap (λ (s : Supervisor). stepped_of (step_whole s a.c n)) c.state_in-s.ensures in
    let r = c.step-k.ensures.room ∙ ap (λ (s : Supervisor). room_after room (step_whole s a.c n).ended) c.state_in-s.ensures in
    let d = did_take stored b room w c.step-k.result.answer (ap (λ (k : Stepped Supervisor). k.answer) q) _ r c.step-k.result.state _ (ap (λ (k : Stepped Supervisor). k.state) q) c.if-answer-eq0.true c.store.ensures in
    record { value = d.0; state_after = d.1.0; room_after = d.1.1 }

pub returns : goal.returns
returns c =
    let a = c.args in
    let b = a.state.now in
    let room = a.room.now in
    let n = length room in
    let w = step_whole (state_in b) a.c n in
    -- what the step answers, of the state in the lent bytes
    let q : c.step-k.result ≡ stepped_of w = c.step-k.ensures.value ∙ ap (λ (s : Supervisor). stepped_of (step_whole s a.c n)) c.state_in-s.ensures in
    let r = c.step-k.ensures.room ∙ ap (λ (s : Supervisor). room_after room (step_whole s a.c n).ended) c.state_in-s.ensures in
    let d = did_refuse stored b room w c.step-k.result.answer (ap (λ (k : Stepped Supervisor). k.answer) q) _ r c.if-answer-eq0.false in
    record { value = d.0; state_after = d.1.0; room_after = d.1.1 }
