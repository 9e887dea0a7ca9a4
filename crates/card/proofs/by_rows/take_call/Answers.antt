use mathlib.Core.Path.{◌≡◌, ap, ◌∙◌}
use lib.ListN.{length}
use Rattle.rules.specs.Step.{room_after}
use Rattle.rules.specs.Second.{step_second}
use Rattle.rules.specs.Whole.{stepped_of}
use Rattle.rules.specs.declared.Stepped.{Stepped}
use Rattle.rules.specs.declared.Second.{Second}
use Rattle.codec.specs.Rows.{second_in, stored_second}
use Rattle.card.proofs.CardLaws.{did_take, did_refuse}
use Rattle.card.proofs.by_rows.take_call.Goals as goal

pub returns-then-answer-eq0 : goal.returns-then-answer-eq0
returns-then-answer-eq0 c =
    let a = c.args in
    let b = a.state.now in
    let room = a.room.now in
    let n = length room in
    let w = step_second (second_in b) a.c n in
    -- what the step answers, of the state in the lent bytes
    let q : c.step-k.result ≡ stepped_of w = c.step-k.ensures.value ∙ ap (λ (x : Second). stepped_of (step_second x a.c n)) c.second_in-x.ensures in
    let r = c.step-k.ensures.room ∙ ap (λ (x : Second). room_after room (step_second x a.c n).ended) c.second_in-x.ensures in
    let d = did_take stored_second b room w c.step-k.result.answer (ap (λ (k : Stepped Second). k.answer) q) _ r c.step-k.result.state _ (ap (λ (k : Stepped Second). k.state) q) c.if-answer-eq0.true c.second_store.ensures in
    record { value = d.0; state_after = d.1.0; room_after = d.1.1 }

pub returns : goal.returns
returns c =
    let a = c.args in
    let b = a.state.now in
    let room = a.room.now in
    let n = length room in
    let w = step_second (second_in b) a.c n in
    -- what the step answers, of the state in the lent bytes
    let q : c.step-k.result ≡ stepped_of w = c.step-k.ensures.value ∙ ap (λ (x : Second). stepped_of (step_second x a.c n)) c.second_in-x.ensures in
    let r = c.step-k.ensures.room ∙ ap (λ (x : Second). room_after room (step_second x a.c n).ended) c.second_in-x.ensures in
    let d = did_refuse stored_second b room w c.step-k.result.answer (ap (λ (k : Stepped Second). k.answer) q) _ r c.if-answer-eq0.false in
    record { value = d.0; state_after = d.1.0; room_after = d.1.1 }
