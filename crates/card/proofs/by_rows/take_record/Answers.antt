use Prim.Native.Nat.{ℕ}
use mathlib.Core.Path.{ap, ◌∙◌}
use lib.ListN.{length}
use Rattle.rules.specs.Second.{step_second}
use Rattle.rules.specs.Whole.{refused_answer}
use Rattle.codec.specs.Rows.{second_in, stored_second}
use Rattle.card.specs.Answers.{step_by}
use Rattle.card.proofs.CardLaws.{second_step_by, did_unread, did_as}
use Rattle.card.proofs.by_rows.take_record.Goals as goal

pub returns-in-Ok : goal.returns-in-Ok
returns-in-Ok c =
    let a = c.args in
    let b = a.state.now in
    let n = length a.room.now in
    let p = second_step_by b a.«record».now n _ c.read_record.ensures.value ∙ ap (step_by step_second (second_in b) n) c.in-Ok.is in
    let e = c.take_call.ensures in
    let d = did_as stored_second b a.room.now _ _ _ _ _ p (e.value, (e.state_after, e.room_after)) in
    record { value = d.0; state_after = d.1.0; room_after = d.1.1 }

pub returns-in-Err : goal.returns-in-Err
returns-in-Err c =
    let a = c.args in
    let b = a.state.now in
    let n = length a.room.now in
    let p = second_step_by b a.«record».now n _ c.read_record.ensures.value ∙ ap (step_by step_second (second_in b) n) c.in-Err.is in
    let answer = c.refused_answer.ensures ∙ ap (λ (k : ℕ). refused_answer k 0) c.into.ensures in
    let u = did_unread stored_second b a.room.now (second_in b) c.in-Err.error in
    let d = did_as stored_second b a.room.now _ _ _ _ _ p (answer ∙ u.0, u.1) in
    record { value = d.0; state_after = d.1.0; room_after = d.1.1 }
