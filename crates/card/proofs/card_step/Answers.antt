use native.Mathlib.Omega.{arith}
use lib.ListN.{length}
use Rattle.codec.specs.Layout.{stored}
use Rattle.card.specs.Answers.{card_step}
use Rattle.card.proofs.CardLaws.{owed_short, owed_long}
use Rattle.card.proofs.card_step.Goals as goal

pub returns-then-answer-lt7 : goal.returns-then-answer-lt7
returns-then-answer-lt7 c =
    let a = c.args in
    let d = owed_short stored a.state.now a.room.now a.answer.now (card_step a.state.now a.«record».now (length a.room.now)) c.if-answer-lt7.true in
    record { value = d.0; state_after = d.1.0; room_after = d.1.1.0; answer_after = d.1.1.1 }

pub returns : goal.returns
returns c =
    let a = c.args in
    let e = c.take_record-taken.ensures in
    let d = owed_long stored a.state.now a.room.now a.answer.now (card_step a.state.now a.«record».now (length a.room.now)) c.take_record-taken.result _ _ _
    (omega arith) (e.value, (e.state_after, e.room_after)) c.put_answer.ensures in
    record { value = d.0; state_after = d.1.0; room_after = d.1.1.0; answer_after = d.1.1.1 }
