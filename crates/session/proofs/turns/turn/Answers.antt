use Rattle.std.proofs.Common.{length}
use Rattle.calls.specs.Reading.{number_of}
use Rattle.session.proofs.TurnLaws.{turn_refused, turn_took, same_turn, leaves_room}
use Rattle.session.proofs.turns.turn.Goals as goal

pub returns-in_default : goal.returns-in_default
returns-in_default g c =
    let a = c.args in
    let e = c.refused.ensures in
    let said = same_turn a.out.now a.at _ _ (turn_refused g.E.Engine.ruled a.s a.input.now a.last a.room.now _ c.read_record-got.ensures.value _ c.unwrap_err.ensures)
    e.value (leaves_room g.E.Engine.ruled a.s (number_of c.unwrap_err.result) (length a.input.now) a.last a.room.now) (e.out_after, e.room_len_bound) in
    record { value = said.0; room_after = said.1.0; out_after = said.1.1.0; room_len_bound = said.1.1.1 }

pub returns : goal.returns
returns g c =
    let a = c.args in
    let e = c.taken.ensures in
    let said = same_turn a.out.now a.at _ _ (turn_took g.E.Engine.ruled a.s a.input.now a.last a.room.now _ c.read_record-got.ensures.value _ _ c.in-Ok.is)
    e.value e.room_after (e.out_after, e.room_len_bound) in
    record { value = said.0; room_after = said.1.0; out_after = said.1.1.0; room_len_bound = said.1.1.1 }
