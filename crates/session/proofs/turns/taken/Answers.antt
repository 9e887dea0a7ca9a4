use Rattle.std.proofs.Common.{refl, ap}
use Rattle.session.specs.Turn.{Turn}
use Rattle.session.proofs.TurnLaws.{took_is, says}
use Rattle.session.proofs.turns.taken.Goals as goal

pub returns : goal.returns
returns g c =
    let a = c.args in
    let k = c.step-stepped in
    -- the number of the next line
    let whole = took_is g.E.Engine.ruled a.s a.call a.count a.room.now k.new.room k.result _ k.ensures.value k.ensures.room refl in
    let said = says _ _ whole c.put_line-place.ensures.put c.put_line-place.ensures.room_len_bound in
    record { value = said.0; room_after = ap (λ (t : Turn _). t.room) whole; out_after = said.1.0; room_len_bound = said.1.1 }
