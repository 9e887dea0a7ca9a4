use Rattle.std.proofs.Common.{◌≡◌, ◌-◌, arith, take, drop}
use Rattle.stream.specs.declared.window.Window.{Window}
use Rattle.text.proofs.Puts.{put_whole}
use Rattle.session.specs.Turn.{turn_of}
use Rattle.logs.specs.Logs.{bytes_in, is_last}
use Rattle.logs.proofs.LogLaws.{part_bytes, part_last}
use Rattle.logs.proofs.run_turn.Goals as goal

pub returns-clause-uncut : goal.returns-clause-uncut
returns-clause-uncut g c =
    let a = c.args in
    let b = a.buf.now in
    let p : Window = c.part-p.result in
    let given : take (p.end - p.at) (drop p.at b) ≡ bytes_in a.l b = rw c.part-p.ensures.0 (part_bytes a.l b) in
    let last : p.last ≡ is_last a.l b = rw c.part-p.ensures.0 (part_last a.l b) in
    let text = (turn_of g.E.Engine.ruled a.s (take (p.end - p.at) (drop p.at b)) p.last a.room.now).text in
    let whole = put_whole a.out.now a.l.flow.waits text _ c.turn.ensures.out_after (omega (arith, c.turn.ensures.room_len_bound, c.requires)) in
    rw (← given, ← last) whole
