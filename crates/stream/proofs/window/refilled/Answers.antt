use Rattle.stream.proofs.Growing.{grown_read}
use Rattle.stream.proofs.window.refilled.Goals as goal

pub returns : goal.returns
returns g c =
    grown_read c.args.w c.args.buf.now c.shift-n.new.buf c.read_some-m.new.part c.shift-n.result c.read_some-m.result _ c.shift-n.ensures.value.0
    c.shift-n.ensures.buf_after
