use Rattle.text.proofs.Puts.{then_put}
use Rattle.report.specs.Lines.{barred}
use Rattle.report.proofs.put_wait.Goals as goal

pub returns : goal.returns
unfolding barred
returns c =
    then_put c.put_bytes-k.ensures (then_put c.put_spaced-l.ensures (then_put c.put_spaced-m.ensures (then_put c.put_spaced-n.ensures c.put_spaced.ensures)))
