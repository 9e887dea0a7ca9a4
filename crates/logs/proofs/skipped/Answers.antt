use Rattle.logs.proofs.LogLaws.{passed_first, passed_on}
use Rattle.logs.proofs.skipped.Goals as goal

pub loop-init : goal.loop-init
loop-init g c = let a = c.args in rw c.dropped-s.ensures (passed_first a.w a.left a.buf.now)

pub loop-preserved : goal.loop-preserved
loop-preserved g c = rw c.dropped-s-in-loop.ensures (passed_on c.loop.invariant c.refilled-more.ensures)
