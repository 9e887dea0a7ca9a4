use Rattle.std.proofs.Common.{◌≡◌, ◌-◌, arith}
use Rattle.text.proofs.Puts.{toward, putting_start, putting_on, putting_done}
use Rattle.report.specs.Lines.{waits}
use Rattle.report.proofs.LineLaws.{no_more, none_left, next_wait}
use Rattle.report.proofs.put_waits.Goals as goal

pub loop-init : goal.loop-init
loop-init c =
    let all : c.args.ended - 0 ≡ c.args.ended = omega arith in
    rw all (putting_start c.args.out.now c.args.at (waits c.args.ended c.args.room.now) c.min-place.ensures)

pub loop-preserved : goal.loop-preserved
loop-preserved c =
    let l = c.loop in
    putting_on (toward (next_wait l.rest.now l.counter c.args.ended (omega arith) c.in-len4-up.len_at_least) l.invariant) c.put_wait-place.ensures

pub returns-after-loop : goal.returns-after-loop
returns-after-loop c = putting_done (toward (no_more c.loop.rest.now (c.args.ended - c.loop.counter) (omega arith)) c.loop.invariant)

pub returns-in_default : goal.returns-in_default
returns-in_default c = putting_done (toward (none_left c.loop.rest.now (c.args.ended - c.loop.counter) (omega arith)) c.loop.invariant)
