use native.Mathlib.Omega.{arith}
use Rattle.text.proofs.Puts.{then_put}
use Rattle.report.specs.Lines.{line_text}
use Rattle.report.proofs.LineLaws.{line_fits}
use Rattle.report.proofs.put_line.Goals as goal

pub returns-clause-put : goal.returns-clause-put
unfolding line_text
returns-clause-put c =
    then_put c.put_number-a.ensures
    (then_put c.put_spaced-b.ensures
    (then_put c.put_spaced-c.ensures
    (then_put c.put_spaced-d.ensures
    (then_put c.put_spaced-e.ensures
    (then_put c.put_spaced-f.ensures
    (then_put c.put_spaced-g.ensures
    (then_put c.put_waits-h.ensures c.put_byte.ensures)))))))

pub returns-clause-room_len_bound : goal.returns-clause-room_len_bound
returns-clause-room_len_bound c = line_fits c.args.step c.args.answer c.args.room.now c.ranges.step.fits (omega arith) (λ i. (c.type_inv.room i).fits)
