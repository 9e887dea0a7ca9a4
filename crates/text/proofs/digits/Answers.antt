use Rattle.std.proofs.Common.{◌≡◌, ◌+◌, ◌-◌, refl, arith}
use Rattle.text.proofs.Decimals.{digit_on, digit_first, digit_room}
use Rattle.text.proofs.digits.Goals as goal

pub returns-then-rest-lt10-clause-value : goal.returns-then-rest-lt10-clause-value
returns-then-rest-lt10-clause-value c =
    let l = c.loop-i in
    let e : l.i - 1 + 1 ≡ l.i = omega arith in
    digit_first c.args.n l.rest (l.i - 1) _ l.row (omega arith) (omega arith) refl (rw e l.invariant.so_far)

pub loop-i-preserved : goal.loop-i-preserved
loop-i-preserved c =
    let l = c.loop-i in
    let e : l.i - 1 + 1 ≡ l.i = omega arith in
    record {
      fits = digit_room l.rest (l.i - 1) (rw e l.invariant.fits);
      more = λ h. omega arith;
      so_far = digit_on c.args.n l.rest (l.i - 1) _ l.row (omega arith) (omega arith) refl (rw e l.invariant.so_far);
    }
