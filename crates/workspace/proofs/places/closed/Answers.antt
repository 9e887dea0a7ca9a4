use Rattle.std.proofs.Common.{◌≡◌, length, arith, rules}
use Rattle.workspace.proofs.PlaceLaws.{mapped_long, closed_law, remove_none}
use Rattle.workspace.proofs.places.closed.Goals as goal

pub returns-then-p-lt32 : goal.returns-then-p-lt32
returns-then-p-lt32 c =
    let a = c.args.a in
    let p = c.args.p in
    let long : length a ≡ 32 = search (rules, mapped_long) in
    let h = c.if-p-lt32.true in
    closed_law p a long h c.rotate_left.ensures.after

pub returns-else-p-lt32 : goal.returns-else-p-lt32
returns-else-p-lt32 c =
    let long : length c.args.a ≡ 32 = search (rules, mapped_long) in
    let out = c.if-p-lt32.false in
    remove_none c.args.p c.args.a (omega (arith, long, out))
