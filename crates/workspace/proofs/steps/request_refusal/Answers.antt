use Rattle.std.proofs.Common.{◌≡◌, true, false, ◌&&◌, ltb, leb, refl, le-ltb, lt-ltb, arith}
use Rattle.workspace.specs.Steps.{request_refusal}
use Rattle.workspace.proofs.steps.request_refusal.Goals as goal

-- fewer than 31 blocks are taken where that test is passed
few : (c : goal.Then-n-place) → ltb c.args.m 31 ≡ true
few c = lt-ltb c.args.m 31 (omega arith)

pub returns-then-not-kept : goal.returns-then-not-kept
unfolding request_refusal
returns-then-not-kept c = rw c.if-not-kept.true refl

pub returns-then-not-sized : goal.returns-then-not-sized
unfolding request_refusal
returns-then-not-sized c =
    let n = c.args.size in
    let big : leb 1 n && leb n 65535 ≡ false = c.if-not-sized.true in
    rw (c.if-not-kept.false, big) refl

pub returns-then-m-ge31 : goal.returns-then-m-ge31
unfolding request_refusal
returns-then-m-ge31 c = rw (c.if-not-kept.false, c.if-not-sized.false, le-ltb c.args.m 31 c.if-m-ge31.true) refl

pub returns-then-n-place : goal.returns-then-n-place
unfolding request_refusal
returns-then-n-place c = rw (c.if-not-kept.false, c.if-not-sized.false, few c, le-ltb c.args.place c.args.n c.if-n-place.true) refl

pub returns : goal.returns
unfolding request_refusal
returns c = rw (c.if-not-kept.false, c.if-not-sized.false, lt-ltb c.args.m 31 (omega arith), lt-ltb c.args.place c.args.n c.if-n-place.false) refl
