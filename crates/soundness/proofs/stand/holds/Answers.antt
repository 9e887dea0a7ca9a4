use Rattle.std.proofs.Common.{◌+◌, ◌&&◌, drop, sym, ap, ◌∙◌, arith}
use Rattle.soundness.specs.Check.{walked}
use Rattle.soundness.specs.Marks.{Marks}
use Rattle.soundness.proofs.Turns.{walk_blank, walk_on, walk_end}
use Rattle.soundness.proofs.stand.holds.Goals as goal

pub loop-i-init : goal.loop-i-init
loop-i-init c = (c.requires, ap (λ (m : Marks). walked m c.args.a.now) (sym c.next-rest.ensures))

pub returns-then-t-eq0 : goal.returns-then-t-eq0
returns-then-t-eq0 c =
    (λ z. c.is_none.ensures z && c.is_blank_from.ensures z)
    ∙ sym (c.loop-i.invariant.1 ∙ walk_blank c.loop-i.rest c.args.a.now c.loop-i.i (omega arith) c.if-t-eq0.true)

pub returns-then-not-has : goal.returns-then-not-has
returns-then-not-has c =
    let a = c.args.a.now in
    sym (c.loop-i.invariant.1 ∙ walk_on c.loop-i.rest a c.loop-i.i (omega arith) c.if-t-eq0.false
    ∙ rw (sym c.has.ensures ∙ c.if-not-has.true))

pub loop-i-preserved : goal.loop-i-preserved
loop-i-preserved c =
    let a = c.args.a.now in (
      c.loop-i.invariant.0,
      c.loop-i.invariant.1 ∙ walk_on c.loop-i.rest a c.loop-i.i (omega arith) c.if-t-eq0.false
          ∙ (λ z. (sym c.has.ensures ∙ c.if-not-has.false) z && walked (sym c.without-rest.ensures z) (drop (c.loop-i.i + 1) a)),
    )

pub returns : goal.returns
returns c = c.is_none-2.ensures ∙ sym (c.loop-i.invariant.1 ∙ walk_end c.loop-i.rest c.args.a.now c.loop-i.i (omega arith))
