use Rattle.std.proofs.Common.{true, sym, refl, ◌∙◌, arith}
use Rattle.soundness.proofs.TreeTurns.{climb_on, climb_stop, climb_end}
use Rattle.soundness.proofs.tree.climb.Goals as goal

pub loop-turn-init : goal.loop-turn-init
loop-turn-init c = refl

pub returns-then-not-has : goal.returns-then-not-has
returns-then-not-has c =
    let a = c.args in
    c.then_some.ensures ∙ sym (c.loop-turn.invariant ∙ climb_stop a.holders a.word c.loop-turn.rest c.loop-turn._turn c.loop-turn.u c.has.result c.has-then-not-has.result (omega arith) c.has.ensures c.if-not-has.true c.has-then-not-has.ensures)

pub loop-turn-preserved : goal.loop-turn-preserved
loop-turn-preserved c =
    let a = c.args in
    c.loop-turn.invariant ∙ climb_on a.holders a.word c.loop-turn.rest c.loop-turn._turn c.loop-turn.u c.has.result c.without-rest.result c.mark_of-u.result (omega arith) c.has.ensures c.if-not-has.false c.without-rest.ensures c.mark_of-u.ensures

pub returns : goal.returns
returns c = let a = c.args in sym (c.loop-turn.invariant ∙ climb_end a.holders a.word c.loop-turn.rest c.loop-turn._turn c.loop-turn.u true (omega arith))
