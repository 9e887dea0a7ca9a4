use Rattle.std.proofs.Common.{sym, refl, ap, ◌∙◌, arith, rules}
use Rattle.lists.proofs.Turns.{rest_blank, rest_entry, rest_end}
use Rattle.soundness.specs.TreeCheck.{all_climbed}
use Rattle.soundness.proofs.TreeTurns.{climbs_on, climbs_none}
use Rattle.soundness.proofs.tree.all_climb.Goals as goal

pub loop-t-init : goal.loop-t-init
loop-t-init c = (search rules, refl)

pub returns-then-t-eq0 : goal.returns-then-t-eq0
returns-then-t-eq0 c =
    let a = c.args in
    let l = c.loop-t in
    sym (l.invariant.1 ∙ ap (all_climbed a.holders l.rest) (rest_blank a.held l.t-index (omega (arith, l.invariant.0)) c.if-t-eq0.true))

pub returns-in_default : goal.returns-in_default
returns-in_default c =
    let a = c.args in
    let l = c.loop-t in
    sym (l.invariant.1 ∙ climbs_none a.holders l.rest _ _ _ c.climb.result (rest_entry a.held l.t-index (omega (arith, l.invariant.0)) c.if-t-eq0.false) c.climb.ensures c.in_default.is)

pub loop-t-preserved : goal.loop-t-preserved
loop-t-preserved c =
    let a = c.args in
    let l = c.loop-t in
    (l.invariant.0, l.invariant.1 ∙ climbs_on a.holders l.rest _ _ _ c.climb.result c.in-Some.left (rest_entry a.held l.t-index (omega (arith, l.invariant.0)) c.if-t-eq0.false) c.climb.ensures c.in-Some.is)

pub returns : goal.returns
returns c =
    let a = c.args in
    let l = c.loop-t in
    sym (l.invariant.1 ∙ ap (all_climbed a.holders l.rest) (rest_end a.held l.t-index (omega (arith, l.invariant.0))))
