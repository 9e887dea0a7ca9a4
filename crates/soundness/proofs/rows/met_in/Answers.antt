use Rattle.std.proofs.Common.{◌≡◌, ◌+◌, ◌&&◌, eqb, None, get_or, drop, sym, refl, ap, ◌∙◌, arith, rules}
use Rattle.std.specs.Bool.{then_some}
use Rattle.lists.specs.Lists.{when◌then◌else◌}
use Rattle.soundness.specs.Marks.{Marks, without_mark}
use Rattle.soundness.specs.Rows.{met_in}
use Rattle.soundness.proofs.RowLaws.{met_blank, met_on, met_end}
use Rattle.soundness.proofs.rows.met_in.Goals as goal

pub loop-i-init : goal.loop-i-init
loop-i-init c = (search rules, refl)

pub returns-then-t-eq0 : goal.returns-then-t-eq0
returns-then-t-eq0 c =
    let l = c.loop-i in
    let a = c.args in
    c.then_some.ensures ∙ (λ z. then_some (c.is_blank_from.ensures z) l.rest) ∙ sym (l.invariant.1 ∙ met_blank a.targets a.g l.rest a.l l.i (omega (arith, l.invariant.0)) c.if-t-eq0.true)

pub returns-else-has-mark_of : goal.returns-else-has-mark_of
returns-else-has-mark_of c =
    let l = c.loop-i in
    let a = c.args in
    -- the turn at a number, by what was found of it
    let turn : met_in a.targets a.g a.word a.l ≡ (when c.has.result && eqb c.mark_of.result a.g then met_in a.targets a.g (without_mark l.rest (get_or a.l l.i 0)) (drop (l.i + 1) a.l) else None) =
    l.invariant.1 ∙ met_on a.targets a.g l.rest a.l l.i (omega (arith, l.invariant.0)) c.if-t-eq0.false (c.has.result && eqb c.mark_of.result a.g) (λ z. c.has.ensures z && eqb (c.mark_of.ensures z) a.g) in
    sym (turn ∙ rw c.if-has-mark_of.false)

pub loop-i-preserved : goal.loop-i-preserved
loop-i-preserved c =
    let l = c.loop-i in
    let a = c.args in
    -- the turn at a number, by what was found of it
    let turn : met_in a.targets a.g a.word a.l ≡ (when c.has.result && eqb c.mark_of.result a.g then met_in a.targets a.g (without_mark l.rest (get_or a.l l.i 0)) (drop (l.i + 1) a.l) else None) =
    l.invariant.1 ∙ met_on a.targets a.g l.rest a.l l.i (omega (arith, l.invariant.0)) c.if-t-eq0.false (c.has.result && eqb c.mark_of.result a.g) (λ z. c.has.ensures z && eqb (c.mark_of.ensures z) a.g) in
    (l.invariant.0, turn ∙ rw c.if-has-mark_of.true (ap (λ (m : Marks). met_in a.targets a.g m (drop (l.i + 1) a.l)) (sym c.without-rest.ensures)))

pub returns : goal.returns
returns c =
    let l = c.loop-i in
    let a = c.args in
    sym (l.invariant.1 ∙ met_end a.targets a.g l.rest a.l l.i (omega (arith, l.invariant.0)))
