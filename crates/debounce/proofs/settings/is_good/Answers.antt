use Rattle.std.proofs.Common.{true, false, sym, refl, ◌∙◌, arith}
use Rattle.debounce.proofs.CodeLaws.{fields_next, fields_stop, fields_done, fields_are, wrong_length}
use Rattle.debounce.proofs.settings.is_good.Goals as goal

pub returns-then-b-ne48 : goal.returns-then-b-ne48
returns-then-b-ne48 c = wrong_length c.args.b.now c.if-b-ne48.true

pub loop-i-init : goal.loop-i-init
loop-i-init c = (c.if-b-ne48.false, refl)

pub loop-i-preserved : goal.loop-i-preserved
loop-i-preserved c =
    let l = c.loop-i in
    (l.invariant.0, l.invariant.1 ∙ fields_next c.args.b.now l.i (omega arith) (sym c.is_field.ensures ∙ c.if-not-is_field.false))

pub returns-then-not-is_field : goal.returns-then-not-is_field
returns-then-not-is_field c =
    let l = c.loop-i in
    let b = c.args.b.now in
    fields_are b false l.invariant.0 (l.invariant.1 ∙ fields_stop b l.i (omega arith) (sym c.is_field.ensures ∙ c.if-not-is_field.true))

pub returns : goal.returns
returns c =
    let l = c.loop-i in
    let b = c.args.b.now in
    fields_are b true l.invariant.0 (l.invariant.1 ∙ fields_done b l.i (omega arith))

pub is_field-requires : goal.is_field-requires
is_field-requires c = omega (arith, c.loop-i.invariant.0)
