use native.Mathlib.Omega.{arith}
use Prim.Native.Nat.{◌≤◌}
use mathlib.Core.Path.{sym, ap, ◌∙◌}
use lib.ListN.{length}
use borrow.Author.Tests.{le-ltb}
use Rattle.lists.proofs.Tests.{if-false}
use Rattle.debounce.specs.declared.Card.{Card}
use Rattle.debounce.specs.declared.Ticked.{Ticked}
use Rattle.debounce.specs.Card.{tick_of}
use Rattle.card.specs.Answers.{if_room, one_after}
use Rattle.card.specs.Contacts.{card_after}
use Rattle.card.proofs.contacts.debounce_tick.Goals as goal

pub returns-clause-value : goal.returns-clause-value
returns-clause-value c =
    let a = c.args in
    c.put_one.ensures.value
    ∙ ap (λ (t : Ticked). if_room 1 a.report.now 1 t.refusal) (c.tick-ticked.ensures ∙ ap (λ (x : Card). tick_of x a.bits) c.card_in-c.ensures)

pub returns-clause-card_after : goal.returns-clause-card_after
returns-clause-card_after c =
    let a = c.args in
    let b = a.card.now in
    let report = a.report.now in
    let long : 1 ≤ length report = omega arith in
    c.keep.ensures
    ∙ ap (λ (t : Ticked). card_after b t.refusal t.card) (c.tick-ticked.ensures ∙ ap (λ (x : Card). tick_of x a.bits) c.card_in-c.ensures)
    ∙ sym (if-false _ _ _ (le-ltb (length report) 1 long))

pub returns-clause-report_after : goal.returns-clause-report_after
returns-clause-report_after c =
    let a = c.args in
    c.put_one.ensures.answer_after
    ∙ ap (λ (t : Ticked). one_after a.report.now t.reported) (c.tick-ticked.ensures ∙ ap (λ (x : Card). tick_of x a.bits) c.card_in-c.ensures)
