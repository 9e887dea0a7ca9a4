use Rattle.std.proofs.Common.{sym, ap, ◌∙◌}
use Rattle.debounce.specs.Card.{no_tasks, start_all}
use Rattle.debounce.proofs.CodeLaws.{good_length, fresh_made, fresh_refused}
use Rattle.debounce.proofs.fresh.Goals as goal

pub contacts_in-contacts-requires : goal.contacts_in-contacts-requires
contacts_in-contacts-requires c = good_length c.args.settings.now (sym c.is_good.ensures ∙ c.if-is_good.true)

pub returns-then-is_good : goal.returns-then-is_good
returns-then-is_good c =
    let good = c.before.before in
    let cs = c.contacts_in-contacts.ensures in
    let s = c.started-supervisor.ensures ∙ ap (start_all no_tasks) cs in
    (λ i. record { refusal = 0; card = record { supervisor = s i; contacts = cs i } })
    ∙ sym (fresh_made good.args.settings.now (sym good.is_good.ensures ∙ good.if-is_good.true))

pub returns : goal.returns
returns c =
    let bad = c.before in
    fresh_refused bad.args.settings.now c.blank_card-card.result (sym bad.is_good.ensures ∙ bad.if-is_good.false) c.blank_card-card.ensures
