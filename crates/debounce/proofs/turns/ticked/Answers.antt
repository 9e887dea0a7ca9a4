use Rattle.std.proofs.Common.{ap, ◌∙◌}
use Rattle.rules.specs.declared.Stepped.{Stepped}
use Rattle.rules.specs.declared.Supervisor.{Supervisor}
use Rattle.debounce.specs.Card.{all_served, ticked_card}
use Rattle.debounce.proofs.turns.ticked.Goals as goal

pub returns : goal.returns
unfolding ticked_card
returns c =
    let cs = c.args.card.contacts in
    c.served.ensures ∙ ap (λ (k : Stepped Supervisor). all_served (record { supervisor = k.state; contacts = cs }) k.answer.next c.args.bits) c.stepped-out.ensures
