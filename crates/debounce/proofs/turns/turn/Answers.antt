use Rattle.std.proofs.Common.{◌-◌, set, ap, ◌∙◌}
use Rattle.debounce.specs.Card.{sampled, nth_of}
use Rattle.debounce.proofs.turns.turn.Goals as goal

pub returns : goal.returns
returns c =
    let a = c.args in
    let cs = a.card.contacts in
    let q = c.with_sample.ensures ∙ ap (sampled (nth_of cs a.t)) c.is_closed_in-x.ensures in
    let w = c.delayed-out.ensures in
    λ i. record { card = record { supervisor = (w i).state; contacts = set cs (a.t - 1) (q i) }; next = (w i).answer.next }
