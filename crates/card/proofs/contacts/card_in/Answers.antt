use Rattle.card.specs.Contacts.{card_in}
use Rattle.card.proofs.contacts.card_in.Goals as goal

pub returns : goal.returns
unfolding card_in
returns c = λ i. record { supervisor = c.state_in-supervisor.ensures i; contacts = c.contacts_in-contacts.ensures i }
