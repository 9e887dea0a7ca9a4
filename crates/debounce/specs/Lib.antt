-- The contact debouncer. Read in this order; nothing here needs a proof to be understood.

-- the rule, worked out from the raw bits alone
pub mod Rule
-- a contact, the card, and what a tick does: what the contract of `tick` cites
pub mod Card
-- the settings: what the contract of `fresh` cites
pub mod Settings
-- when a card is not damaged, what a tick does to it, and which bytes are settings, fact by fact
pub mod Facts
