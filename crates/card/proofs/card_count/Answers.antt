use Rattle.std.proofs.Common.{◌<◌, Ok, rules, sym, ◌∙◌}
use Rattle.card.proofs.CardLaws.{whole_small}
use Rattle.card.proofs.card_count.Goals as goal

-- what is counted is a byte
pub map-requires : goal.map-requires
map-requires c =
    let s = c.state_in-s.result in
    let clock : s.core.clock < 4294967296 = search rules in
    λ n e h r. record { fits = whole_small s (Ok n) _ _ clock (sym e ∙ c.count.ensures) }
