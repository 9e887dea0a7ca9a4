use Rattle.std.proofs.Common.{◌<◌, Ok, rules, sym, ◌∙◌}
use Rattle.card.proofs.CardLaws.{second_small}
use Rattle.card.proofs.by_rows.second_count.Goals as goal

-- what is counted is a byte
pub map-requires : goal.map-requires
map-requires c =
    let x = c.second_in-x.result in
    let clock : x.core.clock < 4294967296 = search rules in
    λ n e h r. record { fits = second_small x (Ok n) _ _ clock (sym e ∙ c.count.ensures) }
