use Rattle.std.proofs.Common.{◌≡◌, ◌≤◌, length, arith, rules}
use Rattle.workspace.specs.Places.{is_behind}
use Rattle.workspace.proofs.PlaceLaws.{mapped_long, found_among}
use Rattle.workspace.proofs.StepLaws.{grant_law}
use Rattle.workspace.proofs.steps.granted.Goals as goal

pub returns : goal.returns
returns c =
    let a = c.args in
    let long : length a.seen.blocks ≡ 32 = search (rules, mapped_long) in
    let few : a.used.blocks ≤ 31 = c.requires.blocks_bound in
    let k = found_among (is_behind c.nth-s.result.start) a.used.blocks a.seen.blocks (omega (arith, long, few)) c.first_behind.ensures c.unwrap_or-k.ensures in
    grant_law a.seen a.used a.size c.nth-s.ensures k c.opened-blocks.ensures c.cut_at-free.ensures c.from.ensures c.done_as.ensures
