use Rattle.std.proofs.Common.{◌≡◌, ◌≤◌, length, arith, rules}
use Rattle.workspace.specs.Places.{is_behind}
use Rattle.workspace.proofs.PlaceLaws.{mapped_long, found_among}
use Rattle.workspace.proofs.StepLaws.{free_law}
use Rattle.workspace.proofs.steps.freed.Goals as goal

pub returns : goal.returns
returns c =
    let a = c.args in
    let long : length a.seen.free ≡ 32 = search (rules, mapped_long) in
    let few : a.used.free ≤ 32 = c.requires.free_bound in
    let k = found_among (is_behind c.nth-b.result.start) a.used.free a.seen.free (omega (arith, long, few)) c.first_behind.ensures c.unwrap_or-k.ensures in
    free_law a.seen a.used a.p c.nth-b.ensures k c.touches_low-low.ensures c.touches_high-high.ensures c.closed-blocks.ensures c.give_back-free.ensures c.from.ensures c.from-2.ensures c.done_as.ensures
