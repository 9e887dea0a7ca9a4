use Rattle.std.proofs.Common.{◌≡◌, ◌≤◌, ◌<◌, length, take, sym, refl, ◌∙◌, arith, length-take-le, rules}
use Rattle.workspace.specs.Places.{has_start}
use Rattle.workspace.proofs.PlaceLaws.{mapped_long, found_at, found_nowhere}
use Rattle.workspace.proofs.StepLaws.{counted, release_freed, release_unknown, release_unsound}
use Rattle.workspace.proofs.steps.released.Goals as goal

pub returns-then-not-keeps : goal.returns-then-not-keeps
returns-then-not-keeps c =
    let a = c.args in
    release_unsound a.seen a.used a.start c.keeps.ensures c.if-not-keeps.true c.refused.ensures

-- where the rules are kept, the numbers of places used are in range
pub slice_bounds-bs-end : goal.slice_bounds-bs-end
slice_bounds-bs-end c =
    let few : c.args.used.blocks ≤ 31 = (counted c.args.seen c.args.used (sym c.keeps.ensures ∙ c.if-not-keeps.false)).0 in
    let long : length c.args.seen.blocks ≡ 32 = search (rules, mapped_long) in
    omega (arith, long, few)

pub slice_bounds-starting_at-end : goal.slice_bounds-starting_at-end
slice_bounds-starting_at-end c =
    let few : c.args.used.blocks ≤ 31 = (counted c.args.seen c.args.used (sym c.keeps.ensures ∙ c.if-not-keeps.false)).0 in
    let long : length c.args.seen.blocks ≡ 32 = search (rules, mapped_long) in
    sym (length-take-le c.args.used.blocks c.args.seen.blocks (omega (arith, long, few)))

pub freed-requires-clause-free_bound : goal.freed-requires-clause-free_bound
freed-requires-clause-free_bound c = (counted c.args.seen c.args.used (sym c.keeps.ensures ∙ c.if-not-keeps.false)).1

pub returns-in-Some : goal.returns-in-Some
returns-in-Some c =
    let a = c.args in
    let few : a.used.blocks ≤ 31 = (counted a.seen a.used (sym c.keeps.ensures ∙ c.if-not-keeps.false)).0 in
    let long : length a.seen.blocks ≡ 32 = search (rules, mapped_long) in
    let n : length (take a.used.blocks a.seen.blocks) ≡ a.used.blocks = length-take-le a.used.blocks a.seen.blocks (omega (arith, long, few)) in
    let f = found_at (has_start a.start) (take a.used.blocks a.seen.blocks) c.in-Some.p (sym c.starting_at.ensures ∙ c.in-Some.is) in
    let h : c.in-Some.p < length (take a.used.blocks a.seen.blocks) = f.1 in
    release_freed a.seen a.used a.start c.keeps.ensures c.if-not-keeps.false f.0 (omega (arith, h, n)) c.freed.ensures

pub returns-in-None : goal.returns-in-None
returns-in-None c =
    let a = c.args in
    let few : a.used.blocks ≤ 31 = (counted a.seen a.used (sym c.keeps.ensures ∙ c.if-not-keeps.false)).0 in
    let long : length a.seen.blocks ≡ 32 = search (rules, mapped_long) in
    let l = take a.used.blocks a.seen.blocks in
    let n : length (take a.used.blocks a.seen.blocks) ≡ a.used.blocks = length-take-le a.used.blocks a.seen.blocks (omega (arith, long, few)) in
    let h = found_nowhere (has_start a.start) (take a.used.blocks a.seen.blocks) (sym c.starting_at.ensures ∙ c.in-None.is) in
    release_unknown a.seen a.used a.start c.keeps.ensures c.if-not-keeps.false refl (omega (arith, h, n)) c.refused-in-None.ensures
