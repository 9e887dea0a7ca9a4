use Rattle.std.proofs.Common.{◌∙◌, ap, false}
use Rattle.lists.specs.Lists.{every}
use Rattle.workspace.specs.Rules.{is_none}
use Rattle.workspace.specs.Check.{tiled}
use Rattle.lists.proofs.ListLaws.{every_is}
use Rattle.workspace.proofs.StepLaws.{keep_law, break_law}
use Rattle.workspace.proofs.rules.keeps.Goals as goal

pub returns-then-seen-used : goal.returns-then-seen-used
returns-then-seen-used c =
    let b = c.split_at in
    let f = c.split_at-then-seen-used in
    keep_law c.args.seen c.args.used c.if-seen-used.true
    (c.all_none-x.ensures ∙ every_is is_none b.result.1.now ∙ ap (every is_none) b.ensures.back)
    (c.all_none-y.ensures ∙ every_is is_none f.result.1.now ∙ ap (every is_none) f.ensures.back)
    (c.tiles-t.ensures ∙ (λ i. tiled 64 false 0 (b.ensures.front i) (f.ensures.front i)))

pub returns-else-seen-used : goal.returns-else-seen-used
returns-else-seen-used c = break_law c.args.seen c.args.used c.if-seen-used.false
