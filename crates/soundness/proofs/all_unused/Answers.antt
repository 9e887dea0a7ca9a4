use Rattle.std.proofs.Common.{◌∙◌, drop, rules}
use borrow.Author.Tests.{tests}
use Rattle.std.proofs.lemmas.Iterator.{YieldsList-from_slice}
use Rattle.std.proofs.lemmas.Iterator.Adapters.{YieldsList-from_skip}
use Rattle.std.proofs.lemmas.Iterator.Consumers.{YieldsList-at}
use Rattle.std.proofs.lemmas.Iterator.Search.{all_from_yields_List}
use Rattle.rules.specs.Whole.{unused}
use Rattle.lists.proofs.ListLaws.{every_is}
use Rattle.soundness.proofs.all_unused.Goals as goal

pub returns : goal.returns
returns c =
    all_from_yields_List unused _ _ c.all.result c.all.ensures.ran
    (YieldsList-from_skip c.args.s.created (YieldsList-at c.skip.ensures.source (YieldsList-from_slice c.args.s.tasks cc)) (c.skip.ensures.count ∙ c.from.ensures))
    (λ x b q k. search (rules, tests))
    ∙ every_is unused (drop c.args.s.created c.args.s.tasks)
