use Rattle.std.proofs.Common.{◌≡◌, length, ◌∙◌, arith, rules}
use borrow.Author.Tests.{tests}
use Rattle.std.proofs.lemmas.Iterator.{YieldsList-from_slice, YieldsList-from_zip}
use Rattle.std.proofs.lemmas.Iterator.Consumers.{YieldsList-at}
use Rattle.std.proofs.lemmas.Iterator.Search.{all_from_yields_List}
use Rattle.lists.proofs.ListLaws.{mapped_long}
use Rattle.rules.specs.declared.Task.{Task}
use Rattle.debounce.specs.declared.Contact.{Contact}
use Rattle.debounce.specs.Card.{waits_for}
use Rattle.debounce.proofs.CodeLaws.{wait_list}
use Rattle.debounce.proofs.check.all_wait.Goals as goal

pub returns : goal.returns
returns c =
    let now = c.args.s.clock in
    let xs = c.args.s.tasks in
    let cs = c.args.cs in
    let tasks : length xs ≡ 31 = search (rules, mapped_long) in
    let contacts : length cs ≡ 8 = search (rules, mapped_long) in
    all_from_yields_List (λ (p : Task × Contact). waits_for now p.0 p.1) c.all.new.self _ c.all.result c.all.ensures.ran
    (YieldsList-from_zip (YieldsList-at c.zip.ensures.first (YieldsList-from_slice xs cc)) (YieldsList-from_slice cs (search rules)))
    (λ x b q k. search (rules, tests))
    ∙ wait_list now xs cs (omega arith)
