use Rattle.std.proofs.Common.{ℕ, arith, rules}
use borrow.Author.Tests.{tests}
use Rattle.lists.proofs.FromFn.{from_fn_each}
use Rattle.debounce.specs.Card.{opened}
use Rattle.debounce.specs.Settings.{setting_at}
use Rattle.debounce.proofs.CodeLaws.{contacts_each}
use Rattle.debounce.proofs.settings.contacts_in.Goals as goal

pub returns : goal.returns
returns c =
    let b = c.args.b.now in
    contacts_each b c.from_fn.result c.from_fn.ensures.items.long
    (λ k d h. from_fn_each _ _ (λ (i : ℕ). opened (setting_at b i)) c.from_fn.result (λ i y q z. search (rules, tests)) 8 0 c.from_fn.ensures.items.each k d (omega arith) (omega arith))
