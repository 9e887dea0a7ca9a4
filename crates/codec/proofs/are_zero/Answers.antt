use Rattle.std.proofs.Common.{◌≡◌, fold, rules}
use borrow.Author.Tests.{tests}
use lib.Bits.{bit_or}
use Rattle.std.proofs.lemmas.Iterator.{YieldsList-from_slice}
use Rattle.std.proofs.lemmas.Iterator.Consumers.{fold_from_yields_List}
use Rattle.lists.proofs.Zeros.{none_in}
use Rattle.codec.proofs.are_zero.Goals as goal

pub returns : goal.returns
returns c =
    let b = c.args.b.now in
    let e : c.fold.result ≡ fold bit_or 0 b =
    fold_from_yields_List _ bit_or 0 c.fold.result c.fold.ensures.ran (YieldsList-from_slice b cc) (λ a x b q k. search (rules, tests)) in
    rw e (none_in b)
