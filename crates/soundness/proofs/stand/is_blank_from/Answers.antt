use Rattle.std.proofs.Common.{◌≡◌, ◌-◌, min, drop, fold, sym, ap, ◌∙◌, arith, rules, length-drop, take_all}
use borrow.Author.Tests.{tests}
use lib.Bits.{bit_or}
use Rattle.std.proofs.lemmas.Iterator.{YieldsList-from_slice}
use Rattle.std.proofs.lemmas.Iterator.Consumers.{fold_from_yields_List}
use Rattle.std.proofs.lemmas.List.{drop_min}
use Rattle.lists.specs.Line.{blanks}
use Rattle.lists.proofs.Zeros.{none_in}
use Rattle.soundness.proofs.stand.is_blank_from.Goals as goal

pub returns : goal.returns
returns c =
    let a = c.args.a.now in
    let l = drop c.min.result a in
    let e : c.fold.result ≡ fold bit_or 0 l =
    fold_from_yields_List _ bit_or 0 c.fold.result c.fold.ensures.ran (YieldsList-from_slice l (c.iter.ensures.rest ∙ take_all (31 - c.min.result) l (omega (arith, length-drop c.min.result a, c.requires)))) (λ a x b q k. search (rules, tests)) in
    -- behind the last place there is nothing, wherever i is
    rw e (none_in l) ∙ ap blanks (ap (λ n. drop n a) (c.min.ensures ∙ ap (min c.args.i) (sym c.requires)) ∙ drop_min c.args.i a)
