use native.Mathlib.Omega.{arith}
use mathlib.Core.Path.{sym, ◌∙◌}
use mathlib.Core.List.{◌∷◌}
use lib.ListN.{length, drop}
use lib.Dec.{ltb}
use borrow.Author.Tests.{lt-ltb, le-ltb}
use Rattle.lists.proofs.Tests.{if-true, if-false}
use Rattle.card.proofs.CardLaws.{one_set}
use Rattle.card.proofs.put_one.Goals as goal

pub returns-then-answer-lt1 : goal.returns-then-answer-lt1
returns-then-answer-lt1 c =
    let t = lt-ltb (length c.args.answer.now) 1 c.if-answer-lt1.true in
    record { value = sym (if-true _ _ _ t); answer_after = sym (if-true _ _ _ t) }

pub returns : goal.returns
returns c =
    let l = c.args.answer.now in
    let f = le-ltb (length l) 1 (omega arith) in
    let v = c.args.value in
    record { value = sym (if-false _ _ _ f); answer_after = one_set l v (omega arith) ∙ sym (if-false (ltb (length l) 1) l (v ∷ drop 1 l) f) }
