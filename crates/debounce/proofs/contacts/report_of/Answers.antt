use Rattle.std.proofs.Common.{◌≡◌, ℕ, suc, ◌+◌, ◌*◌, List, [], ◌∷◌, ◌++◌, length, take, sym, ap, ◌∙◌, arith, length-append, rules}
use mir.Val.{bool_byte}
use lib.Seq.{take_all}
use Rattle.std.specs.Iterator.Adapters.{rev_source}
use Rattle.std.specs.Slice.Iter.{iter_rest}
use Rattle.lists.proofs.Backwards.{last_left}
use Rattle.lists.proofs.ListLaws.{mapped_long}
use Rattle.lists.proofs.Tests.{bit_le, byte_bit}
use Rattle.debounce.specs.declared.Contact.{Contact}
use Rattle.debounce.specs.Card.{no_contact}
use Rattle.debounce.proofs.CodeLaws.{report_at, report_small, report_next, report_none}
use Rattle.debounce.proofs.contacts.report_of.Goals as goal

pub loop-c-init : goal.loop-c-init
loop-c-init c =
    let cs = c.args.cs in
    let long : length cs ≡ 8 = search (rules, mapped_long) in
    let left : iter_rest (rev_source c.into_iter-c-iterator.result) ≡ cs =
    ap (λ z. iter_rest (rev_source z)) c.into_iter-c-iterator.ensures.into_iter_gives ∙ ap iter_rest c.rev-c-items.ensures.source ∙ c.iter.ensures.rest in
    let n : length (iter_rest (rev_source c.into_iter-c-iterator.result)) ≡ 8 = ap (λ (l : List Contact). length l) left ∙ long in
    (long, omega arith, left ∙ sym (take_all _ cs (omega arith)), report_none cs long ∙ ap (report_at cs) (sym n))

-- one contact fewer is left
fewer : (left rest : List Contact) (x : Contact) → left ≡ rest ++ (x ∷ []) → length left ≡ length rest + 1
fewer left rest x e = ap (λ (l : List Contact). length l) e ∙ length-append rest (x ∷ [])

pub overflow_mul-r : goal.overflow_mul-r
overflow_mul-r c =
    let n = fewer _ _ _ c.in-Some.ensures.steps in
    omega (arith, report_small c.args.cs (length (iter_rest (rev_source c.loop-c.c-iterator))) c.loop-c.invariant.0 (omega (arith, n)), c.loop-c.invariant.3)

pub overflow_add-r : goal.overflow_add-r
overflow_add-r c =
    let n = fewer _ _ _ c.in-Some.ensures.steps in
    omega (arith, report_small c.args.cs (length (iter_rest (rev_source c.loop-c.c-iterator))) c.loop-c.invariant.0 (omega (arith, n)), c.loop-c.invariant.3, c.from.ensures, byte_bit c.in-Some.c.now.closed, bit_le c.in-Some.c.now.closed)

pub loop-c-preserved : goal.loop-c-preserved
loop-c-preserved c =
    let cs = c.args.cs in
    let l = c.loop-c in
    let v = l.invariant in
    let rest = iter_rest (rev_source c.next.new.self) in
    let n = fewer _ _ _ c.in-Some.ensures.steps in
    let m : length (iter_rest (rev_source l.c-iterator)) ≡ suc (length rest) = omega (arith, n) in
    let last = last_left no_contact c.in-Some.c.now rest cs (sym c.in-Some.ensures.steps ∙ v.2 ∙ ap (λ (k : ℕ). take k cs) m) in (
      v.0,
      omega (arith, v.1, n),
      last.0,
      ap (λ (y : ℕ). l.r * 2 + y) (c.from.ensures ∙ ap (λ (x : Contact). bool_byte x.closed) last.1) ∙ report_next cs (length rest) l.r (omega (arith, v.0, v.1, n)) (v.3 ∙ ap (report_at cs) n),
    )

pub returns : goal.returns
returns c = c.loop-c.invariant.3 ∙ ap (report_at c.args.cs) c.in-None.ensures.steps.0
