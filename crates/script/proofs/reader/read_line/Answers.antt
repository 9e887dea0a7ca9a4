use Prim.Native.Nat.{ℕ}
use mathlib.Core.List.{List}
use mathlib.Core.Path.{◌≡◌, sym, ap, subst, ◌∙◌}
use lib.ListN.{length, take}
use native.Mathlib.Omega.{arith}
use Rattle.script.specs.Rows.{text_in}
use Rattle.script.specs.Words.{words_of}
use Rattle.script.specs.Says.{Says}
use Rattle.script.specs.declared.Line.TheVariants as L
use Rattle.std.proofs.lemmas.Bool.Decides.{Decides-eqb, not_from_Decides}
use Rattle.std.proofs.lemmas.Slice.Eq.{slice_eq-Decides}
use Rattle.script.specs.Guess.{hear, unseen}
use Rattle.script.proofs.Reading.{row_long, guess_is, printed, said, unsaid, all_there, too_long}
use borrow.Author.Rules.{rules}
use Rattle.script.proofs.reader.read_line.Goals as goal

pub returns-then-n-ge64 : goal.returns-then-n-ge64
returns-then-n-ge64 c =
    let w = c.words_of-words in
    too_long (words_of c.args.line.now) w.result (search rules) w.ensures c.if-n-ge64.true

-- words that do not fill the row are all there
pub returns-then-n-eq0 : goal.returns-then-n-eq0
returns-then-n-eq0 c =
    let w = c.words_of-words in
    sym (all_there (words_of c.args.line.now) w.result (search rules) w.ensures c.if-n-ge64.false) ∙ ap (λ (n : ℕ). take n w.result.bytes) c.if-n-eq0.true

pub returns-then-eq : goal.returns-then-eq
returns-then-eq c =
    let w = c.words_of-words in
    let there = all_there (words_of c.args.line.now) w.result (search rules) w.ensures c.if-n-ge64.false in
    let r = c.with_call-row in
    let g = c.guess_by-call.result in
    let d = slice_eq-Decides Decides-eqb _ _ _ c.eq.ensures in
    subst (λ (l : List ℕ). Says l (L.Says g)) there
    (said (text_in w.result) (text_in r.result) g r.ensures.fits
    (printed g c.empty.result c.with_byte.result r.result r.ensures.fits c.empty.ensures c.with_byte.ensures r.ensures.grown)
    (sym c.text-2.ensures ∙ d.0 c.if-eq.true ∙ c.text-3.ensures))

pub returns : goal.returns
returns c =
    let w = c.words_of-words in
    let long : length w.result.bytes ≡ 64 = search rules in
    let there = all_there (words_of c.args.line.now) w.result long w.ensures c.if-n-ge64.false in
    let r = c.with_call-row in
    let g = c.guess_by-call.result in
    let d = slice_eq-Decides Decides-eqb _ _ _ c.eq.ensures in
    subst (λ (l : List ℕ). Says l L.Unread) there
    (unsaid (text_in w.result) (text_in r.result) g
    (guess_is (text_in w.result) c.seen_in.result g (c.seen_in.ensures ∙ ap (hear unseen) c.text.ensures) c.guess_by-call.ensures)
    (printed g c.empty.result c.with_byte.result r.result r.ensures.fits c.empty.ensures c.with_byte.ensures r.ensures.grown)
    (λ e. not_from_Decides _ d c.if-eq.false (c.text-2.ensures ∙ e ∙ sym c.text-3.ensures))
    (λ e. c.if-n-eq0.false (omega (arith, e, row_long w.result long (omega (arith, c.if-n-ge64.false))))))
