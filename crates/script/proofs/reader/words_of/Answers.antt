use Rattle.script.proofs.Loops.{next_part, no_part, comment}
use Rattle.script.proofs.Growing.{growing_on, growing_done}
use Rattle.script.specs.Rows.{cut}
use Rattle.script.specs.Words.{words_from, words_of}
use borrow.Author.Rules.{rules}
use native.Mathlib.Omega.{arith}
use mathlib.Core.Bool.{false}
use mathlib.Core.Path.{◌≡◌, sym, ap}
use lib.ListN.{get_or}
use mathlib.Core.List.{List, ◌++◌}
use Prim.Native.Nat.{ℕ}
use Rattle.script.proofs.reader.words_of.Goals as goal

pub loop-b-init : goal.loop-b-init
loop-b-init c =
    let l = c.args.line.now in
    record { long = search rules; so_far = sym (ap (λ (t : List ℕ). cut (t ++ words_from false l)) c.empty-words.ensures) }

pub returns-then-b-eq35 : goal.returns-then-b-eq35
unfolding words_of
returns-then-b-eq35 c =
    let l = c.loop-b in
    let w = c.args.line.now in
    growing_done l.words _ _ l.invariant.long (comment w l.inside l.b-index (omega arith) c.if-b-eq35.true) l.invariant.so_far

pub loop-b-preserved : goal.loop-b-preserved
loop-b-preserved c =
    let l = c.loop-b in
    let w = c.args.line.now in
    let part = c.with_part-words in
    let goes_on : get_or w l.b-index 0 ≡ 35 → ⊥ = λ e. omega arith in
    rw c.is_blank-inside.ensures
    record { long = part.ensures.long; so_far = growing_on _ part.ensures (next_part w l.inside l.b-index (omega arith) goes_on) l.invariant.so_far }

pub returns : goal.returns
unfolding words_of
returns c =
    let l = c.loop-b in
    let w = c.args.line.now in
    growing_done l.words _ _ l.invariant.long (no_part w l.inside l.b-index (omega arith)) l.invariant.so_far
