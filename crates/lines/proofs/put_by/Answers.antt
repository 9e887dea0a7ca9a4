use native.Mathlib.Omega.{arith}
use borrow.Author.Rules.{rules}
use Prim.Native.Nat.{ℕ, ◌+◌}
use mathlib.Core.Path.{◌≡◌, refl, ap}
use mathlib.Core.Bool.{Bool, ◌||◌}
use lib.Dec.{ltb}
use lib.ListN.{drop, get_or}
use Rattle.lists.specs.Line.{line}
use Rattle.lists.specs.Marks.{mark_of}
use Rattle.lists.proofs.Turns.{fill_start, fill_keep, fill_last, fill_full, insert_here, insert_on}
use Rattle.lines.proofs.put_by.Goals as goal
use Rattle.lines.proofs.put_by.Goals.{then-passed, else-passed}

pub loop-i-init : goal.loop-i-init
loop-i-init c = fill_start

pub returns-then-x-eq0 : goal.returns-then-x-eq0
returns-then-x-eq0 c = fill_last c.loop-i.invariant (search rules) (search rules) c.if-x-eq0.true refl

pub loop-i-preserved : goal.loop-i-preserved
loop-i-preserved c =
    let s = c.loop-i in
    let a = c.args in
    let f : ℕ → Bool = λ x. ltb a.k (mark_of a.keys x) in
    let x = get_or a.a s.i 0 in
    let rest = line (drop (s.i + 1) a.a) in
    let key : c.unwrap_or.result ≡ mark_of a.keys x = search rules in
    let test = ap (λ (k : ℕ). s.passed || ltb a.k k) key in
    elim c.if-passed.branch [
      | then-passed w ↦ rw (w.r-is, w.carry-is) (fill_keep s.invariant (search rules) (search rules) c.if-x-eq0.false (insert_here f s.carry x rest s.passed _ test w.if-passed.true))
      | else-passed w ↦ rw (w.r-is, w.carry-is) (fill_keep s.invariant (search rules) (search rules) c.if-x-eq0.false (insert_on f s.carry x rest s.passed _ test w.if-passed.false))
    ]

pub returns : goal.returns
returns c = fill_full c.loop-i.invariant (omega arith)
