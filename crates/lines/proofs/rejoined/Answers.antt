use native.Mathlib.Omega.{arith}
use borrow.Author.Rules.{rules}
use Prim.Native.Nat.{ℕ}
use mathlib.Core.Path.{◌≡◌, sym, ap, ◌∙◌}
use mathlib.Core.List.{List, [], ◌∷◌, ◌++◌}
use lib.ListN.{length, set}
use lib.Seq.{set_out}
use Rattle.lists.specs.Line.{line, pad}
use Rattle.lists.specs.Lists.{remove}
use Rattle.lists.proofs.LineLaws.{left_over}
use Rattle.lists.proofs.Turns.{set_next}
use Rattle.lines.proofs.rejoined.Lts as lts
use Rattle.lines.proofs.rejoined.Reads as reads
use Rattle.lines.proofs.rejoined.Tie as tie
use Rattle.lines.proofs.rejoined.Goals as goal

-- t comes behind what is left, by a store at the first blank place; where there is none, the store is none
put : (c : (lts.After-len tie.the-claims reads.Pre reads.Post)) → let a = c.args in
    set c.without-rest.result c.len-n.result a.t ≡ pad (remove a.t (line a.a) ++ (a.t ∷ []))
put c =
    let w = c.before.before in
    let a = w.args in
    let l = w.without-rest.result in
    let rest = left_over a.a a.t l (search rules) w.without-rest.ensures in
    ap (λ (n : ℕ). set l n a.t) (c.len-n.ensures ∙ ap length rest)
    ∙ ap (λ (l : List ℕ). set l (length (remove a.t (line a.a))) a.t) w.without-rest.ensures
    ∙ set_next (remove a.t (line a.a)) a.t

pub returns-then-n-lt31 : goal.returns-then-n-lt31
returns-then-n-lt31 c = rw c.if-joins.true (put c.before)

pub returns-else-n-lt31 : goal.returns-else-n-lt31
returns-else-n-lt31 c =
    let w = c.before.before.before in
    let l = w.without-rest.result in
    let long : length l ≡ 31 = search rules in
    rw c.if-joins.true (sym (set_out l c.len-n.result w.args.t (omega arith)) ∙ put c.before)

pub returns-else-joins : goal.returns-else-joins
returns-else-joins c = rw c.if-joins.false c.without-rest.ensures
