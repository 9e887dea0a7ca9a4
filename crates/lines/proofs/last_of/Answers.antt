use native.Mathlib.Omega.{arith}
use borrow.Author.Rules.{rules}
use mathlib.Core.Path.{◌≡◌, ◌∙◌, sym}
use lib.ListN.{length}
use Rattle.lists.specs.Line.{line}
use Rattle.lists.proofs.LineLaws.{length_line, last_at, last_none}
use Rattle.lines.proofs.last_of.Goals as goal

pub returns-then-n-eq0 : goal.returns-then-n-eq0
returns-then-n-eq0 c = last_none (line c.args.a) (sym c.len-n.ensures ∙ c.if-n-eq0.true)

-- a line is no longer than its array
pub bounds-a-n : goal.bounds-a-n
bounds-a-n c =
    let a = c.args.a in
    let l : length a ≡ 31 = search rules in
    omega (arith, length_line a, c.len-n.ensures)

pub returns : goal.returns
returns c = last_at c.args.a c.len-n.result c.len-n.ensures c.if-n-eq0.false
