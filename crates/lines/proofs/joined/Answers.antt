use native.Mathlib.Omega.{arith}
use borrow.Author.Rules.{rules}
use mathlib.Core.Path.{refl}
use Rattle.lists.proofs.Turns.{fill_start, fill_keep, fill_last, fill_full}
use Rattle.lines.proofs.joined.Goals as goal

pub returns-then-u-eq0 : goal.returns-then-u-eq0
returns-then-u-eq0 c = fill_last c.loop-i.invariant (search rules) (search rules) c.if-u-eq0.true refl

pub loop-i-preserved : goal.loop-i-preserved
loop-i-preserved c = fill_keep c.loop-i.invariant (search rules) (search rules) c.if-u-eq0.false refl

pub returns : goal.returns
returns c = fill_full c.loop-i.invariant (omega arith)

pub loop-i-init : goal.loop-i-init
loop-i-init c = fill_start
