use Rattle.std.proofs.Common.{◌≡◌, ◌-◌, drop}
use Rattle.lists.specs.Line.{line}
use Rattle.rules.specs.Tree.{highest_from}
use Rattle.table.specs.Tree.{highest_in}
use Rattle.table.proofs.tree.+highest.Given as goal

-- What is left of the callers makes of the best so far what all of them make of the first.
abbrev pub invariant-loop-c : goal.invariant-loop-c
invariant-loop-c l =
    highest_from (highest_in (line l.held) l.holders l.priorities (l.depth - 1)) l.own (line l.c-items) ≡ highest_from (highest_in (line l.held) l.holders l.priorities (l.depth - 1)) l.best (line (drop l.c-index l.c-items))

abbrev pub decreases-highest : goal.decreases-highest
decreases-highest l = l.depth
