use Rattle.std.proofs.Common.{◌≡◌, ◌-◌, ◌≤◌, ◌++◌, length}
use Rattle.lists.specs.Line.{line, pad}
use Rattle.steps.proofs.FinishLaws.{by_marks}
use Rattle.steps.proofs.callers.queued_on.Given as goal

abbrev pub invariant-loop-e : goal.invariant-loop-e
invariant-loop-e l =
    (1 ≤ l.e) × (l.e ≤ 9) × (length l.mine ≡ 31) × (l.r ≡ pad (line l.r)) × (pad (by_marks l.marks (line l.mine) 8 1) ≡ pad (line l.r ++ by_marks l.marks (line l.mine) (9 - l.e) l.e))
