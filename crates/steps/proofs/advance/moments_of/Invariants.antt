use Rattle.std.proofs.Common.{◌≡◌, ◌+◌, ◌≤◌, length, drop}
use Rattle.lists.specs.Line.{line}
use Rattle.rules.specs.Advance.{changes}
use Rattle.table.specs.Moved.{left_of}
use Rattle.steps.proofs.advance.moments_of.Given as goal

abbrev pub invariant-loop-t : goal.invariant-loop-t
invariant-loop-t at = (at.t-index ≤ 31) × (at.n ≤ at.t-index) × (length at.s.tasks ≡ 31) × (changes (left_of at.s) 0 (line at.t-items) ≡ at.n + changes (left_of at.s) at.before (line (drop at.t-index at.t-items)))
