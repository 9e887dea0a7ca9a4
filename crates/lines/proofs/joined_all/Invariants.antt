use Rattle.std.proofs.Common.{◌≡◌, ◌+◌, ◌≤◌, ◌++◌, drop, take}
use Rattle.lists.specs.Line.{line, pad}
use Rattle.lines.proofs.joined_all.Given as goal

abbrev pub invariant-loop-i : goal.invariant-loop-i
invariant-loop-i l =
    (l.i ≤ 31) × (l.r ≡ pad (take (l.n + l.i) l.r)) × (pad (line l.fn.a ++ line l.fn.b) ≡ pad (take (l.n + l.i) l.r ++ line (drop l.i l.fn.b)))
