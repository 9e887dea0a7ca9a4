use Rattle.std.proofs.Common.{◌≡◌, ℕ, ◌<◌, ◌≤◌, Bool}
use Rattle.lists.specs.Line.{line}
use Rattle.lists.specs.Lists.{filter}
use Rattle.lists.proofs.Turns.{Filling}
use Rattle.lines.proofs.kept.Given as goal

-- Those that stay of the rest of the line come behind the entries so far.
abbrev pub invariant-loop-x : goal.invariant-loop-x
invariant-loop-x g l =
    (l.j ≤ l.x-index) × ((test : ℕ → Bool) → ((x : ℕ) (b : Bool) → x < 256 → goal.F-post g l.stays x b → b ≡ test x) → Filling (filter test (line l.fn.a)) (filter test) l.fn.a l.r l.j l.x-index)
