use Rattle.std.proofs.Common.{◌≡◌, length, drop}
use Rattle.debounce.specs.Card.{start_all}
use Rattle.debounce.proofs.turns.started.Given as goal

abbrev pub invariant-loop-c : goal.invariant-loop-c
invariant-loop-c l = (length l.fn.cs ≡ 8) × (start_all l.initial.s l.fn.cs ≡ start_all l.s (drop l.c-index l.fn.cs))
