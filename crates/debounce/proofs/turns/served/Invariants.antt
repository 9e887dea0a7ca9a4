use Rattle.std.proofs.Common.{◌≡◌, ◌-◌}
use Rattle.debounce.specs.Card.{serve}
use Rattle.debounce.proofs.turns.served.Given as goal

abbrev pub invariant-loop-turn : goal.invariant-loop-turn
invariant-loop-turn l = serve (8 - 0) l.initial.now l.initial.t l.bits ≡ serve (8 - l._turn) l.now l.t l.bits
