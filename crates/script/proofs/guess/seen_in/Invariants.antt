use Rattle.std.proofs.Common.{◌≡◌, drop}
use Rattle.script.specs.Guess.{hear, unseen}
use Rattle.script.proofs.guess.seen_in.Given as goal

abbrev pub invariant-loop-b : goal.invariant-loop-b
invariant-loop-b l = hear unseen l.words ≡ hear l.s (drop l.b-index l.words)
