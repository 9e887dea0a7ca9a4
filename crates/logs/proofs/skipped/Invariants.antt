use Rattle.logs.proofs.LogLaws.{Passed}
use Rattle.logs.proofs.skipped.Given as goal

-- what has come so far is passed over
abbrev pub invariant-loop : goal.invariant-loop
invariant-loop g l = Passed l.fn.left l.fn.w l.fn.buf l.s l.buf
