use borrow.Author.Tests.{lt-ltb, le-ltb}
use Rattle.script.proofs.guess.added.Goals as goal

pub returns-then-b-gt64 : goal.returns-then-b-gt64
returns-then-b-gt64 c = rw (lt-ltb 64 c.args.b c.if-b-gt64.true)

pub returns-else-b-gt64 : goal.returns-else-b-gt64
returns-else-b-gt64 c = rw (le-ltb 64 c.args.b c.if-b-gt64.false)
