use native.Mathlib.Omega.{arith}
use Prim.Native.Nat.{◌≤◌}
use mathlib.Core.Path.{sym, ap, ◌∙◌}
use lib.ListN.{length}
use borrow.Author.Tests.{le-ltb}
use Rattle.rules.specs.State.{empty}
use Rattle.rules.specs.Whole.{pack}
use Rattle.rules.specs.declared.Supervisor.{Supervisor}
use Rattle.codec.specs.Layout.{state_size, stored}
use Rattle.lists.proofs.Tests.{if-false}
use Rattle.codec.proofs.CodecLaws.{stored_short}
use Rattle.card.proofs.card_empty.Goals as goal

pub returns-then-state-lt-STATE_SIZE-clause-state_after : goal.returns-then-state-lt-STATE_SIZE-clause-state_after
returns-then-state-lt-STATE_SIZE-clause-state_after c = stored_short c.args.state.now (pack (empty c.args.clock)) c.if-state-lt-STATE_SIZE.true

pub returns-clause-value : goal.returns-clause-value
returns-clause-value c =
    let b = c.args.state.now in
    let long : state_size ≤ length b = omega arith in
    sym (if-false _ _ _ (le-ltb (length b) state_size long))

-- what is put there has no tasks, and the clock that was given
pub returns-clause-state_after : goal.returns-clause-state_after
returns-clause-state_after c = c.store.ensures ∙ ap (λ (s : Supervisor). stored s c.args.state.now) c.empty-s.ensures
