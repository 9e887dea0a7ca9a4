use native.Mathlib.Omega.{arith}
use Prim.Native.Nat.{◌≤◌}
use mathlib.Core.Path.{sym, ap, ◌∙◌}
use lib.ListN.{length}
use borrow.Author.Tests.{le-ltb}
use Rattle.rules.specs.Second.{start_second}
use Rattle.rules.specs.declared.Second.{Second}
use Rattle.codec.specs.Rows.{second_size, stored_second}
use Rattle.lists.proofs.Tests.{if-false}
use Rattle.codec.proofs.RowsLaws.{stored_second_short}
use Rattle.card.proofs.by_rows.second_empty.Goals as goal

pub returns-then-state-lt-SECOND_SIZE-clause-state_after : goal.returns-then-state-lt-SECOND_SIZE-clause-state_after
returns-then-state-lt-SECOND_SIZE-clause-state_after c = stored_second_short c.args.state.now (start_second c.args.clock) c.if-state-lt-SECOND_SIZE.true

pub returns-clause-value : goal.returns-clause-value
returns-clause-value c =
    let b = c.args.state.now in
    let long : second_size ≤ length b = omega arith in
    sym (if-false _ _ _ (le-ltb (length b) second_size long))

-- what is put there has no tasks, and the clock that was given
pub returns-clause-state_after : goal.returns-clause-state_after
returns-clause-state_after c = c.second_store.ensures ∙ ap (λ (x : Second). stored_second x c.args.state.now) c.empty-x.ensures
