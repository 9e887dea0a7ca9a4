use native.Mathlib.Omega.{arith}
use Prim.Native.Nat.{◌≤◌}
use mathlib.Core.Path.{ap, ◌∙◌}
use lib.ListN.{length}
use Rattle.codec.specs.Rows.{second_size, core_from}
use Rattle.codec.proofs.RowsLaws.{second_short, second_long}
use Rattle.codec.proofs.rows.second_in.Goals as goal

pub returns-then-b-lt-SECOND_SIZE : goal.returns-then-b-lt-SECOND_SIZE
returns-then-b-lt-SECOND_SIZE c = c.lost_second.ensures ∙ second_short c.args.b.now c.if-b-lt-SECOND_SIZE.true

pub returns : goal.returns
returns c =
    let b = c.args.b.now in
    let long : second_size ≤ length b = omega arith in
    second_long b c.core_from-core.result c.rows_in-rows.result long (c.core_from-core.ensures ∙ ap core_from c.state_in-s.ensures) c.rows_in-rows.ensures
