use native.Mathlib.Omega.{arith}
use borrow.Author.Rules.{rules}
use Prim.Native.Nat.{◌≤◌}
use mathlib.Core.Path.{◌≡◌, ap, ◌∙◌}
use lib.ListN.{length}
use Rattle.lists.proofs.ListLaws.{mapped_long}
use Rattle.rules.specs.declared.Supervisor.{Supervisor}
use Rattle.codec.specs.Layout.{stored}
use Rattle.codec.specs.Rows.{second_size}
use Rattle.codec.proofs.RowsLaws.{SizedCore, stored_second_short, stored_second_long}
use Rattle.codec.proofs.rows.second_store.Goals as goal

pub returns-then-room-lt-SECOND_SIZE : goal.returns-then-room-lt-SECOND_SIZE
returns-then-room-lt-SECOND_SIZE c = stored_second_short c.args.room.now c.args.x c.if-room-lt-SECOND_SIZE.true

pub returns : goal.returns
returns c =
    let room = c.args.room.now in
    let x = c.args.x in
    let long : second_size ≤ length room = omega arith in
    let tasks : length x.core.tasks ≡ 31 = search (rules, mapped_long) in
    let ready : length x.core.ready ≡ 31 = search rules in
    let held : length x.core.held ≡ 31 = search rules in
    let delays : length x.core.delays ≡ 31 = search rules in
    let sized : SizedCore x.core = record { tasks = tasks; ready = ready; held = held; delays = delays } in
    stored_second_long room x c.store.new.room c.put_rows.new.room long sized
    (c.store.ensures ∙ ap (λ (s : Supervisor). stored s room) c.as_first-s.ensures) c.put_rows.ensures
