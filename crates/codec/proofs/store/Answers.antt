use native.Mathlib.Omega.{arith}
use borrow.Author.Rules.{rules}
use Prim.Native.Nat.{ℕ, ◌≤◌}
use mathlib.Core.Path.{◌≡◌, ap, ◌∙◌}
use mathlib.Core.List.{List, [], ◌∷◌, ◌++◌}
use lib.ListN.{length}
use Rattle.lists.proofs.ListLaws.{mapped_long}
use Rattle.calls.specs.Duration.{bytes_of}
use Rattle.calls.specs.Record.{byte}
use Rattle.codec.specs.Layout.{state_size, placed_at}
use Rattle.codec.proofs.CodecLaws.{stored_short, stored_long}
use Rattle.codec.proofs.store.Goals as goal

pub returns-then-room-lt-STATE_SIZE : goal.returns-then-room-lt-STATE_SIZE
returns-then-room-lt-STATE_SIZE c = stored_short c.args.room.now c.args.s c.if-room-lt-STATE_SIZE.true

pub returns : goal.returns
returns c =
    let s = c.args.s in
    let room = c.args.room.now in
    let long : state_size ≤ length room = omega arith in
    let tasks : length s.core.tasks ≡ 31 = search (rules, mapped_long) in
    let ready : length s.core.ready ≡ 31 = search rules in
    let callers : length s.callers ≡ 31 = search rules in
    let held : length s.core.held ≡ 31 = search rules in
    let delays : length s.core.delays ≡ 31 = search rules in
    -- the clock and the number of tasks are put first
    let headed : c.put_at.new.room ≡ placed_at room 0 (bytes_of s.core.clock ++ (s.core.created ∷ [])) =
    c.put_at.ensures ∙ ap (λ (n : List ℕ). placed_at room 0 (byte n 0 ∷ byte n 1 ∷ byte n 2 ∷ byte n 3 ∷ s.core.created ∷ [])) c.bytes_of-n.ensures in
    stored_long room s c.put_at.new.room c.put_tasks.new.room c.put_lines.new.room long tasks ready callers held delays headed c.put_tasks.ensures c.put_lines.ensures
