use native.Mathlib.Omega.{arith}
use Prim.Native.Nat.{◌+◌, ◌-◌, ◌≤◌}
use mathlib.Core.Path.{sym, ◌∙◌}
use lib.ListN.{length}
use Rattle.codec.proofs.CodecLaws.{put_mid_is, placed_fits, placed_not}
use Rattle.codec.proofs.put_at.Goals as goal

pub returns-then-room-n : goal.returns-then-room-n
returns-then-room-n c = let a = c.args in placed_not a.room.now a.at a.piece.now (omega arith)

pub returns-then-room-n-2 : goal.returns-then-room-n-2
returns-then-room-n-2 c = let a = c.args in placed_not a.room.now a.at a.piece.now (omega arith)

pub returns : goal.returns
returns c =
    let a = c.args in
    let n = length a.piece.now in
    let fits : a.at + n ≤ length a.room.now = omega arith in
    put_mid_is a.room.now a.piece.now _ a.at (a.at + n - a.at) (omega arith) c.copy_from_slice.ensures.after
    ∙ sym (placed_fits a.room.now a.at a.piece.now fits)
