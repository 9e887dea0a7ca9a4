use native.Mathlib.Omega.{arith}
use mathlib.Core.Path.{◌≡◌}
use mathlib.Core.List.{[], ◌∷◌}
use Prim.Native.Nat.{◌+◌}
use lib.ListN.{drop, get_or, drop_of_length-le}
use Rattle.lists.proofs.Turns.{rest_cons}
use Rattle.text.proofs.Puts.{toward, putting_start, putting_on, putting_done}
use Rattle.text.proofs.put_bytes.Goals as goal

pub loop-b-init : goal.loop-b-init
loop-b-init c =
    let a = c.args in
    putting_start a.out.now a.at a.text.now c.least-place.ensures

pub loop-b-preserved : goal.loop-b-preserved
loop-b-preserved c =
    let a = c.args in
    let l = c.loop-b in
    let rest : drop l.b-index a.text.now ≡ get_or a.text.now l.b-index 0 ∷ drop (l.b-index + 1) a.text.now = rest_cons a.text.now l.b-index 0 (omega arith) in
    putting_on {a = get_or a.text.now l.b-index 0 ∷ []} (toward rest l.invariant) c.put_byte-place.ensures

pub shape_of-out : goal.shape_of-out
shape_of-out c = c.loop-b.invariant.long

pub returns : goal.returns
returns c =
    let a = c.args in
    let l = c.loop-b in
    putting_done (toward (drop_of_length-le a.text.now {i = l.b-index} (omega arith)) l.invariant)
