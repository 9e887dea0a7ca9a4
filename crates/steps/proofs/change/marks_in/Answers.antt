use Rattle.std.proofs.Common.{◌≡◌, ℕ, ◌+◌, ◌-◌, ◌*◌, sym, ap, ◌∙◌, arith}
use Rattle.calls.specs.Record.{byte}
use Rattle.lists.specs.Marks.{marked}
use Rattle.steps.specs.Change.{one, bytes_in}
use Rattle.steps.proofs.ChangeLaws.{bytes_on, bytes_end}
use Rattle.steps.proofs.change.marks_in.Goals as goal

pub loop-i-init : goal.loop-i-init
loop-i-init c =
    let a = c.args in
    let z : a.n - 0 ≡ a.n = omega arith in
    (omega arith, ap (λ (k : ℕ). marked one (bytes_in a.field k a.room.now) a.first) (sym z))

pub loop-i-preserved : goal.loop-i-preserved
loop-i-preserved c =
    let l = c.loop-i in
    let a = c.args in
    (omega arith, l.invariant.1 ∙ bytes_on a.field a.room.now l.marks _ a.n l.i c.byte_at.result (omega arith) (c.byte_at.ensures ∙ (λ j. byte a.room.now (c.from.ensures j * 4 + c.from-in-loop-i.ensures j))) c.mark.ensures)

pub returns : goal.returns
returns c =
    let l = c.loop-i in
    let a = c.args in
    sym (l.invariant.1 ∙ bytes_end a.field a.room.now l.marks a.n l.i (omega arith))
