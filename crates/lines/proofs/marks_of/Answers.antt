use Rattle.std.proofs.Common.{◌∙◌, refl, rules}
use Rattle.lists.proofs.Turns.{rest_entry}
use Rattle.lists.proofs.MarkLaws.{mark_on}
use Rattle.lines.proofs.marks_of.Invariants.{one}
use Rattle.lines.proofs.marks_of.Goals as goal

pub loop-t-init : goal.loop-t-init
loop-t-init c = refl

pub loop-t-preserved : goal.loop-t-preserved
loop-t-preserved c =
    let s = c.loop-t in
    rw c.mark.ensures (s.invariant ∙ mark_on one _ _ _ s.r 1 (rest_entry c.args.a s.t-index (search rules) c.if-t-eq0.false) refl)
