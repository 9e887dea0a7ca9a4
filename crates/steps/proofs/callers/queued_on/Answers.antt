use Rattle.std.proofs.Common.{◌≡◌, ◌≤◌, eqb, length, sym, refl, ap, ◌∙◌, arith, length-take, rules}
use Rattle.lists.specs.Line.{line, pad, pad_to}
use Rattle.lists.specs.Marks.{mark_of, with_mark}
use Rattle.lists.proofs.LineLaws.{line_line, line_picked}
use Rattle.lists.proofs.ListLaws.{mapped_long}
use Rattle.rules.specs.Step.{queued_on}
use Rattle.steps.specs.Taken.{seen}
use Rattle.rules.specs.Whole.{view_core}
use Rattle.steps.proofs.FinishLaws.{queued_laid, queued_turn, queued_end, marks_queued}
use Rattle.steps.proofs.callers.queued_on.Goals as goal

pub loop-e-init : goal.loop-e-init
unfolding pad pad_to
loop-e-init c = (omega arith, omega arith, search (rules, mapped_long), refl, refl)

-- what has the mark e is a line
picked-here : (c : goal.After-with_queue-next) → let m = c.entries_called-marks.result in let q = with_mark m c.loop-e.e (line c.args.mine) in line q ≡ q
picked-here c =
    let l = c.loop-e in
    let m = c.entries_called-marks.result in
    let z = line_picked (λ t. eqb (mark_of m t) l.e) c.args.mine l.invariant.2 in
    ap line (sym z) ∙ line_line (pad (with_mark m l.e (line c.args.mine))) ∙ z

pub loop-e-preserved : goal.loop-e-preserved
loop-e-preserved c =
    let l = c.loop-e in
    let m = c.entries_called-marks.result in
    let a = line c.args.mine in
    let n = c.with_queue-next in (
      omega arith,
      omega arith,
      l.invariant.2,
      queued_laid m a l.e l.r n.result l.invariant.3 n.ensures (picked-here c) (omega arith) (omega arith),
      l.invariant.4 ∙ queued_turn m a l.e l.r n.result l.invariant.3 n.ensures (picked-here c) (omega arith) (omega arith),
    )

pub returns : goal.returns
unfolding queued_on
returns c =
    let l = c.loop-e in
    let m = c.entries_called-marks.result in
    let s = c.args.s in
    let long : length s.tasks ≡ 31 = search (rules, mapped_long) in
    let few : length (view_core s).tasks ≤ 31 = simp length-take (omega arith) in
    sym (ap pad (sym (marks_queued (seen s c.args.mine) c.args.t m few c.entries_called-marks.ensures 8 1 (omega arith) (omega arith))) ∙ l.invariant.4 ∙ queued_end m (line c.args.mine) l.e l.r (omega arith) l.invariant.3)
