use Rattle.std.proofs.Common.{refl, sym, ◌∙◌, arith, rules}
use Rattle.lists.proofs.Turns.{fill_start, fill_keep, fill_skip, fill_stop, fill_over}
use Rattle.lines.proofs.kept.Goals as goal
use Rattle.lines.proofs.kept.Goals.{then-stays, else-stays}

pub loop-x-init : goal.loop-x-init
loop-x-init g c = (omega arith, λ test h. fill_start)

pub returns-then-x-eq0 : goal.returns-then-x-eq0
returns-then-x-eq0 g c = λ test h. fill_stop (c.loop-x.invariant.1 test h) (search rules) (search rules) c.if-x-eq0.true refl

pub loop-x-preserved : goal.loop-x-preserved
loop-x-preserved g c =
    let f = c.loop-x.invariant.1 in
    elim c.if-stays.branch [
      | then-stays w ↦
          (rw w.j-is (omega arith), λ test h. rw (w.r-is, w.j-is) (fill_keep (f test h) (search rules) (search rules) c.if-x-eq0.false (rw (sym (h _ _ (search rules) c.stays.ensures) ∙ w.if-stays.true))))
      | else-stays w ↦
          (rw w.j-is (omega arith), λ test h. rw (w.r-is, w.j-is) (fill_skip (f test h) (search rules) (search rules) c.if-x-eq0.false (rw (sym (h _ _ (search rules) c.stays.ensures) ∙ w.if-stays.false))))
    ]

pub returns : goal.returns
returns g c = λ test h. fill_over (c.loop-x.invariant.1 test h) (search rules) (omega arith) refl
