use Rattle.std.proofs.Common.{length, refl, sym, subst, rules}
use Rattle.lists.specs.Line.{line}
use Rattle.rules.specs.Callers.{with_callers}
use Rattle.rules.specs.Whole.{view_core}
use Rattle.steps.specs.Taken.{EachOnce}
use Rattle.steps.proofs.RoomLaws.{in_room}
use Rattle.steps.proofs.AdvanceLaws.{within_line, within_each, passed_answers}
use Rattle.steps.proofs.advance.passed.Goals as goal

pub wake_all-w-requires : goal.wake_all-w-requires
wake_all-w-requires c =
    let a = c.args in
    let v = view_core a.s in
    let h = c.requires.0 in (
      h,
      in_room a.l (length a.room.now) (search rules) c.requires.1,
      subst (EachOnce v) (sym (within_line a.s a.n a.l h c.requires.2)) (within_each (with_callers v h.callers) a.n h.sound),
    )

pub returns : goal.returns
returns c =
    let a = c.args in
    let w = c.wake_all-w in
    let q = passed_answers (view_core a.s) (line a.l) w.result.state a.n w.result.count a.entry _ _ _
    (within_line a.s a.n a.l c.requires.0 c.requires.2) refl w.ensures c.answered.ensures in
    record { value = q.0; room = q.1 }
