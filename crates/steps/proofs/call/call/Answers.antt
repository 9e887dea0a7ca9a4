use Rattle.std.proofs.Common.{◌&&◌, ltb, leb, [], ◌∷◌, refl, ◌∙◌}
use Rattle.rules.specs.Step.{item, WAITS, ACCEPTED}
use Rattle.rules.specs.State.{meet, wake, accepts, is_completed}
use Rattle.rules.specs.Whole.{view_core}
use Rattle.steps.proofs.CallLaws.{a_task, call_dead, call_entry, call_goes, call_meets, call_target, enter_none, enter_one, no_task, quiet_busy, woken_met}
use Rattle.steps.proofs.AnswerLaws.{answers, by_ended, by_outcome, of_task, quiet_room, runner, stay_answers, unrun}
use Rattle.steps.proofs.call.call.Goals as goal

pub returns-in_err-t : goal.returns-in_err-t
returns-in_err-t c =
    let a = c.args in
    let q = enter_none (view_core a.s) a.g a.e a.m c.in_err-t.ensures.1 in
    record { value = by_outcome q (unrun c.from_residual.result _ c.from_residual.ensures.1 (λ y e. e) c.in_err-t.ensures.0); room = by_ended _ _ q refl }

-- Behind each test that has been passed: the running task calls, the target is a task, it has the entry, and it is not completed.
pub returns-then-not-is_between : goal.returns-then-not-is_between
returns-then-not-is_between c =
    let a = c.args in
    let v = view_core a.s in
    let t = c.in_ok-t.t in
    let here = enter_one v t a.g a.e a.m c.in_ok-t.ensures.0 c.in_ok-t.ensures.1 in
    let none = no_task a.s _ a.g c.requires.0 c.is_between.ensures c.if-not-is_between.true in
    let q = here ∙ call_target v t a.g a.e a.m none in
    record { value = by_outcome q refl; room = by_ended _ _ q refl }

pub returns-then-not-is_between-2 : goal.returns-then-not-is_between-2
returns-then-not-is_between-2 c =
    let a = c.args in
    let v = view_core a.s in
    let t = c.in_ok-t.t in
    let here = enter_one v t a.g a.e a.m c.in_ok-t.ensures.0 c.in_ok-t.ensures.1 in
    let task = a_task a.s _ a.g c.requires.0 c.is_between.ensures c.if-not-is_between.false in
    let none = of_task v a.g _ (λ x. ltb 0 a.e && leb a.e x.entries) _ _ c.task_of-x.ensures c.is_between-2.ensures c.if-not-is_between-2.true in
    let q = here ∙ call_entry v t a.g a.e a.m task none in
    record { value = by_outcome q refl; room = by_ended _ _ q refl }

pub returns-then-is_completed : goal.returns-then-is_completed
returns-then-is_completed c =
    let a = c.args in
    let v = view_core a.s in
    let t = c.in_ok-t.t in
    let here = enter_one v t a.g a.e a.m c.in_ok-t.ensures.0 c.in_ok-t.ensures.1 in
    let task = a_task a.s _ a.g c.requires.0 c.is_between.ensures c.if-not-is_between.false in
    let entry = of_task v a.g _ (λ x. ltb 0 a.e && leb a.e x.entries) _ _ c.task_of-x.ensures c.is_between-2.ensures c.if-not-is_between-2.false in
    let dead = of_task v a.g _ (λ x. is_completed x.place) _ _ c.task_of-x.ensures c.is_completed.ensures c.if-is_completed.true in
    let q = here ∙ call_dead v t a.g a.e a.m task entry dead in
    record { value = by_outcome q (stay_answers a.s _ [] c.requires.0 c.answered.ensures); room = by_ended _ _ q refl }

-- the call meets its acceptor
pub returns-then-accepts_at : goal.returns-then-accepts_at
returns-then-accepts_at c =
    let a = c.args in
    let v = view_core a.s in
    let t = c.in_ok-t.t in
    let here = enter_one v t a.g a.e a.m c.in_ok-t.ensures.0 c.in_ok-t.ensures.1 in
    let task = a_task a.s _ a.g c.requires.0 c.is_between.ensures c.if-not-is_between.false in
    let entry = of_task v a.g _ (λ x. ltb 0 a.e && leb a.e x.entries) _ _ c.task_of-x.ensures c.is_between-2.ensures c.if-not-is_between-2.false in
    let alive = of_task v a.g _ (λ x. is_completed x.place) _ _ c.task_of-x.ensures c.is_completed.ensures c.if-is_completed.false in
    let meets = of_task v a.g _ (λ x. accepts x.place a.e) _ _ c.task_of-x.ensures c.accepts_at.ensures c.if-accepts_at.true in
    let q = here ∙ call_meets v t a.g a.e a.m task entry alive meets in
    let runs = runner a.s t c.requires.0 c.in_ok-t.ensures.0 c.in_ok-t.ensures.1 in
    let woken = woken_met a.s _ _ a.g t a.e c.requires.0 task runs.low runs.high c.moved-n.ensures c.met-k.ensures in
    record {
      value = by_outcome q (answers c.met-k.result (meet (wake v a.g) a.g t a.e) (item t WAITS 0 0) (item a.g ACCEPTED a.e t ∷ []) c.answered-then-accepts_at.ensures woken refl);
      room = by_ended _ _ q (rw c.into.ensures at c.put.ensures);
    }

pub call_busy-requires : goal.call_busy-requires
call_busy-requires c = (c.requires.0, (runner c.args.s c.in_ok-t.t c.requires.0 c.in_ok-t.ensures.0 c.in_ok-t.ensures.1).high)

pub returns : goal.returns
returns c =
    let a = c.args in
    let v = view_core a.s in
    let t = c.in_ok-t.t in
    let here = enter_one v t a.g a.e a.m c.in_ok-t.ensures.0 c.in_ok-t.ensures.1 in
    let task = a_task a.s _ a.g c.requires.0 c.is_between.ensures c.if-not-is_between.false in
    let entry = of_task v a.g _ (λ x. ltb 0 a.e && leb a.e x.entries) _ _ c.task_of-x.ensures c.is_between-2.ensures c.if-not-is_between-2.false in
    let alive = of_task v a.g _ (λ x. is_completed x.place) _ _ c.task_of-x.ensures c.is_completed.ensures c.if-is_completed.false in
    let busy = of_task v a.g _ (λ x. accepts x.place a.e) _ _ c.task_of-x.ensures c.accepts_at.ensures c.if-accepts_at.false in
    let q = here ∙ call_goes v t a.g a.e a.m task entry alive busy in
    record { value = by_outcome q c.call_busy.ensures; room = by_ended _ _ q (quiet_room _ (quiet_busy v t a.g a.e a.m)) }
