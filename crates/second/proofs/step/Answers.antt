use borrow.Author.Rules.{rules}
use mathlib.Core.Path.{◌≡◌, refl, sym, ◌∙◌, ap, subst}
use mathlib.Core.Bool.{true, false}
use lib.ListN.{length}
use Rattle.lists.proofs.ListLaws.{mapped_long}
use lib.Dec.{ltb}
use borrow.Author.Tests.{ltb-false}
use Rattle.std.specs.Prelude.{Ok, Err}
use Rattle.rules.specs.Second.{gathered, view_second, pack_second, sound_second, step_second}
use Rattle.rules.specs.State.{running}
use Rattle.rules.specs.Step.{Outcome, refused, took, take_call, room_after}
use Rattle.rules.specs.Whole.{view_core, StepOf, done_by, refused_answer, stepped_of}
use Rattle.rules.specs.declared.Second.{Second}
use Rattle.rules.proofs.Apart.{running_core}
use Rattle.rules.proofs.StepSound.{Kept, call_sound}
use Rattle.steps.specs.Taken.{answer_by, ended_by}
use Rattle.steps.proofs.AnswerLaws.{was_taken, was_refused}
use Rattle.steps.proofs.EngineLaws.{answer_is}
use Rattle.second.proofs.RowLaws.{typed_second}
use Rattle.second.proofs.TopLaws.{sound_here, sees_second, taken_here, second_state, step_short, step_unsound, step_sound, by_state, by_room}
use Rattle.second.proofs.step.Goals as goal

pub returns-then-is_short : goal.returns-then-is_short
returns-then-is_short c =
    let a = c.args in
    let q = step_short a.x a.c (length a.room.now) (sym c.is_short.ensures ∙ c.if-is_short.true) in
    record { value = by_state q (λ i. record { state = a.x; answer = (c.refused_answer-answer.ensures ∙ λ j. refused_answer (c.from.ensures j) 0) i }); room = by_room _ _ q refl }

pub returns-then-not-rows_sound : goal.returns-then-not-rows_sound
returns-then-not-rows_sound c =
    let a = c.args in
    let q = step_unsound a.x a.c (length a.room.now) (sym c.is_short.ensures ∙ c.if-is_short.false) (sym c.rows_sound.ensures ∙ c.if-not-rows_sound.true) in
    record { value = by_state q (λ i. record { state = a.x; answer = (c.refused_answer-answer-then-not-rows_sound.ensures ∙ λ j. refused_answer (c.from-then-not-rows_sound.ensures j) 0) i }); room = by_room _ _ q refl }

pub take_call-requires : goal.take_call-requires
take_call-requires c =
    let x = c.args.x in
    let typed = typed_second x _ (search rules) (search (rules, mapped_long)) (search (rules, mapped_long)) (search (rules, mapped_long)) (search (rules, mapped_long)) (search (rules, mapped_long)) c.well_formed.0.1.1.1.0.1.1 in
    let few : ltb (length c.args.room.now) 124 ≡ false = sym c.is_short.ensures ∙ c.if-is_short.false in
    (sees_second x typed (sym c.rows_sound.ensures ∙ c.if-not-rows_sound.false) c.args.c c.row_looked_at-mine.result c.row_looked_at-mine.ensures, ltb-false _ 124 few)

pub returns-in-Err : goal.returns-in-Err
returns-in-Err c =
    let x = c.args.x in
    let typed = typed_second x _ (search rules) (search (rules, mapped_long)) (search (rules, mapped_long)) (search (rules, mapped_long)) (search (rules, mapped_long)) (search (rules, mapped_long)) c.well_formed.0.1.1.1.0.1.1 in
    let r = c.args.room.now in
    let d = c.args.c in
    let v = view_second x in
    let m = c.row_looked_at-mine in
    let why = c.in-Err.why in
    let ok : sound_second x ≡ true = sym c.rows_sound.ensures ∙ c.if-not-rows_sound.false in
    let t = taken_here x typed ok d m.result (Err why) _ r m.ensures c.in-Err.ensures.value c.in-Err.ensures.room in
    let none = was_refused (take_call v d) why t.0 in
    -- the call is looked at where both tests have passed
    let done : step_second x d (length r) ≡ done_by pack_second x v (refused why) =
    step_sound x d (length r) (sym c.is_short.ensures ∙ c.if-is_short.false) ok ∙ ap (done_by pack_second x v) none in
    let next = c.running-next.ensures ∙ sym (running_core (view_core x.core) (gathered x.rows)) in
    let answer = c.answer_by-answer.ensures ∙ (λ i. answer_by (c.refused_by.ensures i) (next i)) ∙ λ i. refused_answer (c.from-in-Err.ensures i) (running v) in
    record {
      value = (λ i. record { state = x; answer = answer i }) ∙ sym (ap stepped_of done);
      room = t.1 ∙ ap (λ (o : Outcome). room_after r (ended_by o)) none ∙ sym (ap (λ (w : StepOf Second). room_after r w.ended) done);
    }

pub returns : goal.returns
returns c =
    let x = c.args.x in
    let typed = typed_second x _ (search rules) (search (rules, mapped_long)) (search (rules, mapped_long)) (search (rules, mapped_long)) (search (rules, mapped_long)) (search (rules, mapped_long)) c.well_formed.0.1.1.1.0.1.1 in
    let r = c.args.room.now in
    let d = c.args.c in
    let v = view_second x in
    let m = c.row_looked_at-mine in
    let k = c.in-Ok.k in
    let ok : sound_second x ≡ true = sym c.rows_sound.ensures ∙ c.if-not-rows_sound.false in
    let t = taken_here x typed ok d m.result (Ok k) _ r m.ensures c.in-Ok.ensures.value c.in-Ok.ensures.room in
    let was = was_taken (take_call v d) k t.0 in
    -- the call is looked at where both tests have passed
    let done : step_second x d (length r) ≡ done_by pack_second x v (took was.state was.answer was.list) =
    step_sound x d (length r) (sym c.is_short.ensures ∙ c.if-is_short.false) ok ∙ ap (done_by pack_second x v) was.outcome in
    let room = t.1 ∙ ap (λ (o : Outcome). room_after r (ended_by o)) was.outcome in
    let state = second_state x typed ok d was.state was.answer was.list k r _ c.left_marks-left.result c.gone_marks-gone.result c.joined_queue-joined.result c.next_rows-rows_now.result
    was.outcome was.gave room c.gone_marks-gone.ensures c.left_marks-left.ensures c.joined_queue-joined.ensures c.next_rows-rows_now.ensures in
    let kept = subst Kept was.outcome (call_sound v d (sound_here x typed ok)) in
    let answer = c.answer_by-answer-2.ensures ∙ answer_is pack_second x v was.state was.answer was.list k c.running-next-2.result kept was.gave c.running-next-2.ensures in
    record {
      value = (λ i. record { state = state i; answer = answer i }) ∙ sym (ap stepped_of done);
      room = room ∙ sym (ap (λ (w : StepOf Second). room_after r w.ended) done);
    }
