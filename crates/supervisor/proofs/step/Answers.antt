use borrow.Author.Rules.{rules}
use Prim.Native.Nat.{◌<◌}
use mathlib.Core.Path.{◌≡◌, sym, ◌∙◌, ap, subst}
use lib.ListN.{length}
use mathlib.Core.Bool.{true}
use borrow.Author.Tests.{ltb-false}
use Rattle.rules.specs.State.{running}
use Rattle.rules.specs.Step.{Outcome, refused, took, take_call, room_after}
use Rattle.rules.specs.declared.Refusal.TheVariants.{ShortRoom, BadState}
use Rattle.rules.specs.Whole.{Typed, Whole, view, view_core, pack, sound_whole, decline, done, refused_answer, step_whole, stepped_of}
use Rattle.lists.proofs.ListLaws.{mapped_long}
use Rattle.lists.specs.Line.{line}
use Rattle.rules.proofs.Apart.{running_core}
use Rattle.rules.proofs.StepSound.{Kept, call_sound}
use Rattle.rules.proofs.WholeLaws.{sound_view}
use Rattle.steps.specs.Taken.{answer_by, ended_by}
use Rattle.steps.proofs.AnswerLaws.{was_taken, was_refused}
use Rattle.steps.proofs.EngineLaws.{answer_is}
use Rattle.supervisor.proofs.TopLaws.{sees_of, state_is, step_short, step_sound, step_unsound}
use Rattle.supervisor.proofs.step.Goals as goal

pub returns-then-is_short : goal.returns-then-is_short
returns-then-is_short c =
    let a = c.args in
    let n = length a.room.now in
    let e : step_whole a.s a.c n ≡ decline a.s ShortRoom 0 = step_short a.s a.c n (sym c.is_short.ensures ∙ c.if-is_short.true) in
    record {
      value = (λ i. record { state = a.s; answer = (c.refused_answer-answer.ensures ∙ λ j. refused_answer (c.from.ensures j) 0) i }) ∙ sym (ap stepped_of e);
      room = sym (ap (λ (w : Whole). room_after a.room.now w.ended) e);
    }

pub returns-then-not-parts_sound : goal.returns-then-not-parts_sound
returns-then-not-parts_sound c =
    let a = c.args in
    let n = length a.room.now in
    let e : step_whole a.s a.c n ≡ decline a.s BadState 0 = step_unsound a.s a.c n (sym c.is_short.ensures ∙ c.if-is_short.false) (sym c.parts_sound.ensures ∙ c.if-not-parts_sound.true) in
    record {
      value = (λ i. record { state = a.s; answer = (c.refused_answer-answer-then-not-parts_sound.ensures ∙ λ j. refused_answer (c.from-then-not-parts_sound.ensures j) 0) i }) ∙ sym (ap stepped_of e);
      room = sym (ap (λ (w : Whole). room_after a.room.now w.ended) e);
    }

pub take_call-requires : goal.take_call-requires
take_call-requires c =
    let s = c.args.s in
    let l1 : length s.core.tasks ≡ 31 = search (rules, mapped_long) in
    let l2 : length s.core.ready ≡ 31 = search (rules, mapped_long) in
    let l3 : length s.callers ≡ 31 = search (rules, mapped_long) in
    let l4 : length s.core.held ≡ 31 = search (rules, mapped_long) in
    let l5 : length s.core.delays ≡ 31 = search (rules, mapped_long) in
    let k : s.core.clock < 4294967296 = search rules in
    let typed : Typed s = record { core = record { clock = k; tasks = l1; ready = l2; held = l4; delays = l5 }; callers = l3 } in
    (sees_of s c.args.c typed (sym c.parts_sound.ensures ∙ c.if-not-parts_sound.false), ltb-false _ 124 (sym c.is_short.ensures ∙ c.if-is_short.false))

pub returns-in-Err : goal.returns-in-Err
returns-in-Err c =
    let a = c.args in
    let s = a.s in
    let v = view s in
    let why = c.in-Err.why in
    let none = was_refused (take_call v a.c) why c.in-Err.ensures.value in
    -- the call is looked at where both tests have passed
    let whole : step_whole s a.c (length a.room.now) ≡ done s (refused why) =
    step_sound s a.c (length a.room.now) (sym c.is_short.ensures ∙ c.if-is_short.false) (sym c.parts_sound.ensures ∙ c.if-not-parts_sound.false) ∙ ap (done s) none in
    let next = c.running-next.ensures ∙ sym (running_core (view_core s.core) (line s.callers)) in
    let answer = c.answer_by-answer.ensures ∙ (λ i. answer_by (c.refused_by.ensures i) (next i)) ∙ λ i. refused_answer (c.from-in-Err.ensures i) (running v) in
    record {
      value = (λ i. record { state = s; answer = answer i }) ∙ sym (ap stepped_of whole);
      room = c.in-Err.ensures.room ∙ ap (λ (o : Outcome). room_after a.room.now (ended_by o)) none ∙ sym (ap (λ (w : Whole). room_after a.room.now w.ended) whole);
    }

pub returns : goal.returns
returns c =
    let a = c.args in
    let s = a.s in
    let l1 : length s.core.tasks ≡ 31 = search (rules, mapped_long) in
    let l2 : length s.core.ready ≡ 31 = search (rules, mapped_long) in
    let l3 : length s.callers ≡ 31 = search (rules, mapped_long) in
    let l4 : length s.core.held ≡ 31 = search (rules, mapped_long) in
    let l5 : length s.core.delays ≡ 31 = search (rules, mapped_long) in
    let k : s.core.clock < 4294967296 = search rules in
    let typed : Typed s = record { core = record { clock = k; tasks = l1; ready = l2; held = l4; delays = l5 }; callers = l3 } in
    let sound : sound_whole s ≡ true = sym c.parts_sound.ensures ∙ c.if-not-parts_sound.false in
    let v = view s in
    let k = c.in-Ok.k in
    let was = was_taken (take_call v a.c) k c.in-Ok.ensures.value in
    -- the call is looked at where both tests have passed
    let whole : step_whole s a.c (length a.room.now) ≡ done s (took was.state was.answer was.list) =
    step_sound s a.c (length a.room.now) (sym c.is_short.ensures ∙ c.if-is_short.false) sound ∙ ap (done s) was.outcome in
    let room = c.in-Ok.ensures.room ∙ ap (λ (o : Outcome). room_after a.room.now (ended_by o)) was.outcome in
    let state =
    state_is s a.c was.state was.answer was.list k a.room.now _ c.gone_marks-gone.result c.next_line-callers_now.result c.comes-joins.result typed sound
    was.outcome was.gave room c.gone_marks-gone.ensures c.comes-joins.ensures c.next_line-callers_now.ensures in
    let kept = subst Kept was.outcome (call_sound v a.c (sound_view s typed sound)) in
    let answer = c.answer_by-answer-2.ensures ∙ answer_is pack s v was.state was.answer was.list k c.running-next-2.result kept was.gave c.running-next-2.ensures in
    record {
      value = (λ i. record { state = state i; answer = answer i }) ∙ sym (ap stepped_of whole);
      room = room ∙ sym (ap (λ (w : Whole). room_after a.room.now w.ended) whole);
    }
