use Rattle.std.proofs.Common.{◌≡◌, ℕ, eqb, List, [], length, sym, refl, ap, ◌∙◌, subst, arith, rules, eqb-true}
use Rattle.calls.specs.declared.Call.TheVariants.{Finish}
use Rattle.lists.specs.Line.{line, pad}
use Rattle.lists.specs.Lists.{filter}
use Rattle.rules.specs.State.{running, held_by}
use Rattle.rules.specs.Step.{take_call, item, DONE}
use Rattle.rules.specs.Step as rules
use Rattle.rules.specs.Callers.{core_of}
use Rattle.rules.proofs.Apart.{running_core}
use Rattle.rules.specs.Whole.{view_core}
use Rattle.rules.specs.declared.Place.TheVariants.{Completed}
use Rattle.rules.specs.declared.Timer.TheVariants.{Off}
use Rattle.rules.specs.declared.Core.{Core}
use Rattle.table.specs.Moved.{passes_of}
use Rattle.table.specs.declared.queues.Test.TheVariants.{HeldBy}
use Rattle.steps.specs.Taken.{EachOnce, seen, completing}
use Rattle.lists.proofs.Turns.{rest_blank}
use Rattle.lists.proofs.Tests.{and_first, and_second}
use Rattle.steps.proofs.MoveLaws.{picked_line, long_held}
use Rattle.steps.proofs.AnswerLaws.{by_outcome, by_ended, by_core, by_core_ended, runner, unrun, move-answers}
use Rattle.steps.proofs.FinishLaws.{finish_idle, finish_runs, finish_holds, finish_goes, finish_alone, seen_each, seen_line, completing_core}
use Rattle.steps.proofs.RoomLaws.{in_room}
use Rattle.lists.proofs.LineLaws.{length_pad, first_at}
use Rattle.steps.proofs.finish.finish.Goals as goal

finish-here : (s : Core) (mine : List ℕ) (t : ℕ) → t ≡ running (view_core s) → (t ≡ 0 → ⊥) → take_call (seen s mine) Finish ≡ rules.finish (seen s mine) t
finish-here s mine t run z = finish_runs (seen s mine) t (run ∙ sym (running_core (view_core s) (line mine))) z

-- how many t holds
held-here : (s : Core) (t : ℕ) (l : List ℕ) (k : ℕ) → length s.held ≡ 31 → k ≡ length (line l) → l ≡ pad (filter (passes_of (view_core s) (HeldBy t)) (line s.held)) → k ≡ length (held_by (view_core s) t)
held-here s t l k long e p = e ∙ ap length (picked_line s s.held (HeldBy t) l long p)

pub returns-in_err-t : goal.returns-in_err-t
returns-in_err-t c =
    let a = c.args in
    let q = finish_idle (seen a.s a.mine) (running_core (view_core a.s) (line a.mine) ∙ c.in_err-t.ensures.1) in
    record { value = by_outcome q (unrun c.from_residual.result _ c.from_residual.ensures.1 (λ y e. e) c.in_err-t.ensures.0); room = by_ended _ _ q refl }

-- nobody is held, and nobody is queued
pub returns-then-first_of : goal.returns-then-first_of
returns-then-first_of c =
    let a = c.args in
    let s = a.s in
    let t = c.in_ok-t.t in
    let stands = c.requires.0.stands in
    let m = c.first_of.result in
    let n = c.first_of-2.result in
    let none = c.if-first_of.true in
    let held = rest_blank s.held 0 (omega (arith, long_held s stands)) (first_at s.held ∙ sym c.first_of.ensures ∙ eqb-true m 0 (and_first (eqb m 0) (eqb n 0) none)) in
    let callers = rest_blank a.mine 0 (search rules) (first_at a.mine ∙ sym c.first_of-2.ensures ∙ eqb-true n 0 (and_second (eqb m 0) (eqb n 0) none)) in
    let runs = runner s t stands c.in_ok-t.ensures.0 c.in_ok-t.ensures.1 in
    let q = finish-here s a.mine t c.in_ok-t.ensures.0 c.in_ok-t.ensures.1 ∙ finish_alone (seen s a.mine) t held callers in
    record {
      value = by_outcome q (move-answers s c.moved-m.result t Completed Off (item t DONE 0 0) [] stands runs.high c.answered.ensures c.moved-m.ensures);
      room = by_ended _ _ q refl;
    }

pub returns-then-k-gt0 : goal.returns-then-k-gt0
returns-then-k-gt0 c =
    let a = c.args in
    let t = c.in_ok-t.t in
    let held = held-here a.s t c.picked-h.result c.len-k.result (long_held a.s c.requires.0.stands) c.len-k.ensures c.picked-h.ensures in
    let q = finish-here a.s a.mine t c.in_ok-t.ensures.0 c.in_ok-t.ensures.1 ∙ finish_holds (seen a.s a.mine) t c.len-k.result held c.if-k-gt0.true in
    record { value = by_outcome q refl; room = by_ended _ _ q refl }

pub completed-requires : goal.completed-requires
completed-requires c =
    let a = c.args in
    let t = c.in_ok-t.t in
    let l = c.queued_on-l in
    let h = c.requires.0 in (
      h.stands,
      in_room l.result _ (ap length l.ensures ∙ length_pad _) c.requires.1,
      subst (EachOnce (view_core a.s)) (sym (seen_line a.s a.mine t h c.in_ok-t.ensures.0 l.result l.ensures)) (seen_each a.s a.mine t h c.in_ok-t.ensures.0),
      (runner a.s t h.stands c.in_ok-t.ensures.0 c.in_ok-t.ensures.1).high,
    )

pub returns : goal.returns
returns c =
    let a = c.args in
    let h = c.requires.0 in
    let t = c.in_ok-t.t in
    let l = line c.queued_on-l.result in
    let v = seen a.s a.mine in
    let held = held-here a.s t c.picked-h.result c.len-k.result (long_held a.s h.stands) c.len-k.ensures c.picked-h.ensures in
    let queued = seen_line a.s a.mine t h c.in_ok-t.ensures.0 c.queued_on-l.result c.queued_on-l.ensures in
    let o = take_call v Finish in
    let q = completing (view_core a.s) t l in
    let e = ap core_of (finish-here a.s a.mine t c.in_ok-t.ensures.0 c.in_ok-t.ensures.1 ∙ finish_goes v t c.len-k.result l held c.if-k-gt0.false queued) ∙ completing_core (view_core a.s) (line a.mine) t l in
    record { value = by_core o q e c.completed.ensures.value; room = by_core_ended o q _ _ e c.completed.ensures.room }
