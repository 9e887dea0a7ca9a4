use Rattle.std.proofs.Common.{◌≡◌, ◌^◌, leb, [], Ok, sym, refl, ap, ◌∙◌}
use Rattle.calls.specs.declared.Call.TheVariants.{Select}
use Rattle.rules.specs.State.{meet}
use Rattle.rules.specs.Step.{take_call, took, item, ACCEPTED}
use Rattle.rules.specs.Step as rules
use Rattle.lists.specs.Line.{line}
use Rattle.rules.specs.Callers.{core_of}
use Rattle.rules.proofs.Apart.{running_core, same_none}
use Rattle.rules.specs.Whole.{view_core}
use Rattle.steps.specs.Taken.{taken_of, seen}
use Rattle.steps.proofs.AnswerLaws.{by_outcome, by_core, of_task, runner, unrun, answers}
use Rattle.steps.proofs.MoveLaws.{met_packed}
use Rattle.steps.proofs.LowestLaws.{lowest_none, lowest_one}
use Rattle.steps.proofs.SelectLaws.{select_alone, select_runs, select_wide, select_idle, select_takes, first_fits}
use Rattle.steps.proofs.select.select.Goals as goal

pub returns-in_err-t : goal.returns-in_err-t
returns-in_err-t c =
    let a = c.args in
    by_outcome (select_alone (seen a.s a.mine) a.o a.m (running_core (view_core a.s) (line a.mine) ∙ c.in_err-t.ensures.1))
    (unrun c.from_residual.result _ c.from_residual.ensures.1 (λ y e. e) c.in_err-t.ensures.0)

pub returns-then-is_too_wide : goal.returns-then-is_too_wide
returns-then-is_too_wide c =
    let a = c.args in
    let v = seen a.s a.mine in
    let t = c.in_ok-t.t in
    let here = select_runs v t (c.in_ok-t.ensures.0 ∙ sym (running_core (view_core a.s) (line a.mine))) a.o a.m c.in_ok-t.ensures.1 in
    let wide = of_task v t _ (λ x. leb (2 ^ x.entries) a.o) _ _ c.task_of-x.ensures c.is_too_wide.ensures c.if-is_too_wide.true in
    by_outcome (here ∙ select_wide v t a.o a.m wide) refl

pub select_none-requires : goal.select_none-requires
select_none-requires c = (c.requires.stands, (runner c.args.s c.in_ok-t.t c.requires.stands c.in_ok-t.ensures.0 c.in_ok-t.ensures.1).high)

pub returns-then-b-eq9 : goal.returns-then-b-eq9
returns-then-b-eq9 c =
    let a = c.args in
    let v = seen a.s a.mine in
    let t = c.in_ok-t.t in
    let here = select_runs v t (c.in_ok-t.ensures.0 ∙ sym (running_core (view_core a.s) (line a.mine))) a.o a.m c.in_ok-t.ensures.1 in
    let own = of_task (view_core a.s) t _ (λ x. leb (2 ^ x.entries) a.o) _ _ c.task_of-x.ensures c.is_too_wide.ensures c.if-is_too_wide.false in
    let none = lowest_none v t a.o c.lowest-b.result c.lowest-b.ensures c.if-b-eq9.true in
    by_core (take_call v (Select a.o a.m)) (rules.select_none (view_core a.s) t a.o a.m) (ap core_of (here ∙ select_idle v t a.o a.m own none) ∙ sym (same_none (view_core a.s) (line a.mine) t a.o a.m)) c.select_none.ensures

-- the lowest open entry that has a caller, and its longest-waiting one: the caller that is taken is held
pub returns : goal.returns
returns c =
    let a = c.args in
    let v = seen a.s a.mine in
    let t = c.in_ok-t.t in
    let here = select_runs v t (c.in_ok-t.ensures.0 ∙ sym (running_core (view_core a.s) (line a.mine))) a.o a.m c.in_ok-t.ensures.1 in
    let own = of_task (view_core a.s) t _ (λ x. leb (2 ^ x.entries) a.o) _ _ c.task_of-x.ensures c.is_too_wide.ensures c.if-is_too_wide.false in
    let runs = runner a.s t c.requires.stands c.in_ok-t.ensures.0 c.in_ok-t.ensures.1 in
    let b = c.lowest-b.result in
    let l = lowest_one v t a.o b c.lowest-b.ensures c.if-b-eq9.false in
    let i = first_fits v t a.o b.entry b.task l.0 l.1 l.2 in
    let held : Ok c.answered.result ≡ taken_of (took (meet v t b.task b.entry) (item t ACCEPTED b.entry b.task) []) =
    answers c.met-n.result (meet (view_core a.s) t b.task b.entry) (item t ACCEPTED b.entry b.task) [] c.answered.ensures
    (c.met-n.ensures ∙ met_packed a.s t b.task c.requires.stands runs.low runs.high i.0 i.1 b.entry) refl in
    by_outcome (here ∙ select_takes v t a.o a.m b.entry b.task own l.0 l.1 l.2) held
