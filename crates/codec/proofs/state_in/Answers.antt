use Rattle.std.proofs.Common.{◌≡◌, ℕ, ◌+◌, ◌*◌, List, ap, subst, ◌∙◌, arith}
use Rattle.std.specs.Bool.{then_some}
use Rattle.rules.specs.declared.Supervisor.{Supervisor}
use Rattle.codec.specs.Layout.{task_size, is_task, task_from}
use Rattle.codec.proofs.CodecLaws.{rest_all}
use Rattle.codec.proofs.UsedLaws.{used_small, used_long, Reading, reading_start, reading_next, reading_none, read_all, some_task, no_task}
use Rattle.codec.proofs.state_in.Goals as goal

pub loop-i-init : goal.loop-i-init
loop-i-init c =
    let b = c.args.b.now in
    let e = c.used_tasks-n.ensures in
    let small = used_small b in
    (omega arith, λ h. used_long b (omega arith), reading_start b c.used_tasks-n.result c.bare_state-bare.result c.bare_state-bare.ensures)

pub returns-in_default : goal.returns-in_default
returns-in_default c =
    let b = c.args.b.now in
    let l = c.loop-i in
    let long = l.invariant.1 (omega arith) in
    let here = rest_all b (5 + l.i * task_size) (omega (arith, l.invariant.0)) in
    let bad = no_task _ _ (c.task_in.ensures ∙ ap (λ (x : List ℕ). then_some (is_task x) (task_from x)) here) c.in_default.is in
    c.lost_state.ensures ∙ reading_none b c.used_tasks-n.result l.i (record { core = l.core; callers = c.bare_state-bare.result.callers }) (omega arith) l.invariant.2 bad c.used_tasks-n.ensures

pub loop-i-preserved : goal.loop-i-preserved
loop-i-preserved c =
    let b = c.args.b.now in
    let l = c.loop-i in
    let long = l.invariant.1 (omega arith) in
    let here = rest_all b (5 + l.i * task_size) (omega (arith, l.invariant.0)) in
    let good = some_task _ _ _ (c.task_in.ensures ∙ ap (λ (x : List ℕ). then_some (is_task x) (task_from x)) here) c.in-Some.is in
    (l.invariant.0, l.invariant.1, reading_next b c.used_tasks-n.result l.i (record { core = l.core; callers = c.bare_state-bare.result.callers }) (omega arith) l.invariant.2 c.in-Some.task l.invariant.0 good.0 good.1)

-- all used tasks are read
ended : (b : List ℕ) (n i m : ℕ) (s : Supervisor) → n ≡ m → i ≡ m → Reading b n i s → Reading b m m s
ended b n i m s e all r = subst (λ (n : ℕ). Reading b n m s) e (subst (λ (i : ℕ). Reading b n i s) all r)

pub returns : goal.returns
returns c =
    let b = c.args.b.now in
    let l = c.loop-i in
    let s : Supervisor = record { core = l.core; callers = c.bare_state-bare.result.callers } in
    let e = c.used_tasks-n.ensures in
    read_all b s (ended b c.used_tasks-n.result l.i _ s e (omega arith) l.invariant.2)
