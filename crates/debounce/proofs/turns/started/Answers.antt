use Rattle.std.proofs.Common.{◌+◌, drop, sym, refl, ap, ◌∙◌, arith, rules}
use Rattle.rules.specs.declared.Supervisor.{Supervisor}
use Rattle.lists.proofs.ListLaws.{mapped_long}
use Rattle.debounce.specs.Card.{start_all}
use Rattle.debounce.proofs.CodeLaws.{start_next, start_done}
use Rattle.debounce.proofs.turns.started.Goals as goal

pub loop-c-init : goal.loop-c-init
loop-c-init c = (search (rules, mapped_long), refl)

pub loop-c-preserved : goal.loop-c-preserved
loop-c-preserved c =
    let l = c.loop-c in
    let cs = c.args.cs in
    (l.invariant.0, l.invariant.1 ∙ start_next l.s cs l.c-index (omega (arith, l.invariant.0)) ∙ ap (λ (s : Supervisor). start_all s (drop (l.c-index + 1) cs)) (sym c.started_one-s.ensures))

pub returns : goal.returns
returns c =
    let l = c.loop-c in
    let cs = c.args.cs in
    sym (start_done l.s cs l.c-index (omega (arith, l.invariant.0))) ∙ sym l.invariant.1 ∙ ap (λ (s : Supervisor). start_all s cs) c.no_tasks-s.ensures
