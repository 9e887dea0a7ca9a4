use Rattle.std.proofs.Common.{refl, ◌∙◌, arith, rules}
use Rattle.lists.proofs.Turns.{rest_entry}
use Rattle.lists.proofs.ListLaws.{mapped_long}
use Rattle.rules.specs.Whole.{view_core}
use Rattle.table.proofs.Levels.{one_pass_running, best_turn, best_skip}
use Rattle.table.proofs.dispatch.running.Goals as goal
use Rattle.table.proofs.dispatch.running.Goals.{then-t-n, else-t-n}

pub loop-t-init : goal.loop-t-init
loop-t-init c = (search (rules, mapped_long), search (rules, mapped_long), c.last_of-n.ensures, one_pass_running (view_core c.args.s))

pub loop-t-preserved : goal.loop-t-preserved
loop-t-preserved c =
    let l = c.loop-t in
    let s = c.args.s in
    let v = l.invariant in
    let rest = rest_entry s.ready l.t-index (omega arith) c.if-t-eq0.false in
    elim c.if-t-n.branch [
      | then-t-n w ↦ (v.0, v.1, v.2, rw w.b-is (v.3 ∙ best_turn s l.b _ _ _ _ rest _ _ c.if-t-eq0.false v.2 w.if-t-n.true refl w.better-b.ensures))
      | else-t-n w ↦ (v.0, v.1, v.2, rw w.b-is (v.3 ∙ best_skip s l.b _ _ _ _ rest v.0 v.2 w.if-t-n.false))
    ]
