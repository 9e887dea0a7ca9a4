use Rattle.std.proofs.Common.{◌≡◌, get_or, sym, refl, ap, ◌∙◌, arith, rules}
use Rattle.lists.proofs.Turns.{rest_blank, rest_entry, rest_end}
use Rattle.lists.proofs.ListLaws.{mapped_long}
use Rattle.rules.specs.Whole.{view_core}
use Rattle.rules.specs.declared.Task.{Task}
use Rattle.table.proofs.LeafLaws.{shown_at}
use Rattle.steps.specs.Lowest.{open_call, call_of}
use Rattle.steps.proofs.LowestLaws.{lower_turn}
use Rattle.steps.proofs.callers.lowest.Goals as goal

pub loop-c-init : goal.loop-c-init
loop-c-init c = (omega arith, search (rules, mapped_long), search (rules, mapped_long), refl)

pub returns-then-c-eq0 : goal.returns-then-c-eq0
returns-then-c-eq0 c =
    let l = c.loop-c in
    sym (rw (rest_blank c.args.mine l.c-index (omega arith) c.if-c-eq0.true) at l.invariant.3)

pub loop-c-preserved : goal.loop-c-preserved
loop-c-preserved c =
    let l = c.loop-c in
    let a = c.args in
    let t = get_or a.mine l.c-index 0 in
    let rest = rest_entry a.mine l.c-index (omega arith) c.if-c-eq0.false in
    -- the open entry that the caller at place i has called
    let e : c.open_call.result ≡ call_of (view_core a.s) a.t a.o t =
    c.open_call.ensures ∙ ap (λ (x : Task). open_call a.t a.o x.place) (shown_at a.s t _ _ l.invariant.1 c.index_of-at.ensures.0 refl) in
    (omega arith, l.invariant.1, l.invariant.2, l.invariant.3 ∙ lower_turn (call_of (view_core a.s) a.t a.o) l.b c.lower-b.result _ c.open_call.result _ _ rest e c.lower-b.ensures)

pub returns : goal.returns
returns c =
    let l = c.loop-c in
    sym (rw (rest_end c.args.mine l.c-index (omega arith)) at l.invariant.3)
