use Rattle.std.proofs.Common.{◌≡◌, ℕ, get_or, sym, refl, ap, ◌∙◌, arith, rules}
use Rattle.lists.proofs.Turns.{rest_blank, rest_entry, rest_end}
use Rattle.lists.proofs.MarkLaws.{mark_on}
use Rattle.lists.proofs.ListLaws.{mapped_long}
use Rattle.rules.specs.Whole.{view_core}
use Rattle.rules.specs.declared.Task.{Task}
use Rattle.table.proofs.LeafLaws.{shown_at}
use Rattle.steps.specs.Lowest.{open_call, call_of}
use Rattle.steps.proofs.callers.entries_called.Goals as goal

pub loop-c-init : goal.loop-c-init
loop-c-init c = (omega arith, search (rules, mapped_long), refl)

pub returns-then-c-eq0 : goal.returns-then-c-eq0
returns-then-c-eq0 c =
    let l = c.loop-c in
    sym (rw (rest_blank c.args.mine l.c-index (omega arith) c.if-c-eq0.true) at l.invariant.2)

pub loop-c-preserved : goal.loop-c-preserved
loop-c-preserved c =
    let l = c.loop-c in
    let a = c.args in
    let f : ℕ → ℕ = call_of (view_core a.s) a.t 255 in
    let e = c.open_call-e.result in
    let rest = rest_entry a.mine l.c-index (omega arith) c.if-c-eq0.false in
    -- the mark of the caller at place i
    let mark : e ≡ f (get_or a.mine l.c-index 0) =
    c.open_call-e.ensures ∙ ap (λ (x : Task). open_call a.t 255 x.place) (shown_at a.s (get_or a.mine l.c-index 0) _ _ l.invariant.1 c.index_of-at.ensures.0 refl) in
    let m = c.mark.ensures in
    (omega arith, l.invariant.1, rw m (l.invariant.2 ∙ mark_on f _ _ _ l.marks e rest mark))

pub returns : goal.returns
returns c =
    let l = c.loop-c in
    sym (rw (rest_end c.args.mine l.c-index (omega arith)) at l.invariant.2)
