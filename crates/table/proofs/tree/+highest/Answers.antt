-- What is left of the callers makes of the best so far what all of them make of t's own priority; and all of them are those that t holds.
use Rattle.std.proofs.Common.{◌≡◌, ◌-◌, ℕ, eqb, length, sym, ap, ◌∙◌, rules}
use Rattle.lists.specs.Line.{line}
use Rattle.lists.specs.Marks.{mark_of}
use Rattle.lists.proofs.LineLaws.{line_picked}
use Rattle.lists.proofs.Turns.{rest_blank, rest_end}
use Rattle.rules.specs.Tree.{highest_from}
use Rattle.table.specs.Tree.{highest_in}
use Rattle.table.proofs.HighestLaws.{in_here, in_down_one}
use Rattle.table.proofs.tree.+highest.Goals as goal

pub returns-then-depth-eq0 : goal.returns-then-depth-eq0
returns-then-depth-eq0 t c =
    let a = c.args in
    c.mark_of-own.ensures ∙ sym (in_here (line a.held) a.holders a.priorities a.depth a.t c.if-depth-eq0.true)

pub returns-then-c-eq0 : goal.returns-then-c-eq0
returns-then-c-eq0 t c =
    let a = c.args in
    let l = c.loop-c in
    let f : ℕ → ℕ = highest_in (line a.held) a.holders a.priorities (a.depth - 1) in
    let long : length a.held ≡ 31 = search rules in
    let r = c.picked-callers in
    let e = ap line r.ensures ∙ line_picked (λ x. eqb (mark_of a.holders x) a.t) a.held long in
    sym (l.invariant ∙ ap (highest_from f l.best) (rest_blank r.result l.c-index (search rules) c.if-c-eq0.true))
    ∙ ((λ i. highest_from f (c.mark_of-own.ensures i) (e i)) ∙ sym (in_down_one (line a.held) a.holders a.priorities a.depth a.t c.if-depth-eq0.false))

pub returns : goal.returns
returns t c =
    let a = c.args in
    let l = c.loop-c in
    let f : ℕ → ℕ = highest_in (line a.held) a.holders a.priorities (a.depth - 1) in
    let long : length a.held ≡ 31 = search rules in
    let r = c.picked-callers in
    let e = ap line r.ensures ∙ line_picked (λ x. eqb (mark_of a.holders x) a.t) a.held long in
    sym (l.invariant ∙ ap (highest_from f l.best) (rest_end r.result l.c-index (search rules)))
    ∙ ((λ i. highest_from f (c.mark_of-own.ensures i) (e i)) ∙ sym (in_down_one (line a.held) a.holders a.priorities a.depth a.t c.if-depth-eq0.false))
