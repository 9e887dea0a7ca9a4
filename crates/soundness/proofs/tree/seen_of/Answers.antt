use Rattle.std.proofs.Common.{◌≡◌, ℕ, ◌+◌, Bool, List, [], length, get_or, drop, set, sym, refl, ap, ◌∙◌, arith, length-set, rules}
use Rattle.std.specs.Bool.{then_some}
use Rattle.lists.specs.Line.{line}
use Rattle.lists.specs.Marks.{no_marks, marked}
use Rattle.lists.proofs.Turns.{rest_blank, rest_entry, rest_end}
use Rattle.lists.proofs.ListLaws.{mapped_long}
use Rattle.lists.proofs.MarkLaws.{mark_on}
use Rattle.rules.specs.State.{partner_of}
use Rattle.rules.specs.Whole.{view_core}
use Rattle.rules.specs.declared.Core.{Core}
use Rattle.rules.specs.declared.Task.{Task}
use Rattle.table.proofs.LeafLaws.{shown_at}
use Rattle.table.specs.Tree.{holders_of}
use Rattle.soundness.specs.Marks.{Marks, is_none}
use Rattle.soundness.specs.TreeCheck.{passed, seen_of}
use Rattle.soundness.proofs.TreeTurns.{pass_on, pass_fail}
use Rattle.soundness.proofs.tree.seen_of.Invariants.{holder}
use Rattle.soundness.proofs.tree.seen_of.Goals as goal

pub loop-c-init : goal.loop-c-init
loop-c-init c = (search (rules, mapped_long), search (rules, mapped_long), refl, refl, refl, refl)

-- nothing is left of the line
found : (s : Core) (word : Marks) (apart : Marks) (tops holders l : List ℕ) (b : Bool) → l ≡ []
    → passed (view_core s) no_marks word (line s.held) ≡ passed (view_core s) tops apart l → holders_of s ≡ marked (holder s) l holders → b ≡ is_none apart
    → then_some b holders ≡ seen_of s word
found s word apart tops holders l b e p q eb =
    let g = eb ∙ sym (p ∙ ap (passed (view_core s) tops apart) e) in
    let h = sym (q ∙ ap (λ (x : List ℕ). marked (holder s) x holders) e) in
    λ i. then_some (g i) (h i)

pub returns-then-c-eq0 : goal.returns-then-c-eq0
returns-then-c-eq0 c =
    let a = c.args in
    let l = c.loop-c in
    c.then_some.ensures ∙ found a.s a.word l.apart l.tops l.holders _ c.is_none.result
    (rest_blank a.s.held l.c-index (omega (arith, l.invariant.1)) c.if-c-eq0.true) l.invariant.2 l.invariant.3 c.is_none.ensures

pub returns-then-kept_of-top : goal.returns-then-kept_of-top
returns-then-kept_of-top c =
    let s = c.args.s in
    let l = c.loop-c in
    let first = get_or s.held l.c-index 0 in
    let caller = shown_at s first _ _ l.invariant.0 c.index_of-at.ensures.0 c.shown-x.ensures in
    let acceptor = shown_at s c.partner_of-g.result _ _ l.invariant.0 c.index_of-to.ensures.0 c.shown-y.ensures in
    ap (λ b. then_some b (holders_of s))
    (sym (l.invariant.2 ∙ pass_fail (view_core s) l.tops l.apart _ first _ c.shown-x.result c.shown-y.result c.partner_of-g.result c.top_of-top.result c.kept_of.result
    (rest_entry s.held l.c-index (omega (arith, l.invariant.1)) c.if-c-eq0.false) caller c.partner_of-g.ensures acceptor c.top_of-top.ensures c.kept_of.ensures c.if-kept_of-top.true))

pub loop-c-preserved : goal.loop-c-preserved
loop-c-preserved c =
    let s = c.args.s in
    let l = c.loop-c in
    let v = l.invariant in
    let first = get_or s.held l.c-index 0 in
    let g = c.partner_of-g.result in
    let now = c.higher_of-now.result in
    -- the marks with that of the holder, and with the holder of the caller
    let tops : c.mark.new.marks ≡ set l.tops g now = c.mark.ensures in
    let holders : c.mark-in-loop-c.new.marks ≡ set l.holders first g = c.mark-in-loop-c.ensures in
    let rest = rest_entry s.held l.c-index (omega (arith, v.1)) c.if-c-eq0.false in
    let caller : c.shown-x.result ≡ _ = shown_at s first _ _ v.0 c.index_of-at.ensures.0 c.shown-x.ensures in
    let acceptor = shown_at s g _ _ v.0 c.index_of-to.ensures.0 c.shown-y.ensures in (
      v.0,
      v.1,
      v.2 ∙ pass_on (view_core s) l.tops l.apart _ first _ c.shown-x.result c.shown-y.result g c.top_of-top.result c.kept_of.result
          rest caller c.partner_of-g.ensures acceptor c.top_of-top.ensures c.kept_of.ensures c.if-kept_of-top.false now c.put-apart.result c.mark.new.marks c.higher_of-now.ensures c.put-apart.ensures tops,
      v.3 ∙ mark_on (holder s) _ _ _ l.holders g rest (c.partner_of-g.ensures ∙ ap (λ (z : Task). partner_of z.place) caller)
          ∙ ap (marked (holder s) (line (drop (l.c-index + 1) s.held))) (sym holders),
      ap (λ (x : List ℕ). length x) tops ∙ length-set {A = ℕ} l.tops g now ∙ v.4,
      ap (λ (x : List ℕ). length x) holders ∙ length-set {A = ℕ} l.holders first g ∙ v.5,
    )

pub returns : goal.returns
returns c =
    let a = c.args in
    let l = c.loop-c in
    c.then_some-2.ensures ∙ found a.s a.word l.apart l.tops l.holders _ c.is_none-2.result
    (rest_end a.s.held l.c-index (omega (arith, l.invariant.1))) l.invariant.2 l.invariant.3 c.is_none-2.ensures
