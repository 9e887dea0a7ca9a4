use Rattle.std.proofs.Common.{◌≡◌, ℕ, ◌+◌, ◌≤◌, not, eqb, length, get_or, drop, sym, ap, ◌∙◌, arith, rules}
use mir.Val.{bool_byte}
use Rattle.lists.specs.Line.{line}
use Rattle.rules.specs.Advance.{changes}
use Rattle.lists.proofs.Turns.{rest_blank, rest_entry, rest_end}
use Rattle.lists.proofs.ListLaws.{mapped_long}
use Rattle.table.specs.Moved.{left_of}
use Rattle.table.proofs.LeafLaws.{left_at}
use Rattle.steps.proofs.AdvanceLaws.{one_more, moments_on, moments_end}
use Rattle.steps.proofs.advance.moments_of.Goals as goal

pub loop-t-init : goal.loop-t-init
loop-t-init c = (omega arith, omega arith, search (rules, mapped_long), omega arith)

pub returns-then-t-eq0 : goal.returns-then-t-eq0
returns-then-t-eq0 c =
    let l = c.loop-t in
    moments_end _ _ _ _ _ l.invariant.3 (rest_blank c.args.l l.t-index (search rules) c.if-t-eq0.true)

-- the ticks that the task at place i has left
left_here : (c : goal.After-from-n) → let a = c.args in c.left_of-left.result ≡ left_of a.s (get_or a.l c.loop-t.t-index 0)
left_here c =
    let a = c.args in
    let l = c.loop-t in
    left_at a.s (get_or a.l l.t-index 0) c.index_of-at.result c.left_of-left.result l.invariant.2 c.index_of-at.ensures.0 c.left_of-left.ensures

more : (c : goal.After-from-n)
    → let l = c.loop-t in l.n + bool_byte (not (eqb c.left_of-left.result l.before)) ≤ l.t-index + 1
more c =
    let l = c.loop-t in
    one_more (not (eqb c.left_of-left.result l.before)) l.n l.t-index l.invariant.1

pub overflow_add-n : goal.overflow_add-n
overflow_add-n c = let m = more c in record { fits = omega arith }

pub loop-t-preserved : goal.loop-t-preserved
loop-t-preserved c =
    let a = c.args in
    let l = c.loop-t in
    let m = more c in
    let b = c.from-n.ensures in (
      omega arith,
      omega (arith, m, b),
      l.invariant.2,
      moments_on (left_of a.s) _ l.n l.before _ l.invariant.3 (get_or a.l l.t-index 0) c.left_of-left.result _ (rest_entry a.l l.t-index (search rules) c.if-t-eq0.false) (left_here c)
          ∙ ap (λ (k : ℕ). l.n + k + changes (left_of a.s) c.left_of-left.result (line (drop (l.t-index + 1) a.l))) (sym b),
    )

pub returns : goal.returns
returns c =
    let l = c.loop-t in
    let k : length c.args.l ≡ 31 = search rules in
    moments_end _ _ _ _ _ l.invariant.3 (rest_end c.args.l l.t-index (omega arith))
