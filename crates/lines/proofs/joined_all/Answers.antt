use Rattle.std.proofs.Common.{◌≡◌, ◌+◌, ◌-◌, ◌<◌, ◌≤◌, ◌++◌, length, get_or, take, sym, ap, ◌∙◌, arith, rules, get_or-take}
use Rattle.lists.specs.Line.{line, pad}
use Rattle.lists.proofs.LineLaws.{length_line}
use Rattle.lists.proofs.Turns.{rest_entry, fill, fill_front, filled_up, laid, laid_out}
use Rattle.lines.proofs.joined_all.Goals as goal

pub slice_bounds-b-count : goal.slice_bounds-b-count
slice_bounds-b-count c = omega (arith, length_line c.args.a)

pub loop-i-init : goal.loop-i-init
loop-i-init c =
    let a = c.args.a in
    let l : length a ≡ 31 = search rules in
    let k : length (line a) ≤ 31 = omega (arith, length_line a) in
    let n : c.len-n.result + 0 ≡ length (line a) = omega arith in
    (omega arith, laid_out _ _ (line a) k c.tidied-r.ensures n, rw (laid _ _ (line a) k c.tidied-r.ensures n))

pub loop-i-preserved : goal.loop-i-preserved
loop-i-preserved c =
    let s = c.loop-i in
    let b = c.args.b in
    let n = c.len-n.result in
    let few : s.i < 31 - n = search rules in
    let l : length b ≡ 31 = search rules in
    let x : get_or (take (31 - n) b) s.i 0 ≡ get_or b s.i 0 = get_or-take (31 - n) b s.i 0 few in
    let on : n + (s.i + 1) ≡ n + s.i + 1 = omega arith in
    let entry : get_or b s.i 0 ≡ 0 → ⊥ = λ e. c.if-x-eq0.false (x ∙ e) in
    let room : n + s.i < 31 = omega arith in
    rw (on, x) (
      omega arith,
      fill s.r (n + s.i) _ room s.invariant.1,
      s.invariant.2
          ∙ ap (λ l. pad (take (n + s.i) s.r ++ l)) (rest_entry b s.i (omega arith) entry)
          ∙ ap pad (sym (fill_front s.r (n + s.i) _ _ room s.invariant.1)),
    )

pub returns : goal.returns
returns c =
    let s = c.loop-i in
    let l : length c.args.b ≡ 31 = search rules in
    sym (s.invariant.2 ∙ filled_up s.r _ _ (search rules) s.invariant.1)
