use Rattle.std.proofs.Common.{◌≡◌, ℕ, ◌-◌, ◌*◌, ◌<◌, ◌≤◌, false, drop, sym, ap, ◌∙◌, arith, rules}
use Rattle.workspace.specs.Check.{tiled}
use Rattle.workspace.proofs.CheckLaws.{Rest, stop_law, again_law, bounds-law}
use Rattle.workspace.proofs.rules.tiles.Goals as goal

pub loop-init : goal.loop-init
loop-init c =
    let e = c.default-t.ensures in
    record {
      at = omega arith;
      i = omega arith;
      j = omega arith;
      rest = λ s. tiled 64 (sym e.1.1.1 s) (sym e.0 s) (drop (sym e.1.0 s) c.args.blocks.now) (drop (sym e.1.1.0 s) c.args.free.now);
    }

pub reached-requires : goal.reached-requires
reached-requires c = record { at_bound = omega arith; i_bound = omega arith; j_bound = omega arith }

pub returns-in_default : goal.returns-in_default
returns-in_default c =
    let l = c.loop in
    let b = c.args.blocks.now in
    let f = c.args.free.now in
    stop_law l.t b f l.counter c.nth.result c.nth-in-loop.result c.reached.result (tiled 64 false 0 b f) c.loop-test.true c.nth.ensures c.nth-in-loop.ensures c.reached.ensures l.invariant.rest c.in_default.is l.invariant.i l.invariant.j

pub loop-preserved : goal.loop-preserved
loop-preserved c =
    let l = c.loop in
    let b = c.args.blocks.now in
    let f = c.args.free.now in
    let u = c.in-Some.further in
    let hx : c.nth.result.length < 4294967296 = search rules in
    let hy : c.nth-in-loop.result.length < 4294967296 = search rules in
    let again = again_law l.t b f l.counter c.nth.result c.nth-in-loop.result c.reached.result (tiled 64 false 0 b f) c.loop-test.true c.nth.ensures c.nth-in-loop.ensures c.reached.ensures l.invariant.rest u c.in-Some.is in
    let d = bounds-law l.t b f l.counter c.nth.result c.nth-in-loop.result c.reached.result (tiled 64 false 0 b f) c.loop-test.true c.nth.ensures c.nth-in-loop.ensures c.reached.ensures l.invariant.rest u c.in-Some.is hx hy l.invariant.i l.invariant.j in
    let at₀ : l.t.at ≤ l.counter * 4294967296 = l.invariant.at in
    record { at = omega (arith, d.at, at₀); i = d.i; j = d.j; rest = again }

pub returns : goal.returns
returns c =
    let l = c.loop in
    let h : 64 ≤ l.counter = c.loop-test.false in
    let z : 64 - l.counter ≡ 0 = omega (arith, h) in
    sym (l.invariant.rest ∙ ap (λ (n : ℕ). Rest n l.t c.args.blocks.now c.args.free.now) z)
