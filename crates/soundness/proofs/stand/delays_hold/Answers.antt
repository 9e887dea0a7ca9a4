use Rattle.std.proofs.Common.{◌≡◌, ◌+◌, Bool, ◌&&◌, ◌||◌, not, true, false, get_or, drop, refl, sym, ◌∙◌, arith}
use Rattle.std.proofs.lemmas.Bool.{ltb-false}
use lib.Dec.{ltb}
use Rattle.lists.proofs.Tests.{differ}
use Rattle.lists.proofs.Turns.{rest_entry}
use Rattle.table.proofs.LeafLaws.{left_at}
use Rattle.table.specs.Moved.{left_of}
use Rattle.soundness.specs.Check.{walked}
use Rattle.soundness.proofs.Turns.{walk_on, order_on}
use Rattle.soundness.proofs.stand.delays_hold.Goals as goal

-- neither of two reasons to fail
passes : (h f : Bool) → (not h || f) ≡ false → (h ≡ true) × (f ≡ false)
passes true f e = (refl, e)
passes false f e = differ e

pub loop-i-preserved : goal.loop-i-preserved
loop-i-preserved c =
    let s = c.args.s in
    let i = c.loop-i.i in
    let t = get_or s.delays i 0 in
    let v = c.loop-i.invariant in
    let good = passes c.has.result (ltb c.left_of-left.result c.loop-i.last) c.if-has-left.false in
    -- the ticks left that the code found, in the rules' words
    let found : c.left_of-left.result ≡ left_of s t =
    left_at s t c.index_of-at.result c.left_of-left.result v.0 c.index_of-at.ensures.0 c.left_of-left.ensures in (
      v.0,
      v.1
          ∙ (λ z. (walk_on c.loop-i.rest s.delays i (omega arith) c.if-t-eq0.false
          ∙ (λ y. (sym c.has.ensures ∙ good.0) y && walked (sym c.without-rest.ensures y) (drop (i + 1) s.delays))) z
          && order_on (left_of s) c.loop-i.last _ t _ c.left_of-left.result (rest_entry s.delays i (omega arith) c.if-t-eq0.false) found (ltb-false c.left_of-left.result c.loop-i.last good.1) z),
    )
