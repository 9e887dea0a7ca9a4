use mathlib.Core.Path.{ap, ◌∙◌}
use mathlib.Core.List.{List}
use Prim.Native.Nat.{ℕ}
use Rattle.codec.specs.Layout.{callers_at, held_at, delays_at, placed_at}
use Rattle.codec.proofs.put_lines.Goals as goal

pub returns : goal.returns
returns c =
    let p₄ = c.before.before in
    let p₃ = p₄.before.before.before.before.before in
    let p₂ = p₃.before.before.before.before.before in
    let p₁ = p₂.before.before.before.before.before in
    let a = p₁.args in
    let e₂ = p₂.put_at-2.ensures ∙ ap (λ (r : List ℕ). placed_at r callers_at a.callers) p₁.put_at.ensures in
    let e₃ = p₃.put_at-3.ensures ∙ ap (λ (r : List ℕ). placed_at r held_at a.held) e₂ in
    p₄.put_at-4.ensures ∙ ap (λ (r : List ℕ). placed_at r delays_at a.delays) e₃
