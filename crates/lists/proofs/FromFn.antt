-- An array that `from_fn` makes of calls of a closure that stays as it is.
-- Assumes nothing.
use Rattle.std.proofs.Common.{◌≡◌, ℕ, zero, suc, ◌+◌, ◌<◌, ◌≤◌, List, get_or, sym, subst, ap, ◌∙◌, arith}
use Rattle.std.specs.Array.{IsFromFnResultFrom}
use denote.Param.Members.{Mut, Called}
use Rattle.lists.proofs.ListLaws.{by_eq}

-- each element is what the closure gives of its index
module _ {F B : Type 0} (g : Mut F (ℕ × Unit {0}) B) (f : F) (h : ℕ → B) (ys : List B) (gives : (i : ℕ) (y : B) (q : F) → Called g f (i, tt) y q → (q ≡ f) × (y ≡ h i)) where
  pub from_fn_each : (n i : ℕ) → IsFromFnResultFrom g f ys i n → (k : ℕ) (d : B) → i ≤ k → k < i + n → get_or ys k d ≡ h k
  from_fn_each zero i r k d a b = absurd (omega arith)
  from_fn_each (suc n) i (q, y, at, called, rest) k d a b =
      let e = gives i y q called in
      by_eq k i
      (λ s. ap (λ (j : ℕ). get_or ys j d) s ∙ at.1 d ∙ e.1 ∙ ap h (sym s))
      (λ s. from_fn_each n (i + 1) (subst (λ (p : F). IsFromFnResultFrom g p ys (i + 1) n) e.0 rest) k d (omega arith) (omega arith))
