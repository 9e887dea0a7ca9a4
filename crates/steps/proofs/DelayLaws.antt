-- DELAY.
-- Assumes nothing.
use Rattle.std.proofs.Common.{◌≡◌, ℕ, zero, suc, [], ℤ, refl, ◌∙◌}
use Rattle.rules.specs.State.{State, move, running, after}
use Rattle.rules.specs.Step.{took, item, WAITS, ELAPSED, ticks, delay_for, take_call}
use Rattle.rules.specs.declared.Place.TheVariants.{Ready, Delayed}
use Rattle.rules.specs.declared.Timer.TheVariants.{Off, Due}
use Rattle.calls.specs.declared.Call.TheVariants.{Delay}
use Rattle.steps.proofs.AnswerLaws.{of_runner}

module _ (v : State) (t : ℕ) (run : t ≡ running v) (some : t ≡ 0 → ⊥) where
  pub delay_now : (d : ℤ) (n : ℕ) → n ≡ ticks d → n ≡ 0 → take_call v (Delay d) ≡ took (move v t Ready Off) (item t ELAPSED 0 0) []
  delay_now d n e z = of_runner v t (λ t. delay_for v t (ticks d)) run some ∙ rw (← e, z)

  pub delay_later : (d : ℤ) (n due : ℕ) → n ≡ ticks d → (n ≡ 0 → ⊥) → due ≡ after v.clock n → take_call v (Delay d) ≡ took (move v t Delayed (Due due)) (item t WAITS 0 0) []
  delay_later d n due e z q = of_runner v t (λ t. delay_for v t (ticks d)) run some ∙ rw (← e, q) (go n z)
    where
      go : (n : ℕ) → (n ≡ 0 → ⊥) → delay_for v t n ≡ took (move v t Delayed (Due (after v.clock n))) (item t WAITS 0 0) []
      go zero z = absurd (z refl)
      go (suc n) z = refl
