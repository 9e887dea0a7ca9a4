-- CALL.
-- Assumes nothing.
use Rattle.std.proofs.Common.{◌≡◌, ℕ, zero, suc, ◌<◌, ◌≤◌, Bool, true, false, ◌&&◌, ltb, leb, [], ◌∷◌, length, refl, ◌∙◌, arith}
use Rattle.lists.proofs.Tests.{between}
use Rattle.rules.specs.State.{State, created, task_of, wake, running, after, is_task, has_entry, place_of, is_completed, accepts, meet}
use Rattle.rules.specs.Step.{refused, took, item, WAITS, TASKING_ERROR, ACCEPTED, ticks, enqueue, timed_call, call_busy, call, take_call}
use Rattle.rules.specs.declared.Refusal.TheVariants.{NoTask, NoTarget, NoEntry}
use Rattle.lists.specs.Lists.{remove}
use Rattle.rules.specs.Callers.{with_callers}
use Rattle.rules.specs.Whole.{view_core, pack_core}
use Rattle.rules.specs.declared.Core.{Core}
use Rattle.rules.specs.declared.Place.TheVariants.{Ready}
use Rattle.rules.specs.declared.Timer.TheVariants.{Off, Due}
use Rattle.calls.specs.declared.Call.TheVariants.{Call}
use Rattle.calls.specs.declared.CallMode.{CallMode}
use Rattle.calls.specs.declared.CallMode.TheVariants.{Simple, Timed, Conditional}
use Rattle.rules.specs.declared.Timer.{Timer}
use Rattle.rules.proofs.MoveLaws.{wake_sound, length_move}
use Rattle.table.specs.Moved.{moved_of, met_of}
use Rattle.steps.specs.Taken.{Stands, ended_by}
use Rattle.steps.proofs.MoveLaws.{moved_packed, met_state, created_is}
use Rattle.steps.proofs.AnswerLaws.{no_runner, of_runner}

pub enter_none : (v : State) (g e : ℕ) (m : CallMode) → running v ≡ 0 → take_call v (Call g e m) ≡ refused NoTask
enter_none v g e m = no_runner v (λ t. call v t g e m)

pub enter_one : (v : State) (t g e : ℕ) (m : CallMode) → t ≡ running v → (t ≡ 0 → ⊥) → take_call v (Call g e m) ≡ call v t g e m
enter_one v t g e m = of_runner v t (λ t. call v t g e m)

module _ (s : Core) (b : Bool) (g : ℕ) (h : Stands s) (is : b ≡ (ltb 0 g && leb g s.created)) where
  pub no_task : b ≡ false → is_task (view_core s) g ≡ false
  no_task z = rw (← created_is s h, ← is) z

  pub a_task : b ≡ true → is_task (view_core s) g ≡ true
  a_task z = rw (← created_is s h, ← is) z

module _ (v : State) (t g e : ℕ) (m : CallMode) where
  pub call_target : is_task v g ≡ false → call v t g e m ≡ refused NoTarget
  call_target q1 = rw q1

  pub call_entry : is_task v g ≡ true → has_entry (task_of v g) e ≡ false → call v t g e m ≡ refused NoEntry
  call_entry q1 q2 = rw (q1, q2)

  pub call_dead : is_task v g ≡ true → has_entry (task_of v g) e ≡ true → is_completed (place_of v g) ≡ true → call v t g e m ≡ took v (item t TASKING_ERROR e g) []
  call_dead q1 q2 q3 = rw (q1, q2, q3)

  pub call_meets : is_task v g ≡ true → has_entry (task_of v g) e ≡ true → is_completed (place_of v g) ≡ false → accepts (place_of v g) e ≡ true
      → call v t g e m ≡ took (meet (wake v g) g t e) (item t WAITS 0 0) (item g ACCEPTED e t ∷ [])
  call_meets q1 q2 q3 q4 = rw (q1, q2, q3, q4)

  pub call_goes : is_task v g ≡ true → has_entry (task_of v g) e ≡ true → is_completed (place_of v g) ≡ false → accepts (place_of v g) e ≡ false → call v t g e m ≡ call_busy v t g e m
  call_goes q1 q2 q3 q4 = rw (q1, q2, q3, q4)

pub quiet_enqueue : (v : State) (t g e : ℕ) (w : Timer) → ended_by (enqueue v t g e w) ≡ []
quiet_enqueue v t g e w = refl

pub quiet_busy : (v : State) (t g e : ℕ) (m : CallMode) → ended_by (call_busy v t g e m) ≡ []
quiet_busy v t g e Simple = quiet_enqueue v t g e Off
quiet_busy v t g e (Timed d) = go (ticks d)
  where
    go : (n : ℕ) → ended_by (timed_call v t g e n) ≡ []
    go zero = refl
    go (suc n) = quiet_enqueue v t g e (Due (after v.clock (suc n)))
quiet_busy v t g e Conditional = refl

-- two moves, one after the other
pub woken_met : (s n k : Core) (g t e : ℕ) → Stands s → is_task (view_core s) g ≡ true → 0 < t → t ≤ length (view_core s).tasks → n ≡ moved_of s g Ready Off → k ≡ met_of n g t e
    → k ≡ pack_core (meet (wake (view_core s) g) g t e)
woken_met s n k g t e h q a b en ek =
    let v = view_core s in
    let i = between g (created v) q in
    ek ∙ met_state n (wake v g) (remove g h.callers) g t e (en ∙ moved_packed s g Ready Off h i.1) (wake_sound (with_callers v h.callers) g i.0 i.1 h.sound)
    i.0 (omega (arith, i.1, length_move v g Ready Off)) a (omega (arith, b, length_move v g Ready Off))
