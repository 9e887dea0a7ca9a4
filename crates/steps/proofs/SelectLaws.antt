-- SELECT.
-- Assumes nothing.
use Rattle.std.proofs.Common.{◌≡◌, ℕ, zero, suc, ◌^◌, ◌<◌, ◌≤◌, true, false, eqb, leb, [], length, sym, refl}
use Rattle.lists.specs.Lists.{first}
use Rattle.rules.specs.State.{State, task_of, running, queue, meet}
use Rattle.rules.specs.Step.{refused, took, item, ACCEPTED, ticks, open_entry, select_delay, select_none, select_at, select, take_call}
use Rattle.rules.specs.declared.Refusal.TheVariants.{NoTask, NoEntry}
use Rattle.calls.specs.declared.Call.TheVariants.{Select}
use Rattle.calls.specs.declared.SelectMode.{SelectMode}
use Rattle.calls.specs.declared.SelectMode.TheVariants.{Plain, Else}
use Rattle.rules.proofs.Members.{queued_there}
use Rattle.lists.proofs.ListLaws.{by_test}
use Rattle.rules.proofs.StepSound.{caller_taken}
use Rattle.calls.specs.declared.SelectMode.TheVariants as S
use Rattle.steps.proofs.AnswerLaws.{no_runner, of_runner, Quiet, quiet_runner}

pub select_alone : (v : State) (o : ℕ) (m : SelectMode) → running v ≡ 0 → take_call v (Select o m) ≡ refused NoTask
select_alone v o m = no_runner v (λ t. select v t o m)

pub select_runs : (v : State) (t : ℕ) → t ≡ running v → (o : ℕ) (m : SelectMode) → (t ≡ 0 → ⊥) → take_call v (Select o m) ≡ select v t o m
select_runs v t run o m = of_runner v t (λ t. select v t o m) run

module _ (v : State) (t o : ℕ) (m : SelectMode) where
  pub select_wide : leb (2 ^ (task_of v t).entries) o ≡ true → select v t o m ≡ refused NoEntry
  select_wide q = rw q

  pub select_idle : leb (2 ^ (task_of v t).entries) o ≡ false → open_entry v t o ≡ 0 → select v t o m ≡ select_none v t o m
  select_idle q z = rw (q, z)

  pub select_takes : (e k : ℕ) → leb (2 ^ (task_of v t).entries) o ≡ false → e ≡ open_entry v t o → (e ≡ 0 → ⊥) → k ≡ first (queue v t e) → select v t o m ≡ took (meet v t k e) (item t ACCEPTED e k) []
  select_takes e k q i z f = rw (q, ← i) (go e k z f)
    where
      go : (e k : ℕ) → (e ≡ 0 → ⊥) → k ≡ first (queue v t e) → select_at v t o m e ≡ took (meet v t k e) (item t ACCEPTED e k) []
      go zero k z f = absurd (z refl)
      go (suc e) k z f = rw f

pub first_fits : (v : State) (t o e k : ℕ) → e ≡ open_entry v t o → (e ≡ 0 → ⊥) → k ≡ first (queue v t e) → (0 < k) × (k ≤ length v.tasks)
first_fits v t o zero k i z f = absurd (z refl)
first_fits v t o (suc e) k i z f =
    let q = caller_taken v t o e (sym i) in
    rw f (queued_there v (first (queue v t (suc e))) q.0 q.1)

pub quiet_select : (v : State) (o : ℕ) (m : SelectMode) → Quiet (take_call v (Select o m))
quiet_select v o m = quiet_runner (running v) (λ t. select v t o m) (λ t. by_test Quiet (leb (2 ^ (task_of v t).entries) o) (λ _. refl) (λ _. at t m (open_entry v t o)))
  where
    late : (t n : ℕ) → Quiet (select_delay v t o n)
    late t zero = refl
    late t (suc n) = refl

    none : (t : ℕ) (m : SelectMode) → Quiet (select_none v t o m)
    none t Plain = by_test Quiet (eqb o 0) (λ _. refl) (λ _. refl)
    none t (S.Delay d) = late t (ticks d)
    none t Else = refl

    at : (t : ℕ) (m : SelectMode) (e : ℕ) → Quiet (select_at v t o m e)
    at t m zero = none t m
    at t m (suc e) = refl
