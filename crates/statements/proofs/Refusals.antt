-- The step's refusal is the number of the first row of the table that applies.
-- Assumes nothing.
use Prim.Native.Nat.{ℕ, zero, suc, ◌^◌}
use mathlib.Core.Path.{◌≡◌, refl, sym, ◌∙◌, ap}
use mathlib.Core.Bool.{Bool, not}
use mathlib.Core.List.{List, [], ◌∷◌}
use native.Mathlib.Omega.{arith}
use lib.Dec.{eqb, ltb, leb}
use lib.ListN.{length}
use borrow.Author.Tests.{ne_eqb}
use Rattle.lists.specs.Lists.{when◌then◌else◌, count, last}
use Rattle.lists.proofs.ListLaws.{by_bool, not_in}
use Rattle.rules.specs.State.{State, created, task_of, place_of, is_task, has_entry, is_completed, accepts, held_by, running}
use Rattle.rules.specs.Sound.{in_range}
use Rattle.rules.specs.Step.{Outcome, refused, took, number, ticks, create, delay_for, timed_call, call_busy, call, select_at, select_none, select_delay, select, open_entry, end_last, end, finish, of_running, take_call}
use Rattle.rules.specs.Whole.{Typed, view, sound_whole, done, step_whole}
use Rattle.rules.specs.declared.Supervisor.{Supervisor}
use Rattle.calls.specs.declared.Call as C
use Rattle.calls.specs.declared.Call.TheVariants.{Create, Delay, Call, Select, End, Finish, Tick, Advance}
use Rattle.calls.specs.declared.CallMode.{CallMode}
use Rattle.calls.specs.declared.CallMode.TheVariants.{Simple, Timed, Conditional}
use Rattle.calls.specs.declared.SelectMode.{SelectMode}
use Rattle.calls.specs.declared.SelectMode.TheVariants.{Plain, Else}
use Rattle.calls.specs.declared.SelectMode.TheVariants as S
use Rattle.rules.proofs.Invariant.{Sound}
use Rattle.rules.proofs.Members.{of_held, held_there}
use Rattle.rules.proofs.WholeLaws.{sound_view}
use Rattle.statements.specs.Refusals.{rows_of, rows, first_row}

-- the refusal of an outcome, 0 if the call is taken
abbrev refusal_of : Outcome → ℕ
refusal_of (refused r) = number r
refusal_of (took s a l) = 0

-- the last of a list that has no 0 is 0 exactly where the list is empty
last_some : (l : List ℕ) → count 0 l ≡ 0 → eqb (last l) 0 ≡ eqb (length l) 0
last_some [] h = refl
last_some (x ∷ []) h = by_bool (eqb x 0) (λ e. absurd (omega (arith, rw e at h))) (λ e. e ∙ sym (ne_eqb 1 0 (λ z. omega arith)))
last_some (x ∷ y ∷ ys) h =
    last_some (y ∷ ys) (omega (arith, h)) ∙ ne_eqb (length (y ∷ ys)) 0 (λ z. omega arith) ∙ sym (ne_eqb (length (x ∷ y ∷ ys)) 0 (λ z. omega arith))

-- nobody whom a task holds has the number 0
held_named : (v : State) (t : ℕ) → count 0 (held_by v t) ≡ 0
held_named v t = not_in 0 (held_by v t) (λ k. let q = of_held v 0 t k in omega (arith, (held_there v 0 q.0 q.1).0))

-- a call of the running task t, where there is one
runner : (t : ℕ) (f : ℕ → Outcome) (x : ℕ) → ((t ≡ 0 → ⊥) → refusal_of (f t) ≡ x) → refusal_of (of_running t f) ≡ (when eqb t 0 then 4 else x)
runner zero f x h = refl
runner (suc t) f x h = let n : suc t ≡ 0 → ⊥ = λ z. omega arith in rw (ne_eqb (suc t) 0 n) (h n)

delays : (v : State) (t n : ℕ) → refusal_of (delay_for v t n) ≡ 0
delays v t zero = refl
delays v t (suc n) = refl

creates : (v : State) (p n : ℕ) → refusal_of (create v p n) ≡ (when not (in_range p n) then 3 else when leb 31 (created v) then 9 else 0)
creates v p n = by_bool (not (in_range p n)) (λ e. rw e) (λ e. by_bool (leb 31 (created v)) (λ f. rw (e, f)) (λ f. rw (e, f)))

module _ (v : State) (t g e : ℕ) where
  waits : (n : ℕ) → refusal_of (timed_call v t g e n) ≡ 0
  waits zero = refl
  waits (suc n) = refl

  busy : (m : CallMode) → refusal_of (call_busy v t g e m) ≡ 0
  busy Simple = refl
  busy (Timed d) = waits (ticks d)
  busy Conditional = refl

  called : (m : CallMode) → refusal_of (call v t g e m) ≡ (when not (is_task v g) then 5 else when not (has_entry (task_of v g) e) then 6 else 0)
  called m =
      by_bool (not (is_task v g)) (λ a. rw a) λ a.
      by_bool (not (has_entry (task_of v g) e)) (λ b. rw (a, b)) λ b.
      by_bool (is_completed (place_of v g)) (λ c. rw (a, b, c)) λ c.
      by_bool (accepts (place_of v g) e) (λ d. rw (a, b, c, d)) λ d. rw (a, b, c, d) (busy m)

module _ (v : State) (t o : ℕ) where
  elapses : (n : ℕ) → refusal_of (select_delay v t o n) ≡ 0
  elapses zero = refl
  elapses (suc n) = refl

  accepts_none : (m : SelectMode) → refusal_of (select_none v t o m) ≡ 0
  accepts_none Plain = by_bool (eqb o 0) (λ e. rw e) (λ e. rw e)
  accepts_none (S.Delay d) = elapses (ticks d)
  accepts_none Else = refl

  selects_at : (m : SelectMode) (e : ℕ) → refusal_of (select_at v t o m e) ≡ 0
  selects_at m zero = accepts_none m
  selects_at m (suc e) = refl

  selects : (m : SelectMode) → refusal_of (select v t o m) ≡ (when leb (2 ^ (task_of v t).entries) o then 6 else 0)
  selects m = by_bool (leb (2 ^ (task_of v t).entries) o) (λ e. rw e) (λ e. rw e (selects_at m (open_entry v t o)))

ends_at : (v : State) (t k : ℕ) → refusal_of (end_last v t k) ≡ (when eqb k 0 then 7 else 0)
ends_at v t zero = refl
ends_at v t (suc k) = rw (ne_eqb (suc k) 0 (λ z. omega arith))

ends : (v : State) (t : ℕ) → refusal_of (end v t) ≡ (when eqb (length (held_by v t)) 0 then 7 else 0)
ends v t = ends_at v t (last (held_by v t)) ∙ ap (λ (b : Bool). when b then 7 else 0) (last_some (held_by v t) (held_named v t))

finishes : (v : State) (t : ℕ) → refusal_of (finish v t) ≡ (when ltb 0 (length (held_by v t)) then 8 else 0)
finishes v t = by_bool (ltb 0 (length (held_by v t))) (λ e. rw e) (λ e. rw e)

taken : (v : State) (c : C.Call) → Sound v → refusal_of (take_call v c) ≡ first_row (rows_of v c)
taken v (Create p n) h = creates v p n
taken v (Delay d) h = runner (running v) (λ t. delay_for v t (ticks d)) 0 (λ _. delays v (running v) (ticks d))
taken v (Call g e m) h = runner (running v) (λ t. call v t g e m) _ (λ _. called v (running v) g e m)
taken v (Select o m) h = runner (running v) (λ t. select v t o m) _ (λ _. selects v (running v) o m)
taken v End h = runner (running v) (λ t. end v t) _ (λ _. ends v (running v))
taken v Finish h = runner (running v) (λ t. finish v t) _ (λ _. finishes v (running v))
taken v Tick h = refl
taken v (Advance n) h = refl

done_refusal : (s : Supervisor) (o : Outcome) → (done s o).refusal ≡ refusal_of o
done_refusal s (refused r) = refl
done_refusal s (took st a l) = refl

pub by_table : (s : Supervisor) (c : C.Call) (n : ℕ) → Typed s → (step_whole s c n).refusal ≡ first_row (rows s c n)
unfolding step_whole
by_table s c n k =
    by_bool (ltb n 124) (λ e. rw e) λ e.
    by_bool (sound_whole s) (λ f. rw (e, f) (done_refusal s (take_call (view s) c) ∙ taken (view s) c (sound_view s k f))) (λ f. rw (e, f))
