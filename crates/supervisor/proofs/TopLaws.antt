-- The whole step, and the questions.
-- Assumes nothing.
use Prim.Native.Nat.{ℕ}
use mathlib.Core.Path.{◌≡◌, refl, subst}
use mathlib.Core.Bool.{Bool, true, false, not, ◌&&◌}
use mathlib.Core.List.{List, ◌++◌}
use native.Mathlib.Omega.{arith}
use lib.Dec.{ltb}
use lib.ListN.{length}
use lib.Seq.{length-take-le}
use Rattle.lists.specs.Line.{line}
use Rattle.lists.specs.Marks.{no_marks, marked}
use Rattle.rules.specs.State.{State, created, is_task, place_of, is_completed}
use Rattle.steps.specs.Engine.{callable_in}
use Rattle.rules.specs.Step.{took, take_call, room_after}
use Rattle.rules.specs.declared.Refusal.TheVariants.{ShortRoom, BadState}
use Rattle.rules.specs.Callers.{accepted_in, Told}
use Rattle.rules.specs.Whole.{Typed, view, pack, pack_core, sound_whole, decline, done, step_whole}
use Rattle.rules.specs.declared.Item.{Item}
use Rattle.rules.specs.declared.Supervisor.{Supervisor}
use Rattle.rules.proofs.Apart.{tells}
use Rattle.rules.proofs.WholeLaws.{parts, core_parts, core_packed, sound_view}
use Rattle.steps.specs.Taken.{Stands, SeesFor, taken_as}
use Rattle.steps.specs.Change.{one, task_at, bytes_in, comes_of, line_by}
use Rattle.steps.proofs.ChangeLaws.{line_is}
use Rattle.steps.specs.declared.answers.Taken.{Taken}
use Rattle.calls.specs.declared.Call as C

-- the core of a sound struct stands, and its line of callers is that of the state
pub stands_of : (s : Supervisor) → Typed s → sound_whole s ≡ true → Stands s.core
stands_of s t h = record { packs = core_packed s.core t.core (parts s h).core; callers = line s.callers; sound = sound_view s t h }

pub sees_of : (s : Supervisor) (c : C.Call) → Typed s → sound_whole s ≡ true → SeesFor s.core s.callers c
unfolding stands_of
sees_of s c t h = record { stands = stands_of s t h; calls = λ e. refl }

module _ (s : Supervisor) (c : C.Call) (n : ℕ) where
  pub step_short : ltb n 124 ≡ true → step_whole s c n ≡ decline s ShortRoom 0
  unfolding step_whole
  step_short h = rw h

  pub step_unsound : ltb n 124 ≡ false → sound_whole s ≡ false → step_whole s c n ≡ decline s BadState 0
  unfolding step_whole
  step_unsound h q = rw (h, q)

  pub step_sound : ltb n 124 ≡ false → sound_whole s ≡ true → step_whole s c n ≡ done s (take_call (view s) c)
  unfolding step_whole
  step_sound h q = rw (h, q)

-- where the call was taken, the core and the callers afterwards are those of the next state
pub state_is : (s : Supervisor) (c : C.Call) (st : State) (a : Item) (x : List Item) (k : Taken) (room after m l : List ℕ) (b : Bool) → Typed s → sound_whole s ≡ true → take_call (view s) c ≡ took st a x
    → k ≡ taken_as (pack_core st) a (length x) → after ≡ room_after room x → m ≡ marked one (accepted_in k.result k.partner ++ bytes_in task_at k.ended after) no_marks
    → b ≡ comes_of c k.refusal k.result k.ended → l ≡ line_by m b k.task s.callers → ◌≡◌ {A = Supervisor} (record { core = k.state; callers = l }) (pack st)
state_is s c st a x k room after m l b t h o ek ea em eb el =
    let v = sound_view s t h in
    let line = line_is (view s) st a x c k s.callers room after m l b v refl (subst (Told c (view s).callers) o (tells (view s) c v)) ek ea em eb el in
    λ i. record { core = (ek i).state; callers = line i }

-- ---- questions

created_sound : (s : Supervisor) → sound_whole s ≡ true → length s.core.tasks ≡ 31 → created (view s) ≡ s.core.created
created_sound s h k = length-take-le s.core.created s.core.tasks (omega (arith, (core_parts s.core (parts s h).core).few, k))

pub callable_is : (s : Supervisor) (t : ℕ) → sound_whole s ≡ true → length s.core.tasks ≡ 31 → callable_in s.core t ≡ (is_task (view s) t && not (is_completed (place_of (view s) t)))
callable_is s t h k = rw (created_sound s h k)
