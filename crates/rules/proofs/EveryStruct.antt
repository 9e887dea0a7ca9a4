-- Every struct of the type: with a room it is refused at every call, or it is that of a sound state and the call is taken.
-- Assumes nothing.
use Prim.Native.Nat.{ℕ, ◌-◌}
use mathlib.Core.Path.{◌≡◌, sym, ◌∙◌, ap, subst}
use mathlib.Core.Bool.{false}
use native.Mathlib.Omega.{arith}
use lib.ListN.{replicate, length-append, length-replicate}
use lib.Dec.{ltb}
use Rattle.lists.proofs.LineLaws.{length_pad}
use Rattle.lists.proofs.ListLaws.{by_bool}
use Rattle.rules.specs.State.{State, blank, created}
use Rattle.rules.specs.Step.{take_call}
use Rattle.rules.specs.declared.Refusal.{Refusal}
use Rattle.rules.specs.declared.Refusal.TheVariants.{ShortRoom, BadState}
use Rattle.rules.specs.Whole.{TypedCore, Typed, view, pack_core, pack, sound_whole, Whole, decline, step_whole}
use Rattle.rules.specs.declared.Supervisor.{Supervisor}
use Rattle.calls.specs.declared.Call as C
use Rattle.rules.proofs.Invariant.{Sound}
use Rattle.rules.proofs.TreeLaws.{Tree}
use Rattle.rules.proofs.SoundTest.{sound_test}
use Rattle.rules.proofs.StateRuns.{stepped, step}
use Rattle.rules.proofs.OverRuns.{step_sound}
use Rattle.rules.proofs.WholeLaws.{whole_packed, sound_view, tree_view, whole_of, step_whole_lem}

-- the struct of a sound state is of the type
pub typed_core : (s : State) → Sound s → TypedCore (pack_core s)
typed_core s h = record {
  clock = h.clock;
  tasks = omega (arith, h.few, length-append s.tasks (replicate (31 - created s) blank), length-replicate (31 - created s) blank);
  ready = length_pad s.ready;
  held = length_pad s.held;
  delays = length_pad s.delays;
}

pub typed_pack : (s : State) → Sound s → Typed (pack s)
typed_pack s h = record { core = typed_core s h; callers = length_pad s.callers }

-- what holds where every call is refused, and where the struct is that of a sound state and the room is enough, holds of each struct
pub by_struct {κ} : (P : Supervisor → Type κ) (s : Supervisor) (room : ℕ) → Typed s
    → ((r : Refusal) → ((c : C.Call) → step_whole s c room ≡ decline s r 0) → P s)
    → ((v : State) → Sound v → Tree v → ltb room 124 ≡ false → P (pack v))
    → P s
unfolding step_whole
by_struct P s room t f g =
    by_bool (ltb room 124) (λ b. f ShortRoom (λ c. rw b)) λ b.
    by_bool (sound_whole s)
    (λ e. subst P (sym (whole_packed s t e)) (g (view s) (sound_view s t e) (tree_view s t e) b))
    (λ e. f BadState (λ c. rw (b, e)))

-- a call that is taken
pub step_taken : (v : State) (c : C.Call) (room : ℕ) → Sound v → Tree v → ltb room 124 ≡ false → step_whole (pack v) c room ≡ whole_of (stepped v (take_call v c))
step_taken v c room h g e =
    let k : step v c room ≡ stepped v (take_call v c) = rw (e, sound_test v h g) in
    step_whole_lem v c room h ∙ ap whole_of k

-- a step gives a struct of the type again
pub step_typed : (s : Supervisor) → Typed s → (c : C.Call) (room : ℕ) → Typed (step_whole s c room).state
step_typed s t c room =
    by_struct (λ (x : Supervisor). Typed (step_whole x c room).state) s room t
    (λ r q. subst (λ (w : Whole). Typed w.state) (sym (q c)) t)
    (λ v h g e. subst (λ (w : Whole). Typed w.state) (sym (step_whole_lem v c room h)) (typed_pack (step v c room).state (step_sound v (record { call = c; room = room }) h)))
