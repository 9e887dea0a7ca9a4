-- What holds of ADVANCE.
-- Assumes nothing.
use Prim.Native.Nat.{ℕ, zero, suc, ◌+◌}
use mathlib.Core.Path.{◌≡◌, refl, sym, ap, subst}
use mathlib.Core.List.{◌++◌, append_assoc}
use native.Mathlib.Omega.{arith}
use Rattle.rules.specs.State.{State, running, after}
use Rattle.rules.specs.Step.{tick_to, ends_at, advanced, advance_ends, readings}
use Rattle.rules.specs.Whole.{Typed, Whole, pack, step_whole}
use Rattle.rules.specs.Advance.{Cut, Nothing, Advances}
use Rattle.rules.specs.declared.Supervisor.{Supervisor}
use Rattle.calls.specs.declared.Call.TheVariants.{Advance}
use Rattle.rules.proofs.StepSound.{advance_kept}
use Rattle.rules.proofs.TreeSteps.{advance_tree}
use Rattle.rules.proofs.SoundTest.{sound_props}
use Rattle.rules.proofs.AdvanceFits.{fits}
use Rattle.rules.proofs.AsTicks.{as_ticks, expanded}
use Rattle.rules.proofs.EveryStruct.{by_struct, step_taken}
use Rattle.rules.proofs.AtOnce.{at_once}

-- ── cutting ──

cut_state : (a b : ℕ) (s : State) → advanced (a + b) s ≡ advanced b (advanced a s)
cut_state zero b s = let e : 0 + b ≡ b = omega arith in rw e
cut_state (suc a) b s = let e : suc a + b ≡ suc (a + b) = omega arith in rw e (cut_state a b (tick_to s (after s.clock 1)))

cut_ends : (a b : ℕ) (s : State) → advance_ends (a + b) s ≡ advance_ends a s ++ advance_ends b (advanced a s)
cut_ends zero b s = let e : 0 + b ≡ b = omega arith in rw e
cut_ends (suc a) b s =
    let e : suc a + b ≡ suc (a + b) = omega arith in
    let s1 = tick_to s (after s.clock 1) in
    rw (e, cut_ends a b s1) (sym (append_assoc (ends_at s (after s.clock 1)) (advance_ends a s1) (advance_ends b (advanced a s1))))

cut_readings : (a b : ℕ) (s : State) → readings (a + b) s ≡ readings a s + readings b (advanced a s)
cut_readings zero b s = let e : 0 + b ≡ b = omega arith in rw e (omega arith)
cut_readings (suc a) b s = let e : suc a + b ≡ suc (a + b) = omega arith in rw e (omega (arith, cut_readings a b (tick_to s (after s.clock 1))))

-- three steps as they are known to go
from : (s : Supervisor) (a b room : ℕ) {x y z : Whole} → step_whole s (Advance a) room ≡ x → step_whole x.state (Advance b) room ≡ y → step_whole s (Advance (a + b)) room ≡ z → Cut x y z
    → Cut (step_whole s (Advance a) room) (step_whole (step_whole s (Advance a) room).state (Advance b) room) (step_whole s (Advance (a + b)) room)
from s a b room {x} {y} {z} p q r k =
    subst (λ (w : Whole). Cut w (step_whole w.state (Advance b) room) (step_whole s (Advance (a + b)) room)) (sym p)
    (subst (λ (w : Whole). Cut x w (step_whole s (Advance (a + b)) room)) (sym q) (subst (Cut x y) (sym r) k))

cut : (s : Supervisor) → Typed s → (a b room : ℕ)
    → Cut (step_whole s (Advance a) room) (step_whole (step_whole s (Advance a) room).state (Advance b) room) (step_whole s (Advance (a + b)) room)
cut s t a b room =
    by_struct (λ (x : Supervisor). Cut (step_whole x (Advance a) room) (step_whole (step_whole x (Advance a) room).state (Advance b) room) (step_whole x (Advance (a + b)) room)) s room t
    (λ f q. from s a b room (q (Advance a)) (q (Advance b)) (q (Advance (a + b))) (record { state = refl; ends = refl; readings = refl; refusals = (refl, refl); next = refl }))
    (λ v h g e.
    from (pack v) a b room (step_taken v (Advance a) room h g e) (step_taken (advanced a v) (Advance b) room (advance_kept a v h) (advance_tree a v h g) e) (step_taken v (Advance (a + b)) room h g e)
    (record { state = ap pack (cut_state a b v); ends = cut_ends a b v; readings = cut_readings a b v; refusals = (refl, refl); next = ap running (cut_state a b v) }))

nothing : (s : Supervisor) → Typed s → (room : ℕ) → Nothing s (step_whole s (Advance 0) room)
nothing s t room =
    by_struct (λ (x : Supervisor). Nothing x (step_whole x (Advance 0) room)) s room t
    (λ f q. subst (Nothing s) (sym (q (Advance 0))) (record { state = refl; ends = refl; readings = refl }))
    (λ v h g e. subst (Nothing (pack v)) (sym (step_taken v (Advance 0) room h g e)) (record { state = refl; ends = refl; readings = refl }))

pub advances : Advances
advances = record {
  as_ticks = as_ticks;
  expanded = λ s t run. expanded run s t;
  cut = cut;
  nothing = nothing;
  at_once = λ s n c e. at_once n s (sound_props s c e);
  fits = λ s n c e. fits s n (sound_props s c e);
}
