-- A step with ADVANCE n gives what n steps with TICK give, refused or not; and so over a run.
-- Assumes nothing.
use Prim.Native.Nat.{ℕ, zero, suc, ◌+◌, ◌≤◌, ◌<◌}
use mathlib.Core.Path.{◌≡◌, refl, sym, ◌∙◌, ap, subst}
use mathlib.Core.Bool.{Bool, true, false}
use mathlib.Core.List.{List, [], ◌∷◌, ◌++◌, append_assoc, append-nil}
use native.Mathlib.Omega.{arith}
use lib.ListN.{length}
use lib.Dec.{eqb, ltb}
use borrow.Author.Tests.{eq-eqb, ne_eqb}
use Rattle.lists.specs.Lists.{when◌then◌else◌, bit, count}
use Rattle.rules.specs.State.{State, left, after}
use Rattle.rules.specs.Step.{tick, tick_to, ends_at, advance, advanced, advance_ends, readings}
use Rattle.rules.specs.declared.Refusal.{Refusal}
use Rattle.rules.specs.Whole.{Typed, pack, Whole, decline, step_whole}
use Rattle.rules.specs.Runs.{Ask, after_step, entry_whole, log_whole, reach_whole, ticks_of, tick_count}
use Rattle.rules.specs.Advance.{tick_asks, joined, moments, spread, expand, AsTicks, Expanded}
use Rattle.rules.specs.declared.Item.{Item}
use Rattle.rules.specs.declared.Supervisor.{Supervisor}
use Rattle.calls.specs.declared.Call as C
use Rattle.calls.specs.declared.Call.TheVariants.{Create, Delay, Call, Select, End, Finish, Tick, Advance}
use Rattle.lists.proofs.ListLaws.{by_eq, by_test, not_in}
use Rattle.rules.proofs.Invariant.{Sound}
use Rattle.rules.proofs.StepSound.{tick_kept}
use Rattle.rules.proofs.TreeLaws.{Tree}
use Rattle.rules.proofs.TreeSteps.{tick_tree}
use Rattle.rules.proofs.StateRuns.{stepped}
use Rattle.rules.proofs.OverRuns.{number_pos}
use Rattle.rules.proofs.WholeLaws.{whole_of}
use Rattle.rules.proofs.AdvanceFits.{fits}
use Rattle.rules.proofs.EveryStruct.{by_struct, step_taken, step_typed}

-- what n TICKs give, told of a struct, a list, a number of readings and a number of ticks
record Gives (s : Supervisor) (n room : ℕ) (s' : Supervisor) (l : List Item) (k t : ℕ) : Type 0 where
  pub state : reach_whole s (tick_asks n room) ≡ s'
  pub ends : joined (log_whole s (tick_asks n room)) ≡ l
  pub readings : length (moments (log_whole s (tick_asks n room))) ≡ k
  pub ticks : tick_count (log_whole s (tick_asks n room)) ≡ t

-- one TICK more in front
more : (s : Supervisor) (n room : ℕ) (r : Whole) (s' : Supervisor) (l : List Item) (k t : ℕ) → step_whole s Tick room ≡ r → Gives r.state n room s' l k t
    → Gives s (suc n) room s' (r.ended ++ l) (bit (ltb 0 (length r.ended)) + k) ((when eqb r.refusal 0 then 1 else 0) + t)
more s n room r s' l k t e g = record {
  state = ap (λ (w : Whole). reach_whole w.state asks) e ∙ g.state;
  ends = ap (λ (w : Whole). w.ended ++ joined (log_whole w.state asks)) e ∙ ap (λ (m : List Item). r.ended ++ m) g.ends;
  readings = ap (λ (w : Whole). length (when ltb 0 (length w.ended) then w.state.core.clock ∷ moments (log_whole w.state asks) else moments (log_whole w.state asks))) e
      ∙ count_if (ltb 0 (length r.ended)) r.state.core.clock (moments (log_whole r.state asks)) ∙ ap (λ (x : ℕ). bit (ltb 0 (length r.ended)) + x) g.readings;
  ticks = ap (λ (w : Whole). (when eqb w.refusal 0 then 1 else 0) + tick_count (log_whole w.state asks)) e ∙ ap (λ (x : ℕ). (when eqb r.refusal 0 then 1 else 0) + x) g.ticks;
}
  where
    asks : List Ask
    asks = tick_asks n room

    count_if : (b : Bool) (x : ℕ) (m : List ℕ) → length (when b then x ∷ m else m) ≡ bit b + length m
    count_if true x m = omega arith
    count_if false x m = omega arith

-- refused ones give nothing
gives_none : (n : ℕ) (s : Supervisor) (room : ℕ) (f : Refusal) → step_whole s Tick room ≡ decline s f 0 → Gives s n room s [] 0 0
gives_none zero s room f e = record { state = refl; ends = refl; readings = refl; ticks = refl }
gives_none (suc n) s room f e = rw (number_pos f) at (more s n room (decline s f 0) s [] 0 0 e (gives_none n s room f e))

-- taken ones give what n ticks give
gives_all : (n : ℕ) (s : State) (room : ℕ) → ltb room 124 ≡ false → Sound s → Tree s → Gives (pack s) n room (pack (advanced n s)) (advance_ends n s) (readings n s) n
gives_all zero s room e h k = record { state = refl; ends = refl; readings = refl; ticks = refl }
gives_all (suc n) s room e h k =
    let s1 = tick_to s (after s.clock 1) in
    let g = more (pack s) n room (whole_of (stepped s (tick s))) (pack (advanced n s1)) (advance_ends n s1) (readings n s1) n (step_taken s Tick room h k e) (gives_all n s1 room e (tick_kept s h) (tick_tree s h k)) in
    record { state = g.state; ends = g.ends; readings = g.readings; ticks = g.ticks ∙ omega arith }

-- ── the readings are different ──

-- those at which a wait ended are 1 to n ticks from now, none of them twice
apart : (n : ℕ) (s : State) (room : ℕ) → ltb room 124 ≡ false → Sound s → Tree s → n < 4294967296 → (r : ℕ)
    → (count r (moments (log_whole (pack s) (tick_asks n room))) ≤ 1) × (0 < count r (moments (log_whole (pack s) (tick_asks n room))) → (0 < left s.clock r) × (left s.clock r ≤ n) × (r < 4294967296))
apart zero s room e h g i r = (omega arith, λ k. absurd (omega arith))
apart (suc n) s room e h g i r =
    subst (λ (w : Whole). P (when ltb 0 (length w.ended) then w.state.core.clock ∷ moments (log_whole w.state asks) else moments (log_whole w.state asks))) (sym (step_taken s Tick room h g e))
    (by_test P (ltb 0 (length (ends_at s now))) (λ _. first (apart n (tick_to s now) room e (tick_kept s h) (tick_tree s h g) (omega arith) r)) (λ _. let q = apart n (tick_to s now) room e (tick_kept s h) (tick_tree s h g) (omega arith) r in (q.0, later q)))
  where
    asks : List Ask
    asks = tick_asks n room

    now : ℕ
    now = after s.clock 1

    m : List ℕ
    m = moments (log_whole (pack (tick_to s now)) asks)

    P : List ℕ → Type 0
    P l = (count r l ≤ 1) × (0 < count r l → (0 < left s.clock r) × (left s.clock r ≤ suc n) × (r < 4294967296))

    Q : Type 0
    Q = (count r m ≤ 1) × (0 < count r m → (0 < left now r) × (left now r ≤ n) × (r < 4294967296))

    later : Q → 0 < count r m → (0 < left s.clock r) × (left s.clock r ≤ suc n) × (r < 4294967296)
    later q k = let j = q.1 k in (omega (arith, j.0, j.1, j.2, i, h.clock), omega (arith, j.0, j.1, j.2, i, h.clock), j.2)

    first : Q → P (now ∷ m)
    first q =
        by_eq now r
        (λ z. let o : count r m ≡ 0 = not_in r m (λ k. let j = q.1 k in omega (arith, j.0, j.2, z)) in
        rw (eq-eqb now r z) (omega (arith, o), λ k. (omega (arith, z, h.clock), omega (arith, z, h.clock), omega (arith, z))))
        (λ z. rw (ne_eqb now r z) (omega (arith, q.0), λ k. later q (omega (arith, k))))

-- ── one step ──

from : (s : Supervisor) (n room t : ℕ) (x : Whole) → step_whole s (Advance n) room ≡ x → Gives s n room x.state x.ended x.answer.entry t
    → (n < 4294967296 → (r : ℕ) → count r (moments (log_whole s (tick_asks n room))) ≤ 1) → x.answer.entry ≤ 31 → AsTicks s n room
from s n room t x e g d f = record {
  state = ap (λ (w : Whole). w.state) e ∙ sym g.state;
  ends = ap (λ (w : Whole). w.ended) e ∙ sym g.ends;
  readings = ap (λ (w : Whole). w.answer.entry) e ∙ sym g.readings;
  different = d;
  few = subst (λ (w : Whole). w.answer.entry ≤ 31) (sym e) f;
}

none_twice : (l : List ℕ) → length l ≡ 0 → (r : ℕ) → count r l ≤ 1
none_twice [] e r = omega arith
none_twice (x ∷ xs) e r = absurd (omega (arith, e))

pub as_ticks : (s : Supervisor) → Typed s → (n room : ℕ) → AsTicks s n room
as_ticks s t n room =
    by_struct (λ (x : Supervisor). AsTicks x n room) s room t
    (λ f q. let g = gives_none n s room f (q Tick) in from s n room 0 (decline s f 0) (q (Advance n)) g (λ _. none_twice (moments (log_whole s (tick_asks n room))) g.readings) (omega arith))
    (λ v h g e. from (pack v) n room n (whole_of (stepped v (advance v n))) (step_taken v (Advance n) room h g e) (gives_all n v room e h g) (λ i r. (apart n v room e h g i r).0) (let k = fits v n h in omega (arith, k.items, k.readings)))

-- ── a run ──

reach_append : (l m : List Ask) (s : Supervisor) → reach_whole s (l ++ m) ≡ reach_whole (reach_whole s l) m
reach_append [] m s = refl
reach_append (a ∷ l) m s = reach_append l m (after_step s a)

joined_append : (l m : List Ask) (s : Supervisor) → joined (log_whole s (l ++ m)) ≡ joined (log_whole s l) ++ joined (log_whole (reach_whole s l) m)
joined_append [] m s = refl
joined_append (a ∷ l) m s =
    let s1 = after_step s a in
    let ended = (entry_whole s a).out.ended in
    ap (λ (k : List Item). ended ++ k) (joined_append l m s1) ∙ sym (append_assoc ended (joined (log_whole s1 l)) (joined (log_whole (reach_whole s1 l) m)))

ticks_append : (l m : List Ask) (s : Supervisor) → tick_count (log_whole s (l ++ m)) ≡ tick_count (log_whole s l) + tick_count (log_whole (reach_whole s l) m)
ticks_append [] m s = omega arith
ticks_append (a ∷ l) m s = omega (arith, ticks_append l m (after_step s a))

-- a call and what stands for it
record Alike (s : Supervisor) (c : C.Call) (room : ℕ) : Type 0 where
  pub state : reach_whole s (spread c room) ≡ (step_whole s c room).state
  pub ends : joined (log_whole s (spread c room)) ≡ (step_whole s c room).ended
  pub ticks : tick_count (log_whole s (spread c room)) ≡ (when eqb (step_whole s c room).refusal 0 then ticks_of c else 0)

-- a call that stands for itself
itself : (s : Supervisor) (a : Ask) → spread a.call a.room ≡ a ∷ [] → Alike s a.call a.room
itself s a e = record {
  state = ap (reach_whole s) e;
  ends = ap (λ (l : List Ask). joined (log_whole s l)) e ∙ append-nil (entry_whole s a).out.ended;
  ticks = ap (λ (l : List Ask). tick_count (log_whole s l)) e ∙ omega arith;
}

spread_alike : (s : Supervisor) (c : C.Call) (room : ℕ) → Typed s → Alike s c room
spread_alike s (Create p n) room t = itself s (record { call = Create p n; room = room }) refl
spread_alike s (Delay d) room t = itself s (record { call = Delay d; room = room }) refl
spread_alike s (Call g e m) room t = itself s (record { call = Call g e m; room = room }) refl
spread_alike s (Select o m) room t = itself s (record { call = Select o m; room = room }) refl
spread_alike s End room t = itself s (record { call = End; room = room }) refl
spread_alike s Finish room t = itself s (record { call = Finish; room = room }) refl
spread_alike s Tick room t = itself s (record { call = Tick; room = room }) refl
spread_alike s (Advance n) room t =
    by_struct (λ (x : Supervisor). Alike x (Advance n) room) s room t
    (λ f q. to s 0 (decline s f 0) (q (Advance n)) (gives_none n s room f (q Tick)) (rw (number_pos f)))
    (λ v h g e. to (pack v) n (whole_of (stepped v (advance v n))) (step_taken v (Advance n) room h g e) (gives_all n v room e h g) refl)
  where
    to : (s : Supervisor) (t : ℕ) (x : Whole) → step_whole s (Advance n) room ≡ x → Gives s n room x.state x.ended x.answer.entry t → t ≡ (when eqb x.refusal 0 then n else 0) → Alike s (Advance n) room
    to s t x e g q = record {
      state = g.state ∙ sym (ap (λ (w : Whole). w.state) e);
      ends = g.ends ∙ sym (ap (λ (w : Whole). w.ended) e);
      ticks = g.ticks ∙ q ∙ sym (ap (λ (w : Whole). when eqb w.refusal 0 then n else 0) e);
    }

pub expanded : (run : List Ask) (s : Supervisor) → Typed s → Expanded s run
expanded [] s t = record { state = refl; ends = refl; ticks = refl }
expanded (a ∷ rest) s t =
    let k = spread_alike s a.call a.room t in
    let ih = expanded rest (after_step s a) (step_typed s t a.call a.room) in
    let l = spread a.call a.room in
    record {
      state = ih.state ∙ sym (ap (λ (w : Supervisor). reach_whole w (expand rest)) k.state) ∙ sym (reach_append l (expand rest) s);
      ends = ap (λ (m : List Item). (entry_whole s a).out.ended ++ m) ih.ends ∙ sym (joined_append l (expand rest) s ∙ rw (k.state, k.ends));
      ticks = omega (arith, ih.ticks, ticks_append l (expand rest) s, k.ticks, ap (λ (w : Supervisor). tick_count (log_whole w (expand rest))) k.state);
    }
