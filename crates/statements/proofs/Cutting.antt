-- ADVANCE through the contract of `step`, proved.
-- Assumes nothing.
use Prim.Native.Nat.{ℕ, ◌+◌, ◌≤◌}
use mathlib.Core.Path.{◌≡◌, refl, sym, ◌∙◌, ap, subst}
use mathlib.Core.Bool.{Bool, not}
use mathlib.Core.List.{List, [], ◌∷◌, ◌++◌}
use lib.Dec.{ltb}
use lib.ListN.{length}
use Rattle.lists.specs.Lists.{when◌then◌else◌}
use Rattle.lists.proofs.ListLaws.{by_bool}
use Rattle.rules.specs.State.{empty}
use Rattle.rules.specs.Step.{take_call, room_after}
use Rattle.rules.specs.declared.Refusal.TheVariants.{ShortRoom, BadState}
use Rattle.rules.specs.Whole.{Typed, view, sound_whole, Whole, decline, done, step_whole, stepped_of}
use Rattle.rules.specs.Runs.{start}
use Rattle.rules.specs.Uses.{Use, Keeps, Chain, items_in}
use Rattle.rules.specs.declared.Item.{Item}
use Rattle.rules.specs.declared.Stepped.{Stepped}
use Rattle.rules.specs.declared.Supervisor.{Supervisor}
use Rattle.calls.specs.declared.Call as C
use Rattle.calls.specs.declared.Call.TheVariants.{Tick, Advance}
use Rattle.rules.proofs.Advances.{advances}
use Rattle.rules.proofs.EveryStruct.{typed_pack, step_typed}
use Rattle.rules.proofs.OverRuns.{empty_sound}
use Rattle.rules.proofs.Uses.{items_back}
use Rattle.statements.specs.Statement3.{reached}
use Rattle.statements.specs.Cutting.{ended_in, RoomsAlike, LikeTick, TicksAlike, EndsJoined, ReadingsAdded, CutAlike, Unchanged, Cutting}

-- a step looks at its room's length only to see whether it is enough
same_room : (s : Supervisor) (c : C.Call) (u v : Use) → RoomsAlike u v → step_whole s c (length v.lent) ≡ step_whole s c (length u.lent)
unfolding step_whole
same_room s c u v e = ap (λ (b : Bool). when b then decline s ShortRoom 0 else when not (sound_whole s) then decline s BadState 0 else done s (take_call (view s) c)) (sym e)

-- the rules' step of a use with this call
called : (s : Supervisor) (u : Use) {c : C.Call} → u.call ≡ c → step_whole s u.call (length u.lent) ≡ step_whole s c (length u.lent)
called s u e = ap (λ (c : C.Call). step_whole s c (length u.lent)) e

-- what a use gave, where the rules' step is known
module _ (s : Supervisor) (u : Use) (k : Keeps s u) {w : Whole} (same : step_whole s u.call (length u.lent) ≡ w) where
  gave : u.gave ≡ stepped_of w
  gave = k.answer ∙ ap stepped_of same

  wrote : u.wrote ≡ room_after u.lent w.ended
  wrote = k.room ∙ ap (λ (x : Whole). room_after u.lent x.ended) same

  state_is : u.gave.state ≡ w.state
  state_is = ap (λ (g : Stepped Supervisor). g.state) gave

  readings_are : u.gave.answer.entry ≡ w.answer.entry
  readings_are = ap (λ (g : Stepped Supervisor). g.answer.entry) gave

  next_is : u.gave.answer.next ≡ w.next
  next_is = ap (λ (g : Stepped Supervisor). g.answer.next) gave

  refusal_is : u.gave.answer.refusal ≡ w.refusal
  refusal_is = ap (λ (g : Stepped Supervisor). g.answer.refusal) gave

  ends_are : ended_in u ≡ w.ended
  ends_are =
      ap (λ (g : Stepped Supervisor). items_in g.answer.ended u.wrote) gave
      ∙ ap (items_in (length w.ended)) wrote
      ∙ items_back w.ended u.lent

-- ADVANCE is answered like TICK: refused for the same reason, or DONE with task and partner 0
tick_numbers : (s : Supervisor) (n room : ℕ) → let x = step_whole s (Advance n) room in let y = step_whole s Tick room in
    (x.refusal ≡ y.refusal) × (x.answer.result ≡ y.answer.result) × (x.answer.task ≡ y.answer.task) × (x.answer.partner ≡ y.answer.partner)
unfolding step_whole
tick_numbers s n room =
    by_bool (ltb room 124) (λ b. rw b (refl, refl, refl, refl)) λ b.
    by_bool (sound_whole s) (λ h. rw (b, h) (refl, refl, refl, refl)) (λ h. rw (b, h) (refl, refl, refl, refl))

like_tick : (s : Supervisor) (u : Use) (n : ℕ) → u.gave ≡ stepped_of (step_whole s (Advance n) (length u.lent)) → LikeTick s u
like_tick s u n e =
    let y = tick_numbers s n (length u.lent) in
    record {
      refusal = ap (λ (g : Stepped Supervisor). g.answer.refusal) e ∙ y.0;
      result = ap (λ (g : Stepped Supervisor). g.answer.result) e ∙ y.1;
      task = ap (λ (g : Stepped Supervisor). g.answer.task) e ∙ y.2;
      partner = ap (λ (g : Stepped Supervisor). g.answer.partner) e ∙ y.3;
    }

ends_joined : (u v w : Use) {x y : List Item} → ended_in u ≡ x → ended_in v ≡ y → ended_in w ≡ x ++ y → EndsJoined u v w
ends_joined u v w p q e = e ∙ (λ j. sym p j ++ sym q j)

readings_added : (u v w : Use) {m n : ℕ} → u.gave.answer.entry ≡ m → v.gave.answer.entry ≡ n → w.gave.answer.entry ≡ m + n → ReadingsAdded u v w
readings_added u v w p q e = e ∙ (λ j. sym p j + sym q j)

module _ (s : Supervisor) (t : Typed s) where
  ticks_alike : (n : ℕ) (u : Use) → Keeps s u → u.call ≡ Advance n → TicksAlike s n u
  ticks_alike n u k e =
      let a = advances.as_ticks s t n (length u.lent) in
      record {
        state = state_is s u k (called s u e) ∙ a.state;
        ends = ends_are s u k (called s u e) ∙ a.ends;
        readings = readings_are s u k (called s u e) ∙ a.readings;
        different = a.different;
        few = subst (λ (x : ℕ). x ≤ 31) (sym (readings_are s u k (called s u e))) a.few;
        answer = like_tick s u n (gave s u k (called s u e));
      }

  unchanged : (u : Use) → Keeps s u → u.call ≡ Advance 0 → Unchanged s u
  unchanged u k e =
      let z = advances.nothing s t (length u.lent) in
      record {
        state = state_is s u k (called s u e) ∙ z.state;
        ends = ends_are s u k (called s u e) ∙ z.ends;
        room = wrote s u k (called s u e) ∙ ap (room_after u.lent) z.ends;
        readings = readings_are s u k (called s u e) ∙ z.readings;
      }

  cut_alike : (a b : ℕ) (u v w : Use) → Keeps s u → Keeps u.gave.state v → Keeps s w
      → u.call ≡ Advance a → v.call ≡ Advance b → w.call ≡ Advance (a + b) → RoomsAlike u v → RoomsAlike u w → CutAlike u v w
  cut_alike a b u v w ku kv kw eu ev ew r q =
      let room = length u.lent in
      let s1 = (step_whole s (Advance a) room).state in
      let c = advances.cut s t a b room in
      let gu = called s u eu in
      let gw = called s w ew ∙ same_room s (Advance (a + b)) u w q in
      let k1 : Keeps s1 v = subst (λ (x : Supervisor). Keeps x v) (state_is s u ku gu) kv in
      let gv = called s1 v ev ∙ same_room s1 (Advance b) u v r in
      record {
        state = state_is s w kw gw ∙ c.state ∙ sym (state_is s1 v k1 gv);
        ends = ends_joined u v w (ends_are s u ku gu) (ends_are s1 v k1 gv) (ends_are s w kw gw ∙ c.ends);
        readings = readings_added u v w (readings_are s u ku gu) (readings_are s1 v k1 gv) (readings_are s w kw gw ∙ c.readings);
        next = next_is s w kw gw ∙ c.next ∙ sym (next_is s1 v k1 gv);
        refusals = (
          refusal_is s w kw gw ∙ c.refusals.0 ∙ sym (refusal_is s u ku gu),
          refusal_is s w kw gw ∙ c.refusals.1 ∙ sym (refusal_is s1 v k1 gv),
        );
      }

  onward : (u : Use) → Keeps s u → Typed u.gave.state
  onward u k = subst Typed (sym (ap (λ (g : Stepped Supervisor). g.state) k.answer)) (step_typed s t u.call (length u.lent))

chained : (s : Supervisor) → Typed s → (us : List Use) → Chain s us → Typed (reached s us)
chained s t [] k = t
chained s t (u ∷ us) k = chained u.gave.state (onward s t u k.0) us k.1

pub cutting : Cutting
cutting = record {
  as_ticks = ticks_alike;
  cut = cut_alike;
  nothing = unchanged;
  onward = onward;
  reached = λ n run. chained (start n) (typed_pack (empty n) (empty_sound n run.clock)) run.uses run.kept;
}
