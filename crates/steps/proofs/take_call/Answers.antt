use Rattle.std.proofs.Common.{◌≡◌, true, false, List, ℕ, ℤ, Result, sym, refl, ap, ◌∙◌, w32, to_z, of_z, rules}
use Rattle.lists.specs.Line.{line}
use Rattle.lists.proofs.ListLaws.{clash}
use Rattle.rules.specs.Callers.{asks}
use Rattle.rules.specs.Step.{take_call, room_after}
use Rattle.rules.proofs.Apart.{same_step}
use Rattle.rules.specs.Whole.{view_core}
use Rattle.rules.specs.declared.Core.{Core}
use Rattle.rules.specs.declared.Refusal.{Refusal}
use Rattle.calls.specs.declared.Call as C
use Rattle.calls.specs.declared.Call.TheVariants.{Delay, Call, Select, End, Finish, Tick, Advance}
use Rattle.steps.specs.Taken.{Sees, SeesFor, seen, taken_of, ended_by}
use Rattle.steps.specs.declared.answers.Taken.{Taken}
use Rattle.steps.proofs.AnswerLaws.{quiet_room, by_core, by_core_ended}
use Rattle.steps.proofs.SelectLaws.{quiet_select}
use Rattle.steps.proofs.take_call.Goals as goal

-- a call that looks at no callers
module _ (s : Core) (mine : List ℕ) (c : C.Call) (z : asks c ≡ false) where
  blind_value : {r : Result Taken Refusal} → r ≡ taken_of (take_call (view_core s) c) → r ≡ taken_of (take_call (seen s mine) c)
  blind_value = by_core (take_call (seen s mine) c) (take_call (view_core s) c) (sym (same_step (view_core s) (line mine) c (λ e. clash e z)))

  blind_room : (x y : List ℕ) → x ≡ room_after y (ended_by (take_call (view_core s) c)) → x ≡ room_after y (ended_by (take_call (seen s mine) c))
  blind_room x y = by_core_ended (take_call (seen s mine) c) (take_call (view_core s) c) x y (sym (same_step (view_core s) (line mine) c (λ e. clash e z)))

-- and one that does
sighted : (s : Core) (mine : List ℕ) (c : C.Call) → SeesFor s mine c → asks c ≡ true → Sees s mine
sighted s mine c h e = record { stands = h.stands; calls = h.calls e }

pub returns-in-Delay-clause-value : goal.returns-in-Delay-clause-value
returns-in-Delay-clause-value c =
    let a = c.args in
    let d = c.in-Delay.d in
    let z : to_z w32 (of_z w32 d) ≡ d = search rules in
    rw c.in-Delay.is (blind_value a.s a.mine (Delay d) refl (c.delay.ensures ∙ ap (λ (d : ℤ). taken_of (take_call (view_core a.s) (Delay d))) z))

pub returns-in-Call-clause-value : goal.returns-in-Call-clause-value
returns-in-Call-clause-value c =
    let a = c.args in
    let k = c.in-Call in
    rw k.is (blind_value a.s a.mine (Call k.target k.entry k.mode) refl c.call.ensures.value)

pub returns-in-Call-clause-room : goal.returns-in-Call-clause-room
returns-in-Call-clause-room c =
    let a = c.args in
    let k = c.in-Call in
    rw k.is (blind_room a.s a.mine (Call k.target k.entry k.mode) refl _ _ c.call.ensures.room)

pub select-requires : goal.select-requires
select-requires c =
    let a = c.args in
    let k = c.in-Select in
    sighted a.s a.mine (Select k.open k.mode) (rw k.is at c.requires.0) refl

pub returns-in-Select-clause-room : goal.returns-in-Select-clause-room
returns-in-Select-clause-room c =
    let a = c.args in
    let k = c.in-Select in
    rw k.is (quiet_room _ (quiet_select (seen a.s a.mine) k.open k.mode))

pub returns-in-End-clause-value : goal.returns-in-End-clause-value
returns-in-End-clause-value c = let a = c.args in rw c.in-End.is (blind_value a.s a.mine End refl c.end.ensures.value)

pub returns-in-End-clause-room : goal.returns-in-End-clause-room
returns-in-End-clause-room c = let a = c.args in rw c.in-End.is (blind_room a.s a.mine End refl _ _ c.end.ensures.room)

pub finish-requires : goal.finish-requires
finish-requires c = let a = c.args in (sighted a.s a.mine Finish (rw c.in-Finish.is at c.requires.0) refl, c.requires.1)

pub returns-in-Tick-clause-value : goal.returns-in-Tick-clause-value
returns-in-Tick-clause-value c = let a = c.args in rw c.in-Tick.is (blind_value a.s a.mine Tick refl c.tick.ensures.value)

pub returns-in-Advance-clause-value : goal.returns-in-Advance-clause-value
returns-in-Advance-clause-value c = let a = c.args in rw c.in-Advance.is (blind_value a.s a.mine (Advance c.in-Advance.n) refl c.advance.ensures.value)

pub returns-in-Advance-clause-room : goal.returns-in-Advance-clause-room
returns-in-Advance-clause-room c = let a = c.args in rw c.in-Advance.is (blind_room a.s a.mine (Advance c.in-Advance.n) refl _ _ c.advance.ensures.room)
