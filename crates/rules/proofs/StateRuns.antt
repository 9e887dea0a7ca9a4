-- The step and the runs over the state of the rules, without the struct's arrays: what is proved of these is carried over to
-- the struct's step in WholeRuns.
-- Assumes nothing.
use Prim.Native.Nat.{ℕ}
use mathlib.Core.Bool.{not}
use mathlib.Core.List.{List, [], ◌∷◌}
use lib.Dec.{ltb}
use Rattle.lists.specs.Lists.{when◌then◌else◌}
use Rattle.rules.specs.State.{State, running}
use Rattle.rules.specs.Sound.{sound}
use Rattle.rules.specs.Step.{none, number, Outcome, refused, took, take_call}
use Rattle.rules.specs.declared.Refusal.{Refusal}
use Rattle.rules.specs.declared.Refusal.TheVariants.{ShortRoom, BadState}
use Rattle.rules.specs.Runs.{Ask, Given, Entry}
use Rattle.calls.specs.declared.Call as C

abbrev pub refuse : State → Refusal → ℕ → Given
refuse s r n = record { refusal = number r; answer = none; ended = []; next = n; state = s }

abbrev pub stepped : State → Outcome → Given
stepped s (refused r) = refuse s r (running s)
stepped s (took s' a l) = record { refusal = 0; answer = a; ended = l; next = running s'; state = s' }

abbrev pub step : State → C.Call → ℕ → Given
step s c room =
    when ltb room 124 then refuse s ShortRoom 0
    else when not (sound s) then refuse s BadState 0
    else stepped s (take_call s c)

abbrev pub entry : State → Ask → Entry
entry s a = record { before = s; call = a.call; out = step s a.call a.room }

abbrev pub log_of : State → List Ask → List Entry
log_of s [] = []
log_of s (a ∷ rest) = entry s a ∷ log_of (entry s a).out.state rest

abbrev pub reach : State → List Ask → State
reach s [] = s
reach s (a ∷ rest) = reach (entry s a).out.state rest
