-- Which call a line says: the one whose text its words are.
-- Assumes nothing.
use Rattle.std.specs.Prelude.{ℕ, ◌<◌, ◌^◌, ◌≡◌, List, [], ◌∷◌}
use Rattle.std.specs.Int.{w32}
use Rattle.std.proofs.Common.{SFits}
use Rattle.calls.specs.Record.{call_time, select_time, encode}
use Rattle.calls.specs.declared.Call as C
use Rattle.calls.specs.declared.Call.TheVariants.{Create, Delay, Call, Select, End, Finish, Tick, Advance}
use Rattle.script.specs.CallText.{text_of}
use Rattle.script.specs.declared.Line.{Line}
use Rattle.script.specs.declared.Line.TheVariants as L

-- the numbers of a call are those of its types: bytes, signed numbers of 32 bits, and the unsigned n of ADVANCE
abbrev pub Fits : C.Call → Type 0
Fits (Create p n) = (p < 256) × (n < 256)
Fits (Delay d) = SFits w32 d
Fits (Call t e m) = (t < 256) × ((e < 256) × SFits w32 (call_time m))
Fits (Select o m) = (o < 256) × SFits w32 (select_time m)
Fits End = Unit {0}
Fits Finish = Unit {0}
Fits Tick = Unit {0}
Fits (Advance n) = n < 2 ^ 32

-- what words say, each with a blank in front: nothing where there are none; a call where they are its text; else they cannot be read, and are no
-- call's text
abbrev pub Says : List ℕ → Line → Type 0
Says words L.Nothing = words ≡ []
Says words (L.Says c) = Fits c × (words ≡ 32 ∷ text_of c)
Says words L.Unread = (words ≡ [] → ⊥) × ((c : C.Call) → Fits c → words ≡ 32 ∷ text_of c → ⊥)

-- the record of what a line says: nothing for a line without a call, or one that cannot be read
abbrev pub record_of : Line → List ℕ
record_of L.Nothing = []
record_of (L.Says c) = encode c
record_of L.Unread = []
