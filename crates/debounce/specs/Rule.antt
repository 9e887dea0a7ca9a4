-- The rule of request (xiii), worked out from the raw bits alone: there is no supervisor in sight.
-- A history is the list of the raw bytes, one a tick, that of the latest tick first; so is the list of a contact's samples.
-- Assumes nothing.
use Rattle.std.specs.Prelude.{ℕ, suc, ◌+◌, ◌-◌, ◌*◌, ◌/◌, ◌%◌, ◌^◌, Bool, true, false, not, ◌&&◌, ◌||◌, List, [], ◌∷◌, length, take, ◌==◌, nat_le}
use Rattle.lists.specs.Lists.{when◌then◌else◌, bit, every}

-- contact k's bit of a byte: bit k - 1, 1 for closed
abbrev pub closed_in : ℕ → ℕ → Bool
closed_in bits k = bits / 2 ^ (k - 1) % 2 == 1

-- contact k's samples: its bit is read at ticks p, 2p, 3p and so on after start
abbrev pub samples_of : ℕ → ℕ → List ℕ → List Bool
samples_of p k [] = []
samples_of p k (bits ∷ before) =
    when suc (length before) % p == 0 then closed_in bits k ∷ samples_of p k before
    else samples_of p k before

-- one is closed and the other open
abbrev pub differs : Bool → Bool → Bool
differs x y = (x && not y) || (not x && y)

-- there are n samples, and the last n are all as v says
abbrev pub last_all : ℕ → Bool → List Bool → Bool
last_all n v samples = nat_le n (length samples) && every (λ x. not (differs x v)) (take n samples)

-- a contact is reported closed once the last n samples are all closed, open once the last n are all open, and otherwise as
-- before; it starts open
abbrev pub report_of : ℕ → List Bool → Bool
report_of n [] = false
report_of n (x ∷ before) =
    when last_all n true (x ∷ before) then true
    else when last_all n false (x ∷ before) then false
    else report_of n before

-- a contact's setting
pub record Setting : Type 0 where
  pub n : ℕ
  pub p : ℕ

-- the reports of contacts k, k + 1 and so on, by their settings and the raw bits
abbrev pub reports_from : ℕ → List Setting → List ℕ → List Bool
reports_from k [] history = []
reports_from k (x ∷ xs) history = report_of x.n (samples_of x.p k history) ∷ reports_from (suc k) xs history

-- reports as a byte, the first in bit 0
abbrev pub byte_of : List Bool → ℕ
byte_of [] = 0
byte_of (b ∷ bs) = bit b + 2 * byte_of bs

-- the report of the eight contacts: bit k - 1 for contact k, 1 for closed
abbrev pub report_byte : List Setting → List ℕ → ℕ
report_byte settings history = byte_of (reports_from 1 settings history)
