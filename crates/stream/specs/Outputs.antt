-- Output that is gathered in a buffer.
-- Assumes nothing.
use Rattle.std.specs.Prelude.{ℕ, ◌+◌, ◌-◌, ◌≤◌, min, Bool, cond, List, length, nat_lt}

-- the bytes that are kept free behind what waits
abbrev pub spare : ℕ
spare = 8192

-- so many bytes are free behind what waits
abbrev pub Free : ℕ → List ℕ → ℕ → Type 0
Free n out waits = waits + n ≤ length out

-- there is little room behind what waits: less than is kept free
abbrev pub is_full : List ℕ → ℕ → Bool
is_full out waits = nat_lt (length out - min waits (length out)) spare

-- how much still waits: nothing where all was written, else what did
abbrev pub waits_behind : List ℕ → ℕ → ℕ
waits_behind out waits = cond (is_full out waits) 0 (min waits (length out))
