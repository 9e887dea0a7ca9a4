-- A call that code is given has numbers of its types.
-- Assumes nothing.
use native.Mathlib.Omega.{arith}
use lib.IntN.{pos}
use mir.Syntax.{w32}
use mir.Val.{SFits}

-- a mode without a duration
pub no_time : SFits w32 (pos 0)
no_time = record { sfits = omega arith }
