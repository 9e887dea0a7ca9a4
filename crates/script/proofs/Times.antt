-- Durations as text and as code meets them.
-- Assumes nothing.
use Prim.Native.Nat.{ℕ, suc, ◌-◌, ◌<◌, ◌^◌}
use mathlib.Core.Path.{◌≡◌, ap}
use mathlib.Core.Bool.{true, false}
use mathlib.Core.List.{[], ◌∷◌, ◌++◌}
use native.Mathlib.Omega.{arith}
use lib.IntN.{ℤ, pos, negsuc}
use lib.Signed.{lt_z}
use borrow.Author.Tests.{ltb-true}
use mir.Syntax.{w32}
use mir.Val.{to_z}
use mir.Facts.{to_z-neg, to_z_pos}
use Rattle.std.specs.Prelude.{unsigned_abs}
use Rattle.lists.proofs.Tests.{differ}
use Rattle.text.specs.Text.{decimal, spaced}
use Rattle.script.specs.CallText.{spaced_time}

-- a number below 0 from its distance, and one from 0 on
pub below : (x : ℕ) → x < 2147483648 → to_z w32 (4294967295 - x) ≡ negsuc x
below x h =
    let e : 4294967295 - x ≡ 2 ^ 32 - suc x = omega arith in
    rw e (to_z-neg w32 x (omega arith))

pub above : (x : ℕ) → x < 2147483648 → to_z w32 x ≡ pos x
above x h = let g : x < 2 ^ 31 = omega arith in to_z_pos w32 g

-- the text of a duration below 0, and of one from 0 on, by its distance from 0
pub text_below : (d : ℤ) (n : ℕ) → lt_z d (pos 0) ≡ true → n ≡ unsigned_abs d → (32 ∷ 45 ∷ []) ++ decimal n ≡ spaced_time d
unfolding spaced_time
text_below (pos k) n e t = absurd (omega (arith, ltb-true k 0 e))
text_below (negsuc k) n e t = ap (λ (m : ℕ). 32 ∷ 45 ∷ decimal m) t

pub text_above : (d : ℤ) (n : ℕ) → lt_z d (pos 0) ≡ false → n ≡ unsigned_abs d → spaced n ≡ spaced_time d
unfolding spaced_time
text_above (pos k) n e t = ap spaced t
text_above (negsuc k) n e t = differ e
