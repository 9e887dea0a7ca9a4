-- Bytes that are copied to the front of their buffer. Assumes nothing.
use Rattle.std.proofs.Common.{◌≡◌, ℕ, List, ◌-◌, refl}
use native.Mathlib.Nat.{zero-add}
use Rattle.std.specs.List.{copy_within}
use Rattle.stream.specs.Windows.{shifted}

pub moved_front : (b : List ℕ) (at end : ℕ) → copy_within b at end 0 ≡ shifted b at end
moved_front b at end = rw (zero-add (end - at)) refl
