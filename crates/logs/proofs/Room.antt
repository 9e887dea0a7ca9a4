-- Wherever the header or a line is printed there is room for it. Assumes nothing.
use Prim.Native.Nat.{ℕ, ◌≤◌, ◌<◌}
use mathlib.Core.Path.{◌≡◌}
use mathlib.Core.Bool.{false}
use mathlib.Core.List.{List}
use lib.ListN.{length}
use Rattle.report.specs.Lines.{longest_line}
use Rattle.stream.specs.Outputs.{spare, Free}
use Rattle.logs.specs.declared.Log.{Log}

-- before a turn there is room for a line; and behind one, or where none follows, as much as is kept free
pub record Roomy (out : List ℕ) (l : Log) (turns : ℕ) : Type 0 where
  pub long : spare ≤ length out
  pub line : Free longest_line out l.flow.waits
  pub behind : 0 < turns → Free spare out l.flow.waits
  pub over : l.goes ≡ false → Free spare out l.flow.waits
