use mathlib.Core.Path.{refl}
use Rattle.codec.specs.Rows.{no_rows}
use Rattle.codec.proofs.rows.no_rows.Goals as goal

pub returns : goal.returns
unfolding no_rows
returns c = refl
