-- What is seen of a lent table, and what is written to it. No public contract cites this.
use Rattle.std.specs.Prelude.{ℕ, ◌&&◌, List, length, drop, replicate, nat_le}
use Rattle.workspace.specs.declared.Stretch.{Stretch}
use Rattle.workspace.specs.declared.Table.{Table}
use Rattle.workspace.specs.declared.Look.{Look}
use Rattle.lists.specs.Lists.{when◌then◌else◌, every}
use Rattle.workspace.specs.Rules.{none, is_none}
use Rattle.lists.specs.Over.{over}
use Rattle.workspace.specs.Places.{place_of, has_units}

-- its first 32 places, and whether all places behind them are unused
unfoldable pub table_of : List Stretch → Table
table_of l = record { places = over (replicate 32 none) l; clear = every is_none (drop 32 l) }

-- the 32 places are written to a table; those behind become unused, or stay if they were not
unfoldable pub laid : Table → List Stretch → List Stretch
laid t l = over (when t.clear then replicate (length l) none else l) t.places

-- what is seen of two lent tables: both of them, whether there are 31 and 32 places, and the place of the first free stretch of n units
unfoldable pub look_of : List Stretch → List Stretch → ℕ → Look
look_of b f n = record {
  blocks = (table_of b).places;
  free = (table_of f).places;
  long = nat_le 31 (length b) && nat_le 32 (length f);
  clear = (table_of b).clear && (table_of f).clear;
  place = place_of (has_units n) f;
}
