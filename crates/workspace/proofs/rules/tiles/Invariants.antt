use Rattle.std.proofs.Common.{◌≡◌, ◌-◌, ◌*◌, ◌≤◌, false, length}
use Rattle.workspace.specs.Check.{tiled}
use Rattle.workspace.proofs.CheckLaws.{Rest}
use Rattle.workspace.proofs.rules.tiles.Given as goal

abbrev pub invariant-loop : goal.invariant-loop
invariant-loop l = record {
  at : l.t.at ≤ l.counter * 4294967296;
  i : l.t.i ≤ length l.blocks;
  j : l.t.j ≤ length l.free;
  rest : tiled 64 false 0 l.blocks l.free ≡ Rest (64 - l.counter) l.t l.blocks l.free;
}
