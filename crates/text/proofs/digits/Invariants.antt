use Rattle.std.proofs.Common.{◌≡◌, ◌^◌, ◌<◌, ◌++◌, drop}
use Rattle.text.specs.Text.{decimal}
use Rattle.text.proofs.digits.Given as goal

abbrev pub invariant-loop-i : goal.invariant-loop-i
invariant-loop-i l = record {
  fits : l.rest < 10 ^ l.i;
  more : l.i < 20 → 0 < l.rest;
  so_far : decimal l.n ≡ decimal l.rest ++ drop l.i l.row;
}
