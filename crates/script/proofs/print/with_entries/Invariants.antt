use Rattle.std.proofs.Common.{◌≡◌, ◌-◌, ◌++◌, length}
use Rattle.script.specs.CallText.{entries}
use Rattle.script.specs.Rows.{text_in, cut}
use Rattle.script.proofs.print.with_entries.Given as goal

abbrev pub invariant-loop-digit : goal.invariant-loop-digit
invariant-loop-digit l = record {
  long : length l.r.bytes ≡ 64;
  so_far : cut (text_in l.initial.r ++ entries 8 49 32 l.set) ≡ cut (text_in l.r ++ entries (57 - l.digit) l.digit l.mark l.rest);
}
