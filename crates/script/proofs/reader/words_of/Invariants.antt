use Rattle.std.proofs.Common.{◌≡◌, ◌++◌, false, length, drop}
use Rattle.script.specs.Rows.{text_in, cut}
use Rattle.script.specs.Words.{words_from}
use Rattle.script.proofs.reader.words_of.Given as goal

abbrev pub invariant-loop-b : goal.invariant-loop-b
invariant-loop-b l = record {
  long : length l.words.bytes ≡ 64;
  so_far : cut (words_from false l.line) ≡ cut (text_in l.words ++ words_from l.inside (drop l.b-index l.line));
}
