use Rattle.std.proofs.Common.{arith}
use Rattle.script.proofs.Loops.{next_entry, no_entry}
use Rattle.script.proofs.Growing.{growing_on, growing_done}
use Rattle.script.proofs.print.with_entries.Goals as goal

pub loop-digit-preserved : goal.loop-digit-preserved
loop-digit-preserved c =
    let l = c.loop-digit in
    record {
      long = c.with_entry-r.ensures.long;
      so_far =
          rw c.next_mark-mark.ensures (growing_on _ c.with_entry-r.ensures (next_entry l.digit l.mark l.rest (omega arith)) l.invariant.so_far);
    }

pub returns : goal.returns
returns c =
    let l = c.loop-digit in
    record { text = growing_done l.r _ _ l.invariant.long (no_entry l.digit l.mark l.rest (omega arith)) l.invariant.so_far; long = l.invariant.long }
