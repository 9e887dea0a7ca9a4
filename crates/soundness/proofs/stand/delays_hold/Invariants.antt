use Rattle.std.proofs.Common.{◌≡◌, ◌&&◌, length, drop}
use Rattle.lists.specs.Line.{line}
use Rattle.table.specs.Moved.{left_of}
use Rattle.soundness.specs.Check.{ascending, delays_hold, walked}
use Rattle.soundness.proofs.stand.delays_hold.Given as goal

-- The invariant: what is left of the answer is the answer for the rest of the queue, behind the ticks left of the last.
abbrev pub invariant-loop-i : goal.invariant-loop-i
invariant-loop-i l =
    (length l.fn.s.tasks ≡ 31) × (delays_hold l.fn.s l.fn.word ≡ (walked l.rest (drop l.i l.fn.s.delays) && ascending (left_of l.fn.s) l.last (line (drop l.i l.fn.s.delays))))
