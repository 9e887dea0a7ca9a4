use Rattle.std.proofs.Common.{◌≡◌, ℕ, length, drop}
use Rattle.lists.specs.Line.{line}
use Rattle.lists.specs.Marks.{no_marks, marked}
use Rattle.rules.specs.State.{place_of, partner_of}
use Rattle.rules.specs.Whole.{view_core}
use Rattle.rules.specs.declared.Core.{Core}
use Rattle.table.specs.Tree.{holders_of}
use Rattle.soundness.specs.TreeCheck.{passed}
use Rattle.soundness.proofs.tree.seen_of.Given as goal

-- The invariant: a pass over the rest of the line, from what is found so far, finds what the whole pass finds, and so do the marks of the holders.
abbrev pub holder : Core → ℕ → ℕ
holder s c = partner_of (place_of (view_core s) c)

abbrev pub invariant-loop-c : goal.invariant-loop-c
invariant-loop-c l =
    (length l.fn.s.tasks ≡ 31) × (length l.fn.s.held ≡ 31)
    × (passed (view_core l.fn.s) no_marks l.word (line l.fn.s.held) ≡ passed (view_core l.fn.s) l.tops l.apart (line (drop l.c-index l.fn.s.held)))
    × (holders_of l.fn.s ≡ marked (holder l.fn.s) (line (drop l.c-index l.fn.s.held)) l.holders) × (length l.tops ≡ 32) × (length l.holders ≡ 32)
