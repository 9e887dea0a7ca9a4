use Rattle.std.proofs.Common.{◌≡◌, ℕ, length, drop}
use Rattle.lists.specs.Line.{line}
use Rattle.lists.specs.Marks.{marked}
use Rattle.rules.specs.State.{place_of, partner_of}
use Rattle.rules.specs.Whole.{view_core}
use Rattle.rules.specs.declared.Core.{Core}
use Rattle.table.specs.Tree.{holders_of}
use Rattle.table.proofs.tree.holders_of.Given as goal

abbrev pub holder : Core → ℕ → ℕ
holder s c = partner_of (place_of (view_core s) c)

-- The invariant: the marks of the rest of the line, put upon those so far, are those of the whole line.
abbrev pub invariant-loop-c : goal.invariant-loop-c
invariant-loop-c l =
    (length l.fn.s.tasks ≡ 31) × (length l.fn.s.held ≡ 31) × (holders_of l.fn.s ≡ marked (holder l.fn.s) (line (drop l.c-index l.fn.s.held)) l.marks)
