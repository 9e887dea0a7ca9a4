-- The tree of held callers as marks.
-- Assumes nothing.
use Rattle.std.specs.Prelude.{ℕ, zero, suc, List}
use Rattle.lists.specs.Line.{line}
use Rattle.lists.specs.Lists.{down_from}
use Rattle.lists.specs.Marks.{no_marks, mark_of, marked, with_mark}
use Rattle.rules.specs.State.{place_of, priority_of, partner_of}
use Rattle.rules.specs.Tree.{highest_from}
use Rattle.rules.specs.Whole.{view_core}
use Rattle.rules.specs.declared.Core.{Core}

-- each of those held is marked with its holder
abbrev pub holders_of : Core → List ℕ
holders_of s = marked (λ c. partner_of (place_of (view_core s) c)) (line s.held) no_marks

-- each task is marked with the priority with which it was created
abbrev pub priorities_of : Core → List ℕ
priorities_of s = marked (priority_of (view_core s)) (down_from s.created) no_marks

-- the highest mark p among t and everyone below it, n levels down: those of the line l whose mark m is t stand below t
unfoldable pub highest_in : List ℕ → List ℕ → List ℕ → ℕ → ℕ → ℕ
highest_in l m p zero t = mark_of p t
highest_in l m p (suc n) t = highest_from (λ c. highest_in l m p n c) (mark_of p t) (with_mark m t l)
