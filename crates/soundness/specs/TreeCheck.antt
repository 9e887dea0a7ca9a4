-- What the parts of the check of the tree of held callers answer.
-- Assumes nothing.
use Rattle.std.specs.Prelude.{ℕ, zero, suc, Bool, true, false, not, ◌&&◌, List, [], ◌∷◌, ◌==◌, slice_set, Option, None}
use Rattle.std.specs.Bool.{then_some}
use Rattle.lists.specs.Line.{line}
use Rattle.lists.specs.Lists.{when◌then◌else◌}
use Rattle.lists.specs.Marks.{no_marks, mark_of}
use Rattle.rules.specs.State.{State, place_of, priority_of, current_of, partner_of, kept_of, higher}
use Rattle.rules.specs.Whole.{view_core}
use Rattle.rules.specs.declared.Core.{Core}
use Rattle.table.specs.Tree.{holders_of}
use Rattle.soundness.specs.Marks.{Marks, has_mark, next_mark, without_mark, put_mark, if_any, is_none}

-- ── the pass over those held ──

-- the highest of the created priority of g and of its mark
abbrev pub top_of : State → List ℕ → ℕ → ℕ
top_of s m g = higher (priority_of s g) (mark_of m g)

-- the mark of a holder is the highest current priority of its callers so far, and each caller keeps what that was before; the word has
-- those whose current priority is another than the highest so far, and at the end nobody
abbrev pub passed : State → List ℕ → Marks → List ℕ → Bool
passed s m a [] = is_none a
passed s m a (c ∷ l) =
    let g = partner_of (place_of s c) in
    let now = higher (top_of s m g) (current_of s c) in
    kept_of (place_of s c) == top_of s m g && passed s (slice_set m g now) (put_mark a g (not (current_of s g == now))) l

-- the holders, if the pass agrees, where those of the word have another current priority than the created one
abbrev pub seen_of : Core → Marks → Option (List ℕ)
seen_of s w = then_some (passed (view_core s) no_marks w (line s.held)) (holders_of s)

-- ── the climb ──

-- from u to its holder, and on, n turns at most, up to the first that is not to be met: all on the way are met. Who is still to be met
-- then, if that one was not to be met in w, where the climb began
unfoldable pub climbed : List ℕ → Marks → ℕ → Marks → ℕ → Option Marks
climbed m w zero r u = None
climbed m w (suc n) r u = when has_mark r u then climbed m w n (without_mark r u) (mark_of m u) else then_some (not (has_mark w u)) r

-- from each of the list
abbrev pub all_climbed : List ℕ → Marks → List ℕ → Bool
all_climbed m w [] = true
all_climbed m w (c ∷ l) = if_any (climbed m w 31 w c) (λ r. all_climbed m r l)

-- ── the whole ──

-- what the check finds of the tree, where h are those held and w those with another current priority than the created one: task 1 is bit 0
abbrev pub tree_found : Core → Marks → Marks → Bool
tree_found s h w =
    when is_none h then is_none (next_mark w false)
    else passed (view_core s) no_marks (next_mark w false) (line s.held) && all_climbed (holders_of s) (next_mark h false) (line s.held)
