-- What two of the questions ask of a core.
-- Assumes nothing.
use Rattle.std.specs.Prelude.{ℕ, Bool, not, ◌&&◌, List, length, nat_lt, nat_le}
use Rattle.lists.specs.Line.{line}
use Rattle.lists.specs.Lists.{filter}
use Rattle.rules.specs.State.{place_of, is_completed, waits_on}
use Rattle.rules.specs.Whole.{view_core}
use Rattle.rules.specs.declared.Core.{Core}

-- how many of a line are queued on entry e of task t
abbrev pub queued_in : Core → List ℕ → ℕ → ℕ → ℕ
queued_in k l t e = length (filter (waits_on (view_core k) t e) (line l))

-- task t was created and has not completed
abbrev pub callable_in : Core → ℕ → Bool
callable_in k t = (nat_lt 0 t && nat_le t k.created) && not (is_completed (place_of (view_core k) t))
