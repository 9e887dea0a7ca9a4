-- ADVANCE by the largest n: worked out for all waits at once, and carried over by `at_once`.
-- Assumes nothing.
use mathlib.Core.Path.{◌≡◌, refl}
use mathlib.Core.List.{[], ◌∷◌}
use native.Mathlib.Omega.{arith}
use Rattle.lists.specs.Line.{pad, pad_to}
use Rattle.rules.specs.State.{empty, running}
use Rattle.rules.specs.Sound.{standing, sound}
use Rattle.rules.specs.Tree.{reaches_top}
use Rattle.rules.specs.Step.{item, open_entry, queued_on, advance_ends, readings}
use Rattle.rules.specs.Whole.{view, pack, step_whole}
use Rattle.rules.proofs.Advances.{advances}
use Rattle.cases.specs.Cases.{step_of, last_of, sleepers}

-- both waits end, at two readings
pub large_readings : readings 4294967295 (view (last_of step_of (pack (empty 4294967290)) sleepers).state) ≡ 2
unfolding sleepers standing sound reaches_top step_whole running open_entry queued_on pad pad_to
large_readings = (advances.at_once (view (last_of step_of (pack (empty 4294967290)) sleepers).state) 4294967295 (omega arith) refl).readings

-- the shorter one first
pub large_ends : advance_ends 4294967295 (view (last_of step_of (pack (empty 4294967290)) sleepers).state) ≡ item 2 1 0 0 ∷ item 1 1 0 0 ∷ []
unfolding sleepers standing sound reaches_top step_whole running open_entry queued_on pad pad_to
large_ends = (advances.at_once (view (last_of step_of (pack (empty 4294967290)) sleepers).state) 4294967295 (omega arith) refl).ends
