-- A queue can hold 31 callers.
-- Assumes nothing.
use Rattle.std.proofs.Common.{◌≡◌, refl, Ok}
use Rattle.lists.specs.Line.{pad, pad_to}
use Rattle.rules.specs.State.{running}
use Rattle.rules.specs.Sound.{standing, sound}
use Rattle.rules.specs.Tree.{reaches_top}
use Rattle.rules.specs.Step.{open_entry, queued_on}
use Rattle.rules.specs.Whole.{step_whole}
use Rattle.rules.specs.Questions.{count_whole}
use Rattle.statements.specs.FullQueue.{crowd, crowd_count}

pub full_queue : crowd_count ≡ Ok 31
unfolding crowd standing sound reaches_top step_whole running open_entry queued_on pad pad_to count_whole
full_queue = refl
