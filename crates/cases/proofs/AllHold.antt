-- Every row of the table holds: one proof over all of them, by working each row out.
-- Assumes nothing.
use lib.Dec.{T}
use Rattle.lists.specs.Line.{pad, pad_to}
use Rattle.lists.specs.Lists.{every}
use Rattle.rules.specs.State.{running}
use Rattle.rules.specs.Sound.{standing, sound}
use Rattle.rules.specs.Tree.{reaches_top}
use Rattle.rules.specs.Step.{open_entry, queued_on}
use Rattle.rules.specs.Whole.{step_whole}
use Rattle.cases.specs.Cases.{step_of, holds, cases, sample}

pub all_hold : T (every (holds step_of) cases)
unfolding cases sample standing sound reaches_top step_whole running open_entry queued_on pad pad_to
all_hold = tt
