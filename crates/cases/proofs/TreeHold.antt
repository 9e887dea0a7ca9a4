-- The tables of the tree of held callers hold: two computations.
-- Assumes nothing.
use lib.Dec.{T}
use Rattle.lists.specs.Line.{pad, pad_to}
use Rattle.lists.specs.Lists.{every}
use Rattle.rules.specs.State.{running}
use Rattle.rules.specs.Sound.{standing, sound}
use Rattle.rules.specs.Tree.{highest_of, reaches_top}
use Rattle.rules.specs.Step.{open_entry, queued_on}
use Rattle.rules.specs.Whole.{step_whole}
use Rattle.rules.specs.Questions.{priority_whole}
use Rattle.cases.specs.TreeCases.{longest, asked, answers, structs, told}

pub all_answered : T (every answers asked)
unfolding asked longest priority_whole standing sound highest_of reaches_top step_whole running open_entry queued_on pad pad_to
all_answered = tt

pub all_told : T (every told structs)
unfolding structs priority_whole standing sound highest_of reaches_top step_whole running open_entry queued_on pad pad_to
all_told = tt
