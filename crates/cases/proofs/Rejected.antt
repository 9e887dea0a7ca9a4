-- The table rejects each of these supervisors, by working its rows out.
-- Assumes nothing.
use lib.Dec.{T}
use Rattle.lists.specs.Line.{pad, pad_to}
use Rattle.rules.specs.State.{running}
use Rattle.rules.specs.Sound.{standing, sound}
use Rattle.rules.specs.Tree.{reaches_top}
use Rattle.rules.specs.Step.{open_entry, queued_on}
use Rattle.rules.specs.Whole.{step_whole}
use Rattle.cases.specs.Cases.{cases, sample}
use Rattle.cases.specs.Rejects.{rejected, refuses_all, answers_alike, untouched, idles_later, exchanges_ended, never_looks}

pub refuses_all_lem : T (rejected refuses_all)
unfolding cases sample running standing sound reaches_top step_whole open_entry queued_on pad pad_to
refuses_all_lem = tt

pub answers_alike_lem : T (rejected answers_alike)
unfolding cases sample running standing sound reaches_top step_whole open_entry queued_on pad pad_to
answers_alike_lem = tt

pub state_untouched : T (rejected untouched)
unfolding cases sample running standing sound reaches_top step_whole open_entry queued_on pad pad_to
state_untouched = tt

pub idles_later_lem : T (rejected idles_later)
unfolding cases sample running standing sound reaches_top step_whole open_entry queued_on pad pad_to
idles_later_lem = tt

pub exchanges_ended_lem : T (rejected exchanges_ended)
unfolding cases sample running standing sound reaches_top step_whole open_entry queued_on pad pad_to
exchanges_ended_lem = tt

pub never_looks_lem : T (rejected never_looks)
unfolding cases sample running standing sound reaches_top step_whole open_entry queued_on pad pad_to
never_looks_lem = tt
