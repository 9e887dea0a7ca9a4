use mir.Syntax.{w32}
use mir.Val.{to_z, of_z}
use Rattle.std.proofs.Common.{◌≡◌, rules}
use Rattle.script.specs.CallText.{text_of}
use Rattle.script.proofs.Growing.{then_grown}
use Rattle.script.proofs.print.with_call.Goals as goal

pub returns-in-Create-clause-grown : goal.returns-in-Create-clause-grown
unfolding text_of
returns-in-Create-clause-grown c = rw c.in-Create.is c.with_pair.ensures

pub returns-in-Delay-clause-grown : goal.returns-in-Delay-clause-grown
unfolding text_of
returns-in-Delay-clause-grown c =
    let d = c.in-Delay.d in
    let e : to_z w32 (of_z w32 d) ≡ d = search rules in
    rw c.in-Delay.is (rw e at c.with_time.ensures)

pub returns-in-End-clause-grown : goal.returns-in-End-clause-grown
unfolding text_of
returns-in-End-clause-grown c = rw c.in-End.is c.with_text.ensures

pub returns-in-Finish-clause-grown : goal.returns-in-Finish-clause-grown
unfolding text_of
returns-in-Finish-clause-grown c = rw c.in-Finish.is c.with_text-in-Finish.ensures

pub returns-in-Tick-clause-grown : goal.returns-in-Tick-clause-grown
unfolding text_of
returns-in-Tick-clause-grown c = rw c.in-Tick.is c.with_text-in-Tick.ensures

pub returns-in-Advance-clause-grown : goal.returns-in-Advance-clause-grown
unfolding text_of
returns-in-Advance-clause-grown c = rw c.in-Advance.is (then_grown c.with_text-in-Advance.ensures (rw c.from.ensures at c.with_spaced.ensures))
