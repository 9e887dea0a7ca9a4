use Rattle.std.proofs.Common.{◌≡◌, rules}
use mir.Syntax.{w32}
use mir.Val.{to_z, of_z}
use Rattle.script.specs.CallText.{select_mode_text, text_of}
use Rattle.script.proofs.Growing.{none_grown, then_grown}
use Rattle.script.proofs.print.with_select.Goals as goal

pub returns-in-Plain : goal.returns-in-Plain
unfolding text_of select_mode_text
returns-in-Plain c = then_grown c.with_text.ensures (then_grown c.with_open-k.ensures (rw c.in-Plain.is (none_grown c.with_open-k.result (search rules))))

pub returns-in-Delay : goal.returns-in-Delay
unfolding text_of select_mode_text
returns-in-Delay c =
    let d = c.in-Delay.d in
    let e : to_z w32 (of_z w32 d) ≡ d = search rules in
    then_grown c.with_text.ensures (then_grown c.with_open-k.ensures (rw c.in-Delay.is (rw e at c.with_time.ensures)))

pub returns-in-Else : goal.returns-in-Else
unfolding text_of select_mode_text
returns-in-Else c = then_grown c.with_text.ensures (then_grown c.with_open-k.ensures (rw c.in-Else.is c.with_text-in-Else.ensures))
