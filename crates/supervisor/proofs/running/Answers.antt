use Rattle.std.proofs.Common.{◌≡◌, ℕ, IfSome, rules, sym, ◌∙◌}
use Rattle.lists.specs.Line.{line}
use Rattle.rules.specs.State.{running}
use Rattle.rules.specs.Questions.{running_whole}
use Rattle.rules.specs.Whole.{view_core, view, sound_whole}
use Rattle.rules.proofs.Apart.{running_core}
use Rattle.rules.proofs.QuestionLaws.{asked_is}
use Rattle.supervisor.proofs.running.Goals as goal

pub returns : goal.returns
unfolding running_whole
returns c =
    let s = c.args.s in
    let got : IfSome c.then.result (λ (n : ℕ). n ≡ running (view_core s.core)) = search rules in
    asked_is (running (view s)) _ (sound_whole s) c.then.result (c.then.ensures.variant ∙ c.sound.ensures) got (λ e. sym (running_core (view_core s.core) (line s.callers))) c.ok_or.ensures.value
