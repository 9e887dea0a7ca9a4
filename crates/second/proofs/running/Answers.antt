use Rattle.std.proofs.Common.{◌≡◌, ℕ, IfSome, rules, sym, ◌∙◌}
use Rattle.rules.specs.State.{running}
use Rattle.rules.specs.Second.{gathered, view_second, sound_second, running_second}
use Rattle.rules.specs.Whole.{view_core}
use Rattle.rules.proofs.Apart.{running_core}
use Rattle.rules.proofs.QuestionLaws.{asked_is}
use Rattle.second.proofs.running.Goals as goal

pub returns : goal.returns
unfolding running_second
returns c =
    let x = c.args.x in
    let got : IfSome c.then.result (λ (n : ℕ). n ≡ running (view_core x.core)) = search rules in
    asked_is (running (view_second x)) _ (sound_second x) c.then.result (c.then.ensures.variant ∙ c.sound.ensures) got (λ e. sym (running_core (view_core x.core) (gathered x.rows))) c.ok_or.ensures.value
