use Rattle.std.proofs.Common.{◌≡◌, ℕ, IfSome, rules, refl, length, ◌∙◌}
use Rattle.rules.specs.State.{queue}
use Rattle.rules.specs.Questions.{count_whole}
use Rattle.rules.specs.Whole.{view, sound_whole}
use Rattle.rules.proofs.QuestionLaws.{asked_is}
use Rattle.steps.specs.Engine.{queued_in}
use Rattle.supervisor.proofs.count.Goals as goal

pub returns : goal.returns
unfolding count_whole
returns c =
    let a = c.args in
    let s = a.s in
    let got : IfSome c.then.result (λ (n : ℕ). n ≡ queued_in s.core s.callers a.t a.e) = search rules in
    asked_is (length (queue (view s) a.t a.e)) _ (sound_whole s) c.then.result (c.then.ensures.variant ∙ c.sound.ensures) got (λ e. refl) c.ok_or.ensures.value
