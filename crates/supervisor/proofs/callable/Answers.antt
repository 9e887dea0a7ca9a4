use Rattle.std.proofs.Common.{◌≡◌, Bool, IfSome, rules, not, ◌&&◌, length, ◌∙◌}
use Rattle.lists.proofs.ListLaws.{mapped_long}
use Rattle.rules.specs.State.{is_task, place_of, is_completed}
use Rattle.rules.specs.Questions.{callable_whole}
use Rattle.rules.specs.Whole.{view, sound_whole}
use Rattle.rules.proofs.QuestionLaws.{asked_is}
use Rattle.steps.specs.Engine.{callable_in}
use Rattle.supervisor.proofs.TopLaws.{callable_is}
use Rattle.supervisor.proofs.callable.Goals as goal

pub returns : goal.returns
unfolding callable_whole
returns c =
    let a = c.args in
    let s = a.s in
    let k : length s.core.tasks ≡ 31 = search (rules, mapped_long) in
    let got : IfSome c.then.result (λ (b : Bool). b ≡ callable_in s.core a.t) = search rules in
    asked_is (is_task (view s) a.t && not (is_completed (place_of (view s) a.t))) _ (sound_whole s) c.then.result (c.then.ensures.variant ∙ c.sound.ensures) got (λ e. callable_is s a.t e k) c.ok_or.ensures.value
