use Rattle.std.proofs.Common.{◌≡◌, Bool, IfSome, rules, not, ◌&&◌, ◌∙◌}
use Rattle.lists.proofs.ListLaws.{mapped_long}
use Rattle.rules.specs.State.{is_task, place_of, is_completed}
use Rattle.rules.specs.Second.{view_second, sound_second, callable_second}
use Rattle.rules.proofs.QuestionLaws.{asked_is}
use Rattle.steps.specs.Engine.{callable_in}
use Rattle.second.proofs.RowLaws.{typed_second}
use Rattle.second.proofs.TopLaws.{callable_is}
use Rattle.second.proofs.callable.Goals as goal

pub returns : goal.returns
unfolding callable_second
returns c =
    let x = c.args.x in
    let t = c.args.t in
    let typed = typed_second x _ (search rules) (search (rules, mapped_long)) (search (rules, mapped_long)) (search (rules, mapped_long)) (search (rules, mapped_long)) (search (rules, mapped_long)) c.well_formed.0.1.1.1.0.1.1 in
    let got : IfSome c.then.result (λ (b : Bool). b ≡ callable_in x.core t) = search rules in
    asked_is (is_task (view_second x) t && not (is_completed (place_of (view_second x) t))) _ (sound_second x) c.then.result (c.then.ensures.variant ∙ c.sound.ensures) got (λ e. callable_is x t typed e) c.ok_or.ensures.value
