use Rattle.std.proofs.Common.{◌≡◌, ℕ, IfSome, rules, sym, ap, length, ◌∙◌}
use Rattle.lists.proofs.ListLaws.{mapped_long}
use Rattle.rules.specs.State.{queue}
use Rattle.rules.specs.Second.{view_second, sound_second, count_second}
use Rattle.rules.proofs.QuestionLaws.{asked_is}
use Rattle.steps.specs.Engine.{queued_in}
use Rattle.second.specs.Rows.{row_of}
use Rattle.second.proofs.RowLaws.{typed_second}
use Rattle.second.proofs.TopLaws.{queue_here}
use Rattle.second.proofs.count.Goals as goal

pub returns : goal.returns
unfolding count_second
returns c =
    let a = c.args in
    let x = a.x in
    let typed = typed_second x _ (search rules) (search (rules, mapped_long)) (search (rules, mapped_long)) (search (rules, mapped_long)) (search (rules, mapped_long)) (search (rules, mapped_long)) c.well_formed.0.1.1.1.0.1.1 in
    let got : IfSome c.then.result (λ (n : ℕ). n ≡ queued_in x.core (row_of x.rows a.t) a.t a.e) = search rules in
    asked_is (length (queue (view_second x) a.t a.e)) _ (sound_second x) c.then.result (c.then.ensures.variant ∙ c.sound.ensures) got (λ e. ap length (sym (queue_here x typed e a.t a.e))) c.ok_or.ensures.value
