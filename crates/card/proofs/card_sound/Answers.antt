use mathlib.Core.Path.{◌≡◌, sym, ap, ◌∙◌}
use mathlib.Core.Bool.{true, false}
use Rattle.lists.specs.Lists.{bit}
use Rattle.lists.proofs.ListLaws.{by_bool}
use Rattle.rules.specs.Whole.{sound_whole}
use Rattle.codec.specs.Layout.{state_in}
use Rattle.card.proofs.card_sound.Goals as goal

-- 1 for a sound state, 0 for any other
when-sound : (c : goal.After-flag) → sound_whole (state_in c.args.state.now) ≡ true → c.flag.result ≡ 1
when-sound c e = c.flag.ensures ∙ ap bit (c.sound.ensures ∙ ap sound_whole c.state_in-s.ensures ∙ e)

when-not : (c : goal.After-flag) → sound_whole (state_in c.args.state.now) ≡ false → c.flag.result ≡ 0
when-not c e = c.flag.ensures ∙ ap bit (c.sound.ensures ∙ ap sound_whole c.state_in-s.ensures ∙ e)

pub returns : goal.returns
returns c =
    let s = sound_whole (state_in c.args.state.now) in
    by_bool s (λ e. when-sound c e ∙ ap bit (sym e)) (λ e. when-not c e ∙ ap bit (sym e))
