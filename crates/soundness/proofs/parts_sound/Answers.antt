use Rattle.std.proofs.Common.{Option, sym, ap, ◌∙◌, rules}
use Rattle.lists.proofs.ListLaws.{mapped_long}
use Rattle.soundness.specs.Check.{holds_in}
use Rattle.soundness.specs.Marks.{Marks, if_any}
use Rattle.soundness.proofs.WholeLaws.{sound_is}
use Rattle.soundness.proofs.parts_sound.Goals as goal

pub returns-in-Some : goal.returns-in-Some
returns-in-Some c =
    c.holds.ensures ∙ ap (λ (k : Option Marks). if_any k (λ w. holds_in w c.args.callers)) (sym c.in-Some.is ∙ c.core_check.ensures)
    ∙ sound_is (record { core = c.args.core; callers = c.args.callers }) (search rules) (search (rules, mapped_long))

pub returns-in-None : goal.returns-in-None
returns-in-None c =
    ap (λ (k : Option Marks). if_any k (λ w. holds_in w c.args.callers)) (sym c.in-None.is ∙ c.core_check.ensures)
    ∙ sound_is (record { core = c.args.core; callers = c.args.callers }) (search rules) (search (rules, mapped_long))
