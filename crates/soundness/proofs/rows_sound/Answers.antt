use Rattle.std.proofs.Common.{false, Option, sym, ap, ◌∙◌, rules}
use Rattle.lists.proofs.ListLaws.{mapped_long}
use Rattle.soundness.specs.Marks.{Marks, next_mark, if_any}
use Rattle.soundness.specs.Rows.{met_all}
use Rattle.soundness.proofs.RowLaws.{second_is, second_none}
use Rattle.soundness.proofs.rows_sound.Goals as goal

pub returns-in-Some : goal.returns-in-Some
returns-in-Some c =
    let T = c.targets_of.result in
    c.rows_hold.ensures ∙ ap (λ (k : Option Marks). if_any k (λ w. met_all T 1 (next_mark w false) c.args.rows)) (sym c.in-Some.is ∙ c.core_check.ensures)
    ∙ second_is (record { core = c.args.core; rows = c.args.rows }) T (search rules) (search (rules, mapped_long)) (search rules) c.targets_of.ensures

pub returns-in-None : goal.returns-in-None
returns-in-None c = second_none (record { core = c.args.core; rows = c.args.rows }) (search rules) (search (rules, mapped_long)) (sym c.core_check.ensures ∙ c.in-None.is)
