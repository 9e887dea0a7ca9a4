use mathlib.Core.Path.{◌≡◌, sym, ap, ◌∙◌}
use lib.ListN.{get_or}
use borrow.Author.Rules.{rules}
use Rattle.lists.specs.Lists.{first}
use Rattle.lists.proofs.ListLaws.{by_eq}
use Rattle.lists.proofs.Parts.{need, When}
use Rattle.lists.proofs.Turns.{rest_blank, rest_entry}
use Rattle.lines.proofs.first_of.Tie as tie
use Rattle.lines.proofs.first_of.Goals as goal

-- a blank at the front: nobody stands in the line
none : When (need tie.Need-returns) (λ c. get_or c.args.a 0 0 ≡ 0)
none c e = e ∙ sym (ap first (rest_blank c.args.a 0 (search rules) e))

-- a number at the front: the first of the line
some : When (need tie.Need-returns) (λ c. get_or c.args.a 0 0 ≡ 0 → ⊥)
some c n = sym (ap first (rest_entry c.args.a 0 (search rules) n))

pub returns : goal.returns
returns c = by_eq (get_or c.args.a 0 0) 0 (none c) (some c)
