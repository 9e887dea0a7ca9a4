use borrow.Author.Rules.{rules}
use mathlib.Core.Path.{◌≡◌, ap, ◌∙◌}
use mathlib.Core.List.{List, ◌∷◌}
use Prim.Native.Nat.{ℕ}
use Rattle.lists.specs.Line.{line, pad}
use Rattle.lists.specs.Lists.{remove}
use Rattle.lists.proofs.LineLaws.{left_over}
use Rattle.lines.proofs.to_head.Lts as lts
use Rattle.lines.proofs.to_head.Reads as reads
use Rattle.lines.proofs.to_head.Tie as tie
use Rattle.lines.proofs.to_head.Goals as goal

-- behind t come the others
rest-here : (c : (lts.After-without tie.the-claims reads.Pre reads.Post)) → line c.without-rest.result ≡ remove c.args.t (line c.args.a)
rest-here c = left_over c.args.a c.args.t c.without-rest.result (search rules) c.without-rest.ensures

-- and t is in front
front-here : (c : goal.After-in_front) → c.in_front.result ≡ pad (c.args.t ∷ line c.without-rest.result)
front-here c = c.in_front.ensures

pub returns : goal.returns
returns c = front-here c ∙ ap (λ (l : List ℕ). pad (c.args.t ∷ l)) (rest-here c.before)
