use Rattle.std.proofs.Common.{◌≡◌, ◌∙◌, ◌-◌, take, drop, arith}
use Rattle.std.proofs.lemmas.Grind.{common_steps}
use Rattle.lists.proofs.Parts.{need}
use Rattle.text.specs.Text.{decimal, Put}
use Rattle.text.proofs.Places.{At}
use Rattle.text.proofs.Puts.{same_text}
use Rattle.text.proofs.put_number.Goals as goal

-- the bytes that are put are the number's digits
digits-here : At (need goal.returns) (λ c. take (20 - c.digits-from.result) (drop c.digits-from.result c.digits-from.new.row) ≡ decimal c.args.n)
digits-here c =
    let from = c.digits-from.result in
    let row = c.digits-from.new.row in
    let all : take (20 - from) (drop from row) ≡ drop from row = grind (arith, common_steps) in
    all ∙ c.digits-from.ensures.value

-- they are put at the place
put-here : At (need goal.returns)
    (λ c. Put c.args.out.now c.args.at (take (20 - c.digits-from.result) (drop c.digits-from.result c.digits-from.new.row)) c.put_bytes.new.out c.put_bytes.result)
put-here c = c.put_bytes.ensures

pub returns : goal.returns
returns c = same_text (digits-here c) (put-here c)
