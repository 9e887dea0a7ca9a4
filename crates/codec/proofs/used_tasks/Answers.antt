use Rattle.std.proofs.Common.{◌≡◌, ℕ, ◌+◌, ◌*◌, true, false, sym, ap, ◌∙◌, arith}
use Rattle.lists.specs.Line.{blanks}
use Rattle.codec.specs.Layout.{task_size}
use Rattle.codec.specs.Used.{table_from}
use Rattle.codec.proofs.UsedLaws.{used_short, used_over, used_tested}
use Rattle.codec.proofs.used_tasks.Goals as goal

pub returns-then-b-lt-STATE_SIZE : goal.returns-then-b-lt-STATE_SIZE
returns-then-b-lt-STATE_SIZE c = used_short c.args.b.now c.if-b-lt-STATE_SIZE.true

pub returns-then-n-gt31 : goal.returns-then-n-gt31
returns-then-n-gt31 c = used_over c.args.b.now c.if-b-lt-STATE_SIZE.false (omega arith)

pub returns-then-are_zero : goal.returns-then-are_zero
returns-then-are_zero c =
    let b = c.args.b.now in
    let zero : blanks (table_from b (5 + c.from-n.result * task_size)) ≡ true = sym c.are_zero.ensures ∙ c.if-are_zero.true in
    c.from-n.ensures ∙ used_tested b true c.if-b-lt-STATE_SIZE.false (omega arith) (ap (λ (n : ℕ). blanks (table_from b (5 + n * task_size))) (sym c.from-n.ensures) ∙ zero)

pub returns-else-are_zero : goal.returns-else-are_zero
returns-else-are_zero c =
    let b = c.args.b.now in
    let zero : blanks (table_from b (5 + c.from-n.result * task_size)) ≡ false = sym c.are_zero.ensures ∙ c.if-are_zero.false in
    used_tested b false c.if-b-lt-STATE_SIZE.false (omega arith) (ap (λ (n : ℕ). blanks (table_from b (5 + n * task_size))) (sym c.from-n.ensures) ∙ zero)
