use Rattle.std.proofs.Common.{ℕ, take, drop, rules, arith}
use borrow.Author.Tests.{tests}
use Rattle.lists.proofs.FromFn.{from_fn_each}
use Rattle.codec.specs.Rows.{row_place}
use Rattle.codec.proofs.RowsLaws.{rows_each}
use Rattle.codec.proofs.rows.rows_in.Goals as goal

pub returns : goal.returns
returns c =
    let b = c.args.b.now in
    rows_each b c.from_fn.result c.from_fn.ensures.items.long
    (λ k d h. from_fn_each _ _ (λ (i : ℕ). record { line = take 31 (drop (row_place i) b) }) c.from_fn.result (λ i y q z. search (rules, tests)) 31 0 c.from_fn.ensures.items.each k d (omega arith) (omega arith))
