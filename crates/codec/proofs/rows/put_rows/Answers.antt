use native.Mathlib.Omega.{arith}
use borrow.Author.Rules.{rules}
use Prim.Native.Nat.{ℕ, ◌+◌, ◌≤◌}
use mathlib.Core.Path.{◌≡◌, refl, sym, ap, ◌∙◌}
use mathlib.Core.List.{List, [], ◌∷◌}
use lib.ListN.{length, get_or, drop}
use Rattle.lists.proofs.ListLaws.{mapped_long}
use Rattle.lists.proofs.Turns.{rest_cons}
use Rattle.codec.specs.Rows.{row_place, put_rows}
use Rattle.codec.proofs.CodecLaws.{put_length, placed_fits}
use Rattle.codec.proofs.RowsLaws.{put_row, put_rows_end}
use Rattle.codec.proofs.rows.put_rows.Goals as goal

pub loop-i-init : goal.loop-i-init
loop-i-init c = (c.requires, refl, refl)

pub loop-i-preserved : goal.loop-i-preserved
loop-i-preserved c =
    let l = c.loop-i in
    let rows = c.args.rows in
    let long : length rows ≡ 31 = search (rules, mapped_long) in
    let line = (get_or rows l.i (record { line = [] })).line in
    let wide : length line ≡ 31 = search rules in
    let at = row_place l.i in
    let fits : at + length line ≤ length l.room = omega arith in
    let e = c.put_at.ensures ∙ placed_fits l.room at line fits in
    let here : drop l.i rows ≡ record { line = line } ∷ drop (l.i + 1) rows = rest_cons rows l.i (record { line = [] }) (omega arith) in (
      l.invariant.0,
      ap length e ∙ put_length l.room at line fits ∙ l.invariant.1,
      ap (λ (r : List ℕ). put_rows (l.i + 1) r (drop (l.i + 1) rows)) e ∙ sym (put_row l.i (omega arith) l.room line (drop (l.i + 1) rows) (omega arith) wide) ∙ sym (ap (put_rows l.i l.room) here) ∙ l.invariant.2,
    )

pub returns : goal.returns
returns c =
    let l = c.loop-i in
    let long : length c.args.rows ≡ 31 = search (rules, mapped_long) in
    sym (put_rows_end l.i (omega arith) (omega arith) l.room c.args.rows long) ∙ l.invariant.2
