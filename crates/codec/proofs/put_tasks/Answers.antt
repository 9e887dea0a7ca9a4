use native.Mathlib.Omega.{arith}
use borrow.Author.Rules.{rules}
use Prim.Native.Nat.{◌+◌, ◌*◌, ◌≤◌, ◌<◌, ℕ}
use mathlib.Core.Path.{◌≡◌, refl, sym, ap, ◌∙◌}
use mathlib.Core.List.{List}
use lib.ListN.{length, get_or, drop}
use Rattle.lists.proofs.ListLaws.{mapped_long}
use Rattle.lists.proofs.Turns.{rest_cons}
use Rattle.rules.specs.State.{blank}
use Rattle.codec.specs.Layout.{task_size, task_bytes, tasks_bytes, put_at, placed_at}
use Rattle.codec.proofs.CodecLaws.{put_turn, put_end, put_length, placed_fits}
use Rattle.codec.proofs.put_tasks.Goals as goal

pub loop-i-init : goal.loop-i-init
loop-i-init c = (c.requires, refl, refl)

pub loop-i-preserved : goal.loop-i-preserved
loop-i-preserved c =
    let l = c.loop-i in
    let tasks = c.args.tasks in
    let long : length tasks ≡ 31 = search (rules, mapped_long) in
    let more : l.i < length tasks = omega arith in
    let x = get_or tasks l.i blank in
    let at = 5 + l.i * task_size in
    let fits : at + length (task_bytes x) ≤ length l.room = omega arith in
    let e = c.put_at.ensures ∙ ap (λ (x : List ℕ). placed_at l.room at x) c.task_bytes.ensures ∙ placed_fits l.room at (task_bytes x) fits in
    let t = put_turn l.i (omega arith) l.room tasks x (omega arith) (rest_cons tasks l.i blank more) in (
      l.invariant.0,
      ap length e ∙ put_length l.room at (task_bytes x) fits ∙ l.invariant.1,
      ap (λ (r : List ℕ). put_at r (5 + (l.i + 1) * task_size) (tasks_bytes (drop (l.i + 1) tasks))) e ∙ sym t ∙ l.invariant.2,
    )

pub returns : goal.returns
returns c =
    let l = c.loop-i in
    let long : length c.args.tasks ≡ 31 = search (rules, mapped_long) in
    sym (put_end l.room c.args.tasks l.i (omega arith) long) ∙ l.invariant.2
