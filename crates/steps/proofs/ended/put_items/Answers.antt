use Rattle.std.proofs.Common.{◌≡◌, ℕ, ◌+◌, ◌-◌, ◌*◌, length, drop, sym, subst, get_or, refl, ap, ◌∙◌, arith, length-drop, length-take, rules}
use borrow.Rule.Slice.PartMut.{put_mid}
use Rattle.lists.specs.Line.{line}
use Rattle.lists.proofs.Turns.{rest_blank, rest_entry, rest_end}
use Rattle.lists.proofs.ListLaws.{mapped_long}
use Rattle.rules.specs.Whole.{view_core}
use Rattle.rules.specs.declared.Task.{Task}
use Rattle.table.proofs.LeafLaws.{shown_at}
use Rattle.steps.specs.Taken.{item_at, item_of}
use Rattle.steps.proofs.RoomLaws.{Going, going_start, going_on, going_end}
use Rattle.steps.proofs.ended.put_items.Goals as goal

pub loop-t-init : goal.loop-t-init
loop-t-init c = let a = c.args in (refl, c.requires, going_start (view_core a.s) a.failed _ a.room.now, search (rules, mapped_long))

pub shape_of-room-then-t-eq0 : goal.shape_of-room-then-t-eq0
shape_of-room-then-t-eq0 c = c.loop-t.invariant.2.long

pub returns-then-t-eq0 : goal.returns-then-t-eq0
returns-then-t-eq0 c =
    let l = c.loop-t in
    let e = going_end _ _ _ _ l.room l.t-index _ l.invariant.2 (rest_blank c.args.l l.t-index (search rules) c.if-t-eq0.true) in
    record { value = l.invariant.0 ∙ e.0; room = e.1 }

pub put-requires : goal.put-requires
put-requires c =
    let l = c.loop-t in
    let n = l.invariant.2.number in
    let g = l.invariant.2.long in
    let d = c.from-from.ensures in
    let m = l.invariant.0 in
    let z = ap length (rest_entry c.args.l l.t-index (search rules) c.if-t-eq0.false) in
    simp (length-take, length-drop) (omega arith)

pub loop-t-preserved : goal.loop-t-preserved
loop-t-preserved c =
    let a = c.args in
    let l = c.loop-t in
    let i = c.from-from.result in
    let t = get_or a.l l.t-index 0 in
    let v = view_core a.s in
    let d : l.t-index ≡ c.from-from.result = sym (c.from-from.ensures ∙ l.invariant.0) in
    -- the item that is written is that of the task at this place
    let item : c.item_of-w.result ≡ item_of (view_core a.s) a.failed t =
    c.item_of-w.ensures ∙ ap (λ (x : Task). item_at a.failed t x.place) (shown_at a.s t _ _ l.invariant.3 c.index_of-at.ensures.0 refl) in
    let g = subst (λ (k : ℕ). Going v a.failed (line a.l) a.room.now l.room k (line (drop l.t-index a.l))) d l.invariant.2 in
    let on = going_on v a.failed (line a.l) a.room.now l.room c.put.new.room i _ _ _ c.item_of-w.result g (rest_entry a.l l.t-index (search rules) c.if-t-eq0.false) item c.put.ensures l.invariant.1 in (
      ap (λ (k : ℕ). k + 1) l.invariant.0,
      l.invariant.1,
      subst (λ (k : ℕ). Going v a.failed (line a.l) a.room.now (put_mid (i * 4) (length l.room - i * 4) l.room c.put.new.room) (k + 1) (line (drop (l.t-index + 1) a.l))) (sym d) on,
      l.invariant.3,
    )

pub shape_of-room : goal.shape_of-room
shape_of-room c = c.loop-t.invariant.2.long

pub returns : goal.returns
returns c =
    let l = c.loop-t in
    let a = c.args in
    let k : length a.l ≡ 31 = search rules in
    let e = going_end _ _ _ _ l.room l.t-index _ l.invariant.2 (rest_end a.l l.t-index (omega arith)) in
    record { value = l.invariant.0 ∙ e.0; room = e.1 }
