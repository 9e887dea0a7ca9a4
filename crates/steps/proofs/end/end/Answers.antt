use Rattle.std.proofs.Common.{◌≡◌, ℕ, List, length, [], ◌∷◌, refl, ap, ◌∙◌}
use Rattle.lists.specs.Line.{line, pad}
use Rattle.lists.specs.Lists.{last, filter}
use Rattle.rules.specs.State.{entry_of, place_of, held_by}
use Rattle.rules.specs.Step.{item, DONE, SERVED}
use Rattle.rules.specs.declared.Core.{Core}
use Rattle.table.specs.Moved.{passes_of}
use Rattle.rules.specs.Whole.{view_core}
use Rattle.table.specs.declared.queues.Test.TheVariants.{HeldBy}
use Rattle.steps.proofs.MoveLaws.{long_held, picked_line}
use Rattle.steps.proofs.AnswerLaws.{by_outcome, by_ended, runner, unrun}
use Rattle.steps.proofs.EndLaws.{end_idle, end_runs, end_none, end_one, held_last, parted_answers}
use Rattle.steps.proofs.end.end.Goals as goal

-- the one that was picked is the last of those that t holds
last-here : (s : Core) (t k : ℕ) (l : List ℕ) → length s.held ≡ 31 → k ≡ last (line l) → l ≡ pad (filter (passes_of (view_core s) (HeldBy t)) (line s.held)) → k ≡ last (held_by (view_core s) t)
last-here s t k l long e p = e ∙ ap last (picked_line s s.held (HeldBy t) l long p)

pub returns-in_err-t : goal.returns-in_err-t
returns-in_err-t c =
    let q = end_idle (view_core c.args.s) c.in_err-t.ensures.1 in
    record { value = by_outcome q (unrun c.from_residual.result _ c.from_residual.ensures.1 (λ y e. e) c.in_err-t.ensures.0); room = by_ended _ _ q refl }

pub returns-then-k-eq0 : goal.returns-then-k-eq0
returns-then-k-eq0 c =
    let s = c.args.s in
    let v = view_core s in
    let t = c.in_ok-t.t in
    let held = last-here s t c.last_of-k.result c.picked-l.result (long_held s c.requires.0) c.last_of-k.ensures c.picked-l.ensures in
    let q = end_runs v t c.in_ok-t.ensures.0 c.in_ok-t.ensures.1 ∙ end_none v t c.last_of-k.result held c.if-k-eq0.true in
    record { value = by_outcome q refl; room = by_ended _ _ q refl }

-- the caller held last is served
pub returns : goal.returns
returns c =
    let s = c.args.s in
    let v = view_core s in
    let t = c.in_ok-t.t in
    let k = c.last_of-k.result in
    let h = c.requires.0 in
    let held = last-here s t k c.picked-l.result (long_held s h) c.last_of-k.ensures c.picked-l.ensures in
    let q = end_runs v t c.in_ok-t.ensures.0 c.in_ok-t.ensures.1 ∙ end_one v t k held c.if-k-eq0.false in
    record {
      value = by_outcome q
          (parted_answers s c.parted-n.result t k (item t DONE 0 0) (item k SERVED (entry_of (place_of v k)) t ∷ []) h (runner s t h c.in_ok-t.ensures.0 c.in_ok-t.ensures.1) (held_last v t k held c.if-k-eq0.false) c.answered.ensures c.parted-n.ensures);
      room = by_ended _ _ q (rw (c.into.ensures, c.entry_of.ensures, c.task_of-x.ensures) at c.put.ensures);
    }
