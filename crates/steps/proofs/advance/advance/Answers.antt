use Rattle.std.proofs.Common.{◌≡◌, ℕ, sym, ap, ◌∙◌}
use Rattle.rules.specs.Advance.{changes, due_moments}
use Rattle.calls.specs.declared.Call.TheVariants.{Advance}
use Rattle.rules.specs.Callers.{core_of}
use Rattle.rules.specs.Step.{take_call}
use Rattle.rules.specs.Whole.{view_core}
use Rattle.table.specs.Moved.{left_of}
use Rattle.steps.specs.Taken.{passing}
use Rattle.steps.proofs.AnswerLaws.{by_core, by_core_ended}
use Rattle.steps.proofs.AdvanceLaws.{within_line, advance_core}
use Rattle.steps.proofs.advance.advance.Goals as goal

pub returns : goal.returns
returns c =
    let a = c.args in
    let v = view_core a.s in
    let h = c.requires.0 in
    -- the readings at which a wait ends
    let m : c.moments_of-moments.result ≡ due_moments v a.n =
    c.moments_of-moments.ensures ∙ ap (changes (left_of a.s) 0) (within_line a.s a.n c.due_within-l.result h c.due_within-l.ensures) in
    let o = take_call v (Advance a.n) in
    let q = passing v a.n c.moments_of-moments.result in
    let e = advance_core v a.n h.callers h.sound ∙ ap (λ (e : ℕ). core_of (passing v a.n e)) (sym m) in
    record { value = by_core o q e c.passed.ensures.value; room = by_core_ended o q _ _ e c.passed.ensures.room }
