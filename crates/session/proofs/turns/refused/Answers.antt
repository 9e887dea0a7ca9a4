use Rattle.std.proofs.Common.{ℕ, ◌≤◌, List, length, sym, ap, ◌∙◌, subst, arith}
use Rattle.calls.specs.Reading.{number_of}
use Rattle.report.specs.Lines.{line_text, longest_line}
use Rattle.rules.specs.declared.Answer.{Answer}
use Rattle.rules.specs.Questions.{number_in}
use Rattle.rules.proofs.QuestionLaws.{unwrapped}
use Rattle.rules.specs.Whole.{refused_answer}
use Rattle.text.proofs.Puts.{put_none, same_text}
use Rattle.session.proofs.TurnLaws.{is_over, says, asks_more, ends, says_bad}
use Rattle.session.proofs.turns.refused.Goals as goal

-- more bytes may come, and a record may need them
pub returns-then-last-many : goal.returns-then-last-many
returns-then-last-many g c =
    let a = c.args in
    let said = says _ _ (asks_more g.E.Engine.ruled a.s (number_of a.error) a.many a.last a.room.now c.if-last-many.true) (put_none c.min.ensures) (omega arith) in
    record { value = said.0; out_after = said.1.0; room_len_bound = said.1.1 }

-- there are no bytes
pub returns-then-eq : goal.returns-then-eq
returns-then-eq g c =
    let a = c.args in
    let said = says _ _ (ends g.E.Engine.ruled a.s (number_of a.error) a.many a.last a.room.now c.if-last-many.false (sym (is_over a.error) ∙ sym c.eq.ensures ∙ c.if-eq.true)) (put_none c.min-then-eq.ensures) (omega arith) in
    record { value = said.0; out_after = said.1.0; room_len_bound = said.1.1 }

pub returns : goal.returns
returns g c =
    let a = c.args in
    let answer = c.refused_answer-answer.ensures ∙ (λ i. refused_answer (c.into.ensures i) ((c.unwrap_or-runs.ensures ∙ unwrapped c.running.result ∙ ap number_in c.running.ensures) i)) in
    let line = ap (λ (x : Answer). line_text a.s.step x a.room.now) answer in
    let said = says _ _ (says_bad g.E.Engine.ruled a.s (number_of a.error) a.many a.last a.room.now c.if-last-many.false (sym (is_over a.error) ∙ sym c.eq.ensures ∙ c.if-eq.false))
    (same_text line c.put_line-place.ensures.put) (subst (λ (t : List ℕ). length t ≤ longest_line) line c.put_line-place.ensures.room_len_bound) in
    record { value = said.0; out_after = said.1.0; room_len_bound = said.1.1 }
