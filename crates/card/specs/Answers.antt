-- What the functions of the card answer, and what they leave in lent bytes.
use Rattle.std.specs.Prelude.{ℕ, List, [], ◌∷◌, length, drop, eqb, ltb, Result, Ok, Err}
use Rattle.lists.specs.Lists.{when◌then◌else◌}
use Rattle.calls.specs.Reading.{read_of, number_of}
use Rattle.calls.specs.declared.Call as C
use Rattle.calls.specs.declared.Record.{Record}
use Rattle.calls.specs.declared.ReadError.{ReadError}
use Rattle.rules.specs.Step.{none}
use Rattle.rules.specs.Second.{step_second}
use Rattle.rules.specs.Whole.{StepOf, Whole, step_whole}
use Rattle.rules.specs.declared.Answer.{Answer}
use Rattle.rules.specs.declared.Second.{Second}
use Rattle.codec.specs.Layout.{state_in, stored}
use Rattle.codec.specs.Rows.{second_in, stored_second}

-- ── the step, of either engine ──

-- a record that cannot be read: no step is made, and every number but the refusal is 0
abbrev pub unread : {S : Type 0} → S → ℕ → StepOf S
unread s n = record { refusal = n; answer = none; ended = []; next = 0; state = s }

-- the step of the call that was read, with a room of so many bytes
abbrev pub step_by : {S : Type 0} → (S → C.Call → ℕ → StepOf S) → S → ℕ → Result Record ReadError → StepOf S
step_by step s room (Ok r) = step s r.call room
step_by step s room (Err error) = unread s (number_of error)

-- the step of lent bytes by a record: of the first engine, and of the second
unfoldable pub card_step : List ℕ → List ℕ → ℕ → Whole
card_step state rec room = step_by step_whole (state_in state) room (read_of rec)

unfoldable pub second_step : List ℕ → List ℕ → ℕ → StepOf Second
second_step state rec room = step_by step_second (second_in state) room (read_of rec)

-- the lent state after a step: every refusal leaves it untouched
abbrev pub after_by : {S : Type 0} → (S → List ℕ → List ℕ) → List ℕ → StepOf S → List ℕ
after_by put state w = when eqb w.refusal 0 then put w.state state else state

abbrev pub state_after : List ℕ → Whole → List ℕ
state_after state w = after_by stored state w

abbrev pub second_after : List ℕ → StepOf Second → List ℕ
second_after state w = after_by stored_second state w

-- ── answers in lent bytes ──

-- the seven bytes of an answer
abbrev pub answer_bytes : Answer → List ℕ
answer_bytes a = a.refusal ∷ a.result ∷ a.task ∷ a.entry ∷ a.partner ∷ a.ended ∷ a.next ∷ []

-- what is done only where the answer has room for n bytes
abbrev pub if_room : {A : Type 0} → ℕ → List ℕ → A → A → A
if_room n answer short long = when ltb (length answer) n then short else long

-- a question's byte at the start of the answer
abbrev pub one_after : List ℕ → ℕ → List ℕ
one_after answer value = if_room 1 answer answer (value ∷ drop 1 answer)
