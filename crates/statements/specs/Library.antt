-- The library is the supervisor: uses of `card_step`, over bytes that `card_empty` made, are a run of statement 3, so all that is said of `step`
-- there holds of the library.
-- Assumes nothing.
use Rattle.std.specs.Prelude.{ℕ, ◌≤◌, ◌<◌, ◌≡◌, List, [], ◌∷◌, ◌++◌, length, drop, Result, Ok, Err}
use Rattle.lists.specs.Lists.{bit}
use Rattle.calls.specs.Record.{byte}
use Rattle.calls.specs.Reading.{read_of}
use Rattle.calls.specs.declared.Record.{Record}
use Rattle.calls.specs.declared.ReadError.{ReadError}
use Rattle.rules.specs.Step.{room_after}
use Rattle.rules.specs.Whole.{Whole, sound_whole, answer_of}
use Rattle.rules.specs.Questions.{refusal_in, number_in, yes_in, count_whole, callable_whole, running_whole, priority_whole}
use Rattle.rules.specs.Runs.{start}
use Rattle.rules.specs.Uses.{Use}
use Rattle.rules.specs.declared.Answer.{Answer}
use Rattle.codec.specs.Layout.{state_size, encode, state_in, stored}
use Rattle.card.specs.Answers.{card_step, state_after, answer_bytes, if_room, one_after}
use Rattle.card.proofs.card_empty.Reads as card_empty
use Rattle.card.proofs.card_sound.Reads as card_sound
use Rattle.card.proofs.card_step.Reads as of_card_step
use Rattle.card.proofs.card_count.Reads as card_count
use Rattle.card.proofs.card_callable.Reads as card_callable
use Rattle.card.proofs.card_running.Reads as card_running
use Rattle.card.proofs.card_priority.Reads as card_priority
use Rattle.statements.specs.Statement3.{Run, state_of}

-- one use of `card_step`: the bytes of the record, of the room and of the answer, as they were lent; the number returned; and the bytes of
-- the state, of the room and of the answer afterwards
pub record CardUse : Type 0 where
  pub sent : List ℕ
  pub room : List ℕ
  pub answer : List ℕ
  pub returned : ℕ
  pub left : List ℕ
  pub wrote : List ℕ
  pub told : List ℕ

-- the step that the record asks for, of a state in the bytes b
abbrev pub step_in : List ℕ → CardUse → Whole
step_in b u = card_step b u.sent (length u.room)

-- the use keeps the contract of `card_step`, with the state in the bytes b; with less than seven bytes for the answer nothing is done
pub record KeepsCard (b : List ℕ) (u : CardUse) : Type 0 where
  pub returned : u.returned ≡ if_room 7 u.answer 1 (step_in b u).refusal
  pub left : u.left ≡ if_room 7 u.answer b (state_after b (step_in b u))
  pub wrote : u.wrote ≡ if_room 7 u.answer u.room (room_after u.room (step_in b u).ended)
  pub told : u.told ≡ if_room 7 u.answer u.answer (answer_bytes (answer_of (step_in b u)) ++ drop 7 u.answer)

-- uses one after the other: each on the bytes that the one before left
abbrev pub CardChain : List ℕ → List CardUse → Type 0
CardChain b [] = Unit {0}
CardChain b (u ∷ us) = KeepsCard b u × CardChain u.left us

-- the bytes that the uses leave
abbrev pub left_by : List ℕ → List CardUse → List ℕ
left_by b [] = b
left_by b (u ∷ us) = left_by u.left us

-- the answer that stands in the first seven bytes
abbrev pub answer_in : List ℕ → Answer
answer_in b = record { refusal = byte b 0; result = byte b 1; task = byte b 2; entry = byte b 3; partner = byte b 4; ended = byte b 5; next = byte b 6 }

-- the use of `step` that a use of `card_step` is, read off its bytes; none where the record is not read as a call
abbrev pub uses_by : CardUse → Result Record ReadError → List Use
uses_by u (Ok r) = record { call = r.call; lent = u.room; gave = record { state = state_in u.left; answer = answer_in u.told }; wrote = u.wrote } ∷ []
uses_by u (Err error) = []

-- and none where the answer has no room for seven bytes
abbrev pub uses_of : CardUse → List Use
uses_of u = if_room 7 u.answer [] (uses_by u (read_of u.sent))

-- the uses of `step` that the uses of `card_step` are
abbrev pub uses_in : List CardUse → List Use
uses_in [] = []
uses_in (u ∷ us) = uses_of u ++ uses_in us

-- the uses of `card_step` over the bytes b, in which a supervisor with its clock at n was put, are a run of statement 3
pub record RunsCard (n : ℕ) (b : List ℕ) (us : List CardUse) : Type 0 where
  -- its uses of `step` are the calls of the records that were read, with their rooms and answers
  pub run : Run n
  pub uses : run.uses ≡ uses_in us
  -- the bytes of the state are the encoding of the state that this run reaches, and the bytes behind them are as they were
  pub left : left_by (stored (start n) b) us ≡ encode (state_of run) ++ drop state_size b
  -- and it is read back from them
  pub state : state_in (left_by (stored (start n) b) us) ≡ state_of run

pub record Library : Type 1 where
  -- whatever the contract of `card_step` allows is a use that keeps it (x has what the function is given, r is what it returns, y has
  -- what is lent as it is afterwards)
  pub as_card : (κs : _) (x : _) (r : _) (y : _) → of_card_step.Learnt κs x r y
      → KeepsCard x.0.now (record {
        sent = x.1.0.now;
        room = x.1.1.0.now;
        answer = x.1.1.1.0.now;
        returned = r;
        left = y.0.now;
        wrote = y.1.1.0.now;
        told = y.1.1.1.0.now;
      })
  -- whatever the contract of `card_empty` allows: with bytes enough it returns 0, and an empty supervisor with that clock stands in them
  pub card_starts : (κs : _) (x : _) (r : _) (y : _) → card_empty.Learnt κs x r y
      → state_size ≤ length x.0.now → (r ≡ 0) × (y.0.now ≡ stored (start x.1.0) x.0.now)
  -- whatever the contracts of the questions allow is what the definitions say of the state in the bytes: its number returned, its answer in one byte
  pub card_tells_sound : (κs : _) (x : _) (r : _) (y : _) → card_sound.Learnt κs x r y → r ≡ bit (sound_whole (state_in x.0.now))
  pub card_tells_count : (κs : _) (x : _) (r : _) (y : _) → card_count.Learnt κs x r y
      → (r ≡ if_room 1 x.1.1.1.0.now 1 (refusal_in (count_whole (state_in x.0.now) x.1.0 x.1.1.0)))
      × (y.1.1.1.0.now ≡ one_after x.1.1.1.0.now (number_in (count_whole (state_in x.0.now) x.1.0 x.1.1.0)))
  pub card_tells_callable : (κs : _) (x : _) (r : _) (y : _) → card_callable.Learnt κs x r y
      → (r ≡ if_room 1 x.1.1.0.now 1 (refusal_in (callable_whole (state_in x.0.now) x.1.0)))
      × (y.1.1.0.now ≡ one_after x.1.1.0.now (bit (yes_in (callable_whole (state_in x.0.now) x.1.0))))
  pub card_tells_running : (κs : _) (x : _) (r : _) (y : _) → card_running.Learnt κs x r y
      → (r ≡ if_room 1 x.1.0.now 1 (refusal_in (running_whole (state_in x.0.now))))
      × (y.1.0.now ≡ one_after x.1.0.now (number_in (running_whole (state_in x.0.now))))
  pub card_tells_priority : (κs : _) (x : _) (r : _) (y : _) → card_priority.Learnt κs x r y
      → (r ≡ if_room 1 x.1.1.0.now 1 (refusal_in (priority_whole (state_in x.0.now) x.1.0)))
      × (y.1.1.0.now ≡ one_after x.1.1.0.now (number_in (priority_whole (state_in x.0.now) x.1.0)))
  -- any sequence of uses, refused ones and records that cannot be read included
  pub card_run : (n : ℕ) → n < 4294967296 → (b : List ℕ) → state_size ≤ length b → (us : List CardUse) → CardChain (stored (start n) b) us → RunsCard n b us
  -- the number returned is the refusal of the answer
  pub card_returns : (b : List ℕ) (u : CardUse) → KeepsCard b u → 7 ≤ length u.answer → u.returned ≡ (answer_in u.told).refusal
  -- a use that is no use of `step` leaves the bytes of the state and of the room as they were
  pub card_idles : (b : List ℕ) (u : CardUse) → KeepsCard b u → uses_of u ≡ [] → (u.left ≡ b) × (u.wrote ≡ u.room)
