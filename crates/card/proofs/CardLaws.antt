-- What the functions of the card owe, over plain values. Assumes nothing.
use Prim.Native.Nat.{ℕ, ◌<◌, ◌≤◌}
use mathlib.Core.Path.{◌≡◌, refl, sym, ap, ◌∙◌}
use mathlib.Core.Bool.{Bool, true, false, ◌&&◌}
use mathlib.Core.List.{List, [], ◌∷◌, ◌++◌}
use native.Mathlib.Omega.{arith}
use Rattle.std.specs.Prelude.{Result}
use borrow.Author.Tests.{lt-ltb, le-ltb, eq-eqb, ne_eqb}
use lib.ListN.{length, drop, set}
use lib.Dec.{eqb}
use Rattle.lists.specs.Line.{tidy}
use Rattle.lists.proofs.LineLaws.{length_filter}
use Rattle.calls.specs.Reading.{read_of, number_of}
use Rattle.calls.specs.declared.Record.{Record}
use Rattle.calls.specs.declared.ReadError.{ReadError}
use Rattle.calls.specs.declared.ReadError.TheVariants.{BadRecord, EndOfLog}
use Rattle.rules.specs.Questions.{number_in, count_by, count_whole}
use Rattle.rules.specs.Second.{view_second, rows_right, sound_second, step_second, count_second}
use Rattle.rules.specs.Sound.{sound}
use Rattle.rules.specs.State.{State, waits_on}
use Rattle.rules.specs.Step.{room_after}
use Rattle.rules.specs.Whole.{view_core, view, packed_core, sound_whole, StepOf, step_whole, answer_of, refused_answer}
use Rattle.rules.specs.declared.Answer.{Answer}
use Rattle.rules.specs.declared.BadState.{BadState}
use Rattle.rules.specs.declared.Second.{Second}
use Rattle.rules.specs.declared.Supervisor.{Supervisor}
use Rattle.rules.proofs.SoundTest.{sound_props}
use Rattle.rules.proofs.WholeLaws.{callers_fit}
use Rattle.codec.specs.Layout.{state_in}
use Rattle.codec.specs.Rows.{second_in}
use Rattle.lists.proofs.Tests.{and_second, if-true, if-false}
use Rattle.card.specs.Answers.{unread, step_by, card_step, second_step, after_by, answer_bytes, if_room}

-- the first byte of lent bytes is set
pub one_set : (l : List ℕ) (v : ℕ) → 1 ≤ length l → set l 0 v ≡ v ∷ drop 1 l
one_set [] v h = absurd (omega arith)
one_set (x ∷ l) v h = refl

-- a queue's length is a byte
count_small : (is_sound : Bool) (v : State) (k : Result ℕ BadState) (t e : ℕ) → v.clock < 4294967296 → (is_sound ≡ true → sound v ≡ true) → k ≡ count_by is_sound v t e → number_in k < 256
count_small true v k t e n h q = rw q (omega (arith, length_filter (waits_on v t e) v.callers, callers_fit v (sound_props v n (h refl))))
count_small false v k t e n h q = rw q (omega arith)

pub whole_small : (s : Supervisor) (k : Result ℕ BadState) (t e : ℕ) → s.core.clock < 4294967296 → k ≡ count_whole s t e → number_in k < 256
unfolding count_whole
whole_small s k t e n q = count_small (sound_whole s) (view s) k t e n (and_second (packed_core s.core && tidy s.callers) (sound (view s))) q

pub second_small : (x : Second) (k : Result ℕ BadState) (t e : ℕ) → x.core.clock < 4294967296 → k ≡ count_second x t e → number_in k < 256
unfolding count_second
second_small x k t e n q = count_small (sound_second x) (view_second x) k t e n (and_second (packed_core x.core && rows_right (view_core x.core) 1 x.rows) (sound (view_second x))) q

-- what a step on lent bytes owes, of an engine whose states are put there by `put`
abbrev pub Did : {S : Type 0} → (S → List ℕ → List ℕ) → List ℕ → List ℕ → StepOf S → Answer → List ℕ → List ℕ → Type 0
Did put b room w a b' room' = (a ≡ answer_of w) × ((b' ≡ after_by put b w) × (room' ≡ room_after room w.ended))

module _ {S : Type 0} (put : S → List ℕ → List ℕ) (b room : List ℕ) (w : StepOf S) (a : Answer) (q : a ≡ answer_of w) (room' : List ℕ) (e : room' ≡ room_after room w.ended) where
  same_refusal : a.refusal ≡ w.refusal
  same_refusal = ap (λ (a : Answer). a.refusal) q

  pub did_take : (s : S) (b' : List ℕ) → s ≡ w.state → a.refusal ≡ 0 → b' ≡ put s b → Did put b room w a b' room'
  did_take s b' p z st =
      let t = eq-eqb w.refusal 0 (sym same_refusal ∙ z) in
      (q, (st ∙ ap (λ (s : S). put s b) p ∙ sym (if-true (eqb w.refusal 0) (put w.state b) b t), e))

  pub did_refuse : (a.refusal ≡ 0 → ⊥) → Did put b room w a b room'
  did_refuse z =
      let t = ne_eqb w.refusal 0 (λ y. z (same_refusal ∙ y)) in
      (q, (sym (if-false (eqb w.refusal 0) (put w.state b) b t), e))

-- the same of a step that is equal
pub did_as : {S : Type 0} (put : S → List ℕ → List ℕ) (b room : List ℕ) (w w' : StepOf S) (a : Answer) (b' room' : List ℕ) → w' ≡ w → Did put b room w a b' room' → Did put b room w' a b' room'
did_as {S} put b room w w' a b' room' p d =
    (d.0 ∙ ap answer_of (sym p), (d.1.0 ∙ ap (after_by put b) (sym p), d.1.1 ∙ ap (λ (w : StepOf S). room_after room w.ended) (sym p)))

-- a record that cannot be read: no refusal of the reader is 0, so the bytes stay
pub did_unread : {S : Type 0} (put : S → List ℕ → List ℕ) (b room : List ℕ) (s : S) (error : ReadError)
    → Did put b room (unread s (number_of error)) (refused_answer (number_of error) 0) b room
did_unread put b room s BadRecord = (refl, (refl, refl))
did_unread put b room s EndOfLog = (refl, (refl, refl))

-- the step of what was read
pub step_by_lem : (b rec : List ℕ) (n : ℕ) (r : Result Record ReadError) → r ≡ read_of rec → card_step b rec n ≡ step_by step_whole (state_in b) n r
unfolding card_step
step_by_lem b rec n r e = ap (step_by step_whole (state_in b) n) (sym e)

pub second_step_by : (b rec : List ℕ) (n : ℕ) (r : Result Record ReadError) → r ≡ read_of rec → second_step b rec n ≡ step_by step_second (second_in b) n r
unfolding second_step
second_step_by b rec n r e = ap (step_by step_second (second_in b) n) (sym e)

-- the whole of a step's contract
abbrev pub Owed : {S : Type 0} → (S → List ℕ → List ℕ) → List ℕ → List ℕ → List ℕ → StepOf S → ℕ → List ℕ → List ℕ → List ℕ → Type 0
Owed put b room answer w r b' room' answer' =
    (r ≡ if_room 7 answer 1 w.refusal)
    × ((b' ≡ if_room 7 answer b (after_by put b w))
    × ((room' ≡ if_room 7 answer room (room_after room w.ended))
    × (answer' ≡ if_room 7 answer answer (answer_bytes (answer_of w) ++ drop 7 answer))))

module _ {S : Type 0} (put : S → List ℕ → List ℕ) (b room answer : List ℕ) (w : StepOf S) where
  pub owed_short : length answer < 7 → Owed put b room answer w 1 b room answer
  owed_short h =
      let t = lt-ltb (length answer) 7 h in
      (sym (if-true _ _ _ t), (sym (if-true _ _ _ t), (sym (if-true _ _ _ t), sym (if-true _ _ _ t))))

  pub owed_long : (a : Answer) (b' room' answer' : List ℕ) → 7 ≤ length answer → Did put b room w a b' room' → answer' ≡ answer_bytes a ++ drop 7 answer
      → Owed put b room answer w a.refusal b' room' answer'
  owed_long a b' room' answer' h d e =
      let f = le-ltb (length answer) 7 h in (
        ap (λ (a : Answer). a.refusal) d.0 ∙ sym (if-false _ _ _ f),
        (
          d.1.0 ∙ sym (if-false _ _ _ f),
          (d.1.1 ∙ sym (if-false _ _ _ f), e ∙ ap (λ (a : Answer). answer_bytes a ++ drop 7 answer) d.0 ∙ sym (if-false _ _ _ f)),
        ),
      )
