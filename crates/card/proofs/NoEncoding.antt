-- A step on bytes that are no encoding is refused with BAD_STATE, by either engine. Assumes nothing.
use Prim.Native.Nat.{ℕ, ◌≤◌}
use mathlib.Core.Path.{◌≡◌, sym, ap, ◌∙◌}
use mathlib.Core.Bool.{true, false, not}
use mathlib.Core.List.{List}
use borrow.Author.Tests.{le-ltb}
use lib.Dec.{ltb}
use Rattle.calls.specs.Reading.{read_of}
use Rattle.calls.specs.declared.Call as C
use Rattle.std.specs.Prelude.{Ok}
use Rattle.rules.specs.Second.{sound_second, step_second}
use Rattle.rules.specs.Whole.{sound_whole, step_whole}
use Rattle.codec.specs.Layout.{is_encoding, state_in}
use Rattle.codec.specs.Rows.{second_in}
use Rattle.lists.proofs.Tests.{if-true, if-false}
use Rattle.codec.proofs.Kept.{no_encoding}
use Rattle.card.specs.Answers.{card_step, second_step}
use Rattle.card.proofs.CardLaws.{step_by_lem, second_step_by}

pub no_encoding_refused : (b rec : List ℕ) (n k : ℕ) (c : C.Call) → is_encoding b ≡ false → 124 ≤ n → read_of rec ≡ Ok (record { call = c; count = k }) → (card_step b rec n).refusal ≡ 2
unfolding step_whole
no_encoding_refused b rec n k c e h r =
    let p = step_by_lem b rec n _ (sym r) in
    let u : not (sound_whole (state_in b)) ≡ true = ap not (no_encoding b e) in
    ap (λ w. w.refusal) (p ∙ if-false (ltb n 124) _ _ (le-ltb n 124 h) ∙ if-true (not (sound_whole (state_in b))) _ _ u)

-- of the second engine, wherever the state in the bytes is not sound: too few bytes and bytes that are no encoding are none (`second-too-few`, `second-no-encoding`)
pub second_unsound_refused : (b rec : List ℕ) (n k : ℕ) (c : C.Call) → sound_second (second_in b) ≡ false → 124 ≤ n → read_of rec ≡ Ok (record { call = c; count = k }) → (second_step b rec n).refusal ≡ 2
unfolding step_second
second_unsound_refused b rec n k c e h r =
    let p = second_step_by b rec n _ (sym r) in
    ap (λ w. w.refusal) (p ∙ if-false (ltb n 124) _ _ (le-ltb n 124 h) ∙ if-true (not (sound_second (second_in b))) _ _ (ap not e))
