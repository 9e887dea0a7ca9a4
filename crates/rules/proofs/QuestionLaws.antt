-- What a question answers, from the test of the state and from what was asked where it passed.
-- Assumes nothing.
use Rattle.std.proofs.Common.{◌≡◌, ℕ, Bool, true, false, refl, ap, ◌∙◌, Some, None, Ok, Err, Result, is_some, IfSome}
use Rattle.std.specs.Option.{ok_or}
use Rattle.std.specs.Result.{result_unwrap_or}
use Rattle.std.specs.declared.option.Option.{Option}
use Rattle.lists.proofs.ListLaws.{clash}
use Rattle.rules.specs.Questions.{bad_state, asked_by, number_in}
use Rattle.rules.specs.declared.BadState.{BadState}

by_some : {A : Type 0} (a x : A) (b : Bool) (o : Option A) → is_some o ≡ b → IfSome o (λ (y : A). y ≡ x) → (b ≡ true → x ≡ a) → ok_or o bad_state ≡ asked_by b a
by_some a x true (Some y) e q h = ap (asked_by true) (q ∙ h refl)
by_some a x true None e q h = clash e refl
by_some a x false (Some y) e q h = clash refl e
by_some a x false None e q h = refl

pub asked_is : {A : Type 0} (a x : A) (b : Bool) (o : Option A) {r : Result A BadState} → is_some o ≡ b → IfSome o (λ (y : A). y ≡ x) → (b ≡ true → x ≡ a) → r ≡ ok_or o bad_state → r ≡ asked_by b a
asked_is a x b o e q h k = k ∙ by_some a x b o e q h

-- the number of a question is what `unwrap_or(0)` gives
pub unwrapped : (r : Result ℕ BadState) → result_unwrap_or r 0 ≡ number_in r
unwrapped (Ok n) = refl
unwrapped (Err e) = refl
