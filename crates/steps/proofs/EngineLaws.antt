-- What both engines say of a step: the answer, read off what the call gave.
-- Assumes nothing.
use Rattle.std.proofs.Common.{◌≡◌, ℕ, List, [], length, ap, ◌∙◌}
use Rattle.rules.specs.State.{State, running}
use Rattle.rules.specs.Step.{took}
use Rattle.rules.specs.Whole.{view_core, pack_core, done_by, answer_of}
use Rattle.rules.specs.declared.Item.{Item}
use Rattle.rules.proofs.Apart.{running_core}
use Rattle.rules.proofs.Invariant.{Sound}
use Rattle.rules.proofs.WholeLaws.{view_core_lem}
use Rattle.steps.specs.Taken.{taken_as, answer_by}
use Rattle.steps.specs.declared.answers.Taken.{Taken}

-- of a call that was taken the dispatched task is worked out on the core of the next state
pub answer_is : {S : Type 0} (pack : State → S) (x : S) (v st : State) (a : Item) (l : List Item) (k : Taken) (n : ℕ) → Sound st → k ≡ taken_as (pack_core st) a (length l) → n ≡ running (view_core k.state)
    → answer_by k n ≡ answer_of (done_by pack x v (took st a l))
answer_is pack x v st a l k n h ek en =
    (λ i. answer_by (ek i) ((en ∙ ap (λ (z : Taken). running (view_core z.state)) ek ∙ ap running (view_core_lem st h) ∙ running_core st []) i))
