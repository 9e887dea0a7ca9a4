use Rattle.std.proofs.Common.{◌≡◌, ℕ, ◌≤◌, Bool, List, length, take}
use Rattle.std.specs.Iterator.Adapters.{rev_source}
use Rattle.std.specs.Slice.Iter.{iter_rest}
use Rattle.lists.specs.Lists.{every, down_from}
use Rattle.rules.specs.State.{task_of}
use Rattle.rules.specs.Whole.{view_core}
use Rattle.rules.specs.declared.Core.{Core}
use Rattle.rules.specs.declared.Task.{Task}
use Rattle.soundness.specs.Check.{Ready, Callers, Held, Delays, belongs, good_in, is_changed, marked}
use Rattle.soundness.specs.Marks.{no_marks}
use Rattle.soundness.proofs.told_of.Given as goal

-- the word m goes on with which of the tasks t, t - 1, .., 1 pass the test
abbrev pub due : Core → (Task → Bool) → ℕ → ℕ → ℕ
due s f m t = marked (λ u. f (task_of (view_core s) u)) m (down_from t)

-- all of the tasks t, t - 1, .., 1 are good
abbrev pub goods : Core → ℕ → Bool
goods s t = every (good_in (view_core s)) (down_from t)

-- The invariant: the tasks that are left are the first t of the table. Those above are good, and it is known who of them belongs where; what
-- is left of each answer is the answer for those left.
abbrev pub invariant-loop-x : goal.invariant-loop-x
invariant-loop-x l =
    let s = l.fn.s in
    let left : List Task = iter_rest (rev_source l.x-iterator) in
    let t = length left in
    (t ≤ s.created) × (length s.tasks ≡ 31) × (left ≡ take t s.tasks) × (goods s s.created ≡ goods s t)
    × (due s (belongs Ready) no_marks s.created ≡ due s (belongs Ready) l.ready t) × (due s (belongs Callers) no_marks s.created ≡ due s (belongs Callers) l.callers t)
    × (due s (belongs Held) no_marks s.created ≡ due s (belongs Held) l.held t) × (due s (belongs Delays) no_marks s.created ≡ due s (belongs Delays) l.delays t)
    × (due s is_changed no_marks s.created ≡ due s is_changed l.changed t)
