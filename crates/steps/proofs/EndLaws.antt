-- END.
-- Assumes nothing.
use Rattle.std.proofs.Common.{◌≡◌, ℕ, zero, suc, ◌<◌, ◌≤◌, List, [], ◌∷◌, length, Ok, sym, refl, ap, ◌∙◌}
use Rattle.lists.specs.Lists.{last}
use Rattle.rules.specs.State.{State, running, place_of, entry_of, is_ready, held_by, part}
use Rattle.rules.specs.Step.{refused, took, item, SERVED, DONE, end_last, end, take_call}
use Rattle.rules.specs.declared.Refusal.TheVariants.{NoTask, NotServing}
use Rattle.calls.specs.declared.Call.TheVariants.{End}
use Rattle.rules.specs.Whole.{view_core}
use Rattle.rules.specs.declared.Item.{Item}
use Rattle.rules.specs.declared.Meeting.{Meeting}
use Rattle.rules.specs.declared.Place.TheVariants.{Held}
use Rattle.rules.specs.declared.Core.{Core}
use Rattle.rules.proofs.Members.{Runs, held_there, of_held, last_in}
use Rattle.table.specs.Moved.{parted_of}
use Rattle.steps.specs.Taken.{Stands, taken_as, taken_of}
use Rattle.steps.specs.declared.answers.Taken.{Taken}
use Rattle.steps.proofs.MoveLaws.{parted_packed}
use Rattle.steps.proofs.AnswerLaws.{no_runner, of_runner, answers}

pub end_idle : (v : State) → running v ≡ 0 → take_call v End ≡ refused NoTask
end_idle v = no_runner v (λ t. end v t)

pub end_runs : (v : State) (t : ℕ) → t ≡ running v → (t ≡ 0 → ⊥) → take_call v End ≡ end v t
end_runs v t = of_runner v t (λ t. end v t)

module _ (v : State) (t k : ℕ) (is : k ≡ last (held_by v t)) where
  pub end_none : k ≡ 0 → end v t ≡ refused NotServing
  end_none z = rw (← is, z)

  pub end_one : (k ≡ 0 → ⊥) → end v t ≡ took (part v t k) (item t DONE 0 0) (item k SERVED (entry_of (place_of v k)) t ∷ [])
  end_one z = rw (← is) (go k z)
    where
      go : (k : ℕ) → (k ≡ 0 → ⊥) → end_last v t k ≡ took (part v t k) (item t DONE 0 0) (item k SERVED (entry_of (place_of v k)) t ∷ [])
      go zero z = absurd (z refl)
      go (suc k) z = refl

  -- the caller held last is a task, and held
  pub held_last : (k ≡ 0 → ⊥) → (0 < k) × (k ≤ length v.tasks) × (m : Meeting) × (place_of v k ≡ Held m)
  held_last z = go k is z
    where
      go : (k : ℕ) → k ≡ last (held_by v t) → (k ≡ 0 → ⊥) → (0 < k) × (k ≤ length v.tasks) × (m : Meeting) × (place_of v k ≡ Held m)
      go zero e z = absurd (z refl)
      go (suc k) e z = let q = of_held v (suc k) t (last_in k (held_by v t) (sym e)) in let i = held_there v (suc k) q.0 q.1 in (i.0, i.1, q.0, q.1)

-- g, which runs, ends the rendezvous with its caller c
pub parted_answers : (s n : Core) (g c : ℕ) (a : Item) (l : List Item) {r : Taken} → Stands s → Runs (view_core s) g → (0 < c) × (c ≤ length (view_core s).tasks) × (m : Meeting) × (place_of (view_core s) c ≡ Held m)
    → r ≡ taken_as n a (length l) → n ≡ parted_of s g c → Ok r ≡ taken_of (took (part (view_core s) g c) a l)
parted_answers s n g c a l h u i er en =
    answers n (part (view_core s) g c) a l er (en ∙ parted_packed s g c h u.low u.high i.0 i.1 i.2 i.3 (ap is_ready u.place)) refl
