-- Tests on one task, on the task that it has called, and where a task stands in the table.
-- Assumes nothing.
use Rattle.std.proofs.Common.{◌≡◌, ℕ, ◌<◌, ◌≤◌, Bool, true, false, ◌&&◌, ltb, leb, [], ◌∷◌, refl, ap, ◌∙◌, arith, ltb-false, lt-ltb, le-leb, leb-false}
use Rattle.lists.proofs.ListLaws.{by_bool, clash}
use Rattle.rules.specs.State.{blank, task_of, partner_of}
use Rattle.rules.specs.Sound.{good_task}
use Rattle.rules.specs.Whole.{view_core, is_blank}
use Rattle.rules.specs.declared.Core.{Core}
use Rattle.rules.specs.declared.Task.{Task}
use Rattle.rules.specs.declared.Place.{Place}
use Rattle.table.proofs.LeafLaws.{task_past}
use Rattle.table.proofs.PlaceLaws.{Among, in_arm}
use Rattle.soundness.specs.Check.{good_in}

-- x is one of 1..most
abbrev pub named : ℕ → ℕ → Bool
named most x = ltb 0 x && leb x most

pub not-blank : (p : Place) → Among (1 ∷ 2 ∷ 3 ∷ 4 ∷ 5 ∷ 6 ∷ []) p → false ≡ is_blank p
not-blank = in_arm is_blank false (1 ∷ 2 ∷ 3 ∷ 4 ∷ 5 ∷ 6 ∷ []) tt refl refl (λ q. refl) (λ m. refl) (λ o. refl) refl

-- ── the table ──

pub named_is : (n t : ℕ) → 0 < t → t ≤ n → named n t ≡ true
named_is n t a b = rw (lt-ltb 0 t a, le-leb t n b)

-- no task has the number u
pub called_none : (s : Core) (u : ℕ) → named s.created u ≡ false → blank ≡ task_of (view_core s) u
called_none s u e =
    by_bool (leb u s.created)
    (λ q. by_bool (ltb 0 u)
    (λ p. clash (rw (p, q)) e)
    (λ p. let z : u ≡ 0 = omega (arith, ltb-false 0 u p) in rw z))
    (λ q. task_past s.tasks s.created u (leb-false u s.created q))

-- what the code finds good is good in the rules' viewCore: x is task t, and g the task that it has called
pub good_is : (s : Core) (t u : ℕ) (x g : Task) (r : Bool) → x ≡ task_of (view_core s) t → u ≡ partner_of x.place → g ≡ task_of (view_core s) u → r ≡ good_task s.clock x g → r ≡ good_in (view_core s) t
good_is s t u x g r ex eu eg er =
    let ep : task_of (view_core s) u ≡ task_of (view_core s) (partner_of (task_of (view_core s) t).place) = ap (task_of (view_core s)) (eu ∙ ap (λ (y : Task). partner_of y.place) ex) in
    er ∙ (λ z. good_task s.clock (ex z) ((eg ∙ ep) z))
