-- Soundness as propositions, and that it is what the test says.
-- Assumes nothing.
use Prim.Native.Nat.{ℕ, ◌≤◌, ◌<◌, ◌^◌}
use mathlib.Core.Path.{◌≡◌}
use mathlib.Core.Bool.{Bool, true, false}
use mathlib.Core.List.{List}
use lib.ListN.{length}
use Rattle.lists.specs.Lists.{bit, count}
use Rattle.rules.specs.State.{State, is_ready, is_queued, is_held, is_completed, partner_of, accepts, has_time, ticks_left, nth}
use Rattle.rules.specs.SoundFacts.{InPriorities}
use Rattle.rules.specs.declared.Task.{Task}
use Rattle.rules.specs.declared.Timer.{Timer}
use Rattle.rules.specs.declared.Timer.TheVariants.{Off, Due}
use Rattle.rules.specs.declared.Place.{Place}
use Rattle.rules.specs.declared.Place.TheVariants.{Blank, Ready, Delayed, Queued, Held, Accepting, Completed}
use Rattle.lists.proofs.ListLaws.{Ordered}

-- the line l has each task once for which P holds, and no others
abbrev pub Lined : (Place → Bool) → List Task → List ℕ → Type 0
Lined P ts l = (u : ℕ) → count u l ≡ bit (P (nth ts u).place)

abbrev pub Timed : List Task → List ℕ → Type 0
Timed ts l = (u : ℕ) → count u l ≡ bit (has_time (nth ts u).timer)

-- entry e of the called task g, which has not completed
pub record Calls (g : Task) (e : ℕ) : Type 0 where
  pub low : 0 < e
  pub high : e ≤ g.entries
  pub alive : is_completed g.place ≡ false

abbrev pub Fits : Task → Task → Place → Timer → Type 0
Fits me g Blank w = ⊥
Fits me g Ready w = has_time w ≡ false
Fits me g Delayed w = has_time w ≡ true
Fits me g (Queued q) w = Calls g q.entry × (accepts g.place q.entry ≡ false)
Fits me g (Held m) w = Calls g m.entry × (has_time w ≡ false) × InPriorities m.kept
Fits me g (Accepting o) w = (o.opens < 2 ^ me.entries) × (o.opens ≡ 0 → has_time w ≡ true)
Fits me g Completed w = has_time w ≡ false

abbrev pub InTime : ℕ → Timer → Type 0
InTime now Off = Unit {0}
InTime now (Due d) = (0 < ticks_left now (Due d)) × (ticks_left now (Due d) ≤ 2147483647) × (d < 4294967296)

-- a task's numbers are in range
pub record InRange (me : Task) : Type 0 where
  pub own : InPriorities me.priority
  pub current : InPriorities me.current
  pub few : me.entries ≤ 8

-- a task that stands where it may: g is the task that it has called
pub record Good (now : ℕ) (me g : Task) : Type 0 where
  pub numbers : InRange me
  pub place : Fits me g me.place me.timer
  pub time : InTime now me.timer

abbrev pub GoodAt : ℕ → List Task → ℕ → Type 0
GoodAt now ts u = Good now (nth ts u) (nth ts (partner_of (nth ts u).place))

pub record Sound (s : State) : Type 0 where
  pub clock : s.clock < 4294967296
  pub few : length s.tasks ≤ 31
  pub good : (u : ℕ) → 0 < u → u ≤ length s.tasks → GoodAt s.clock s.tasks u
  pub ready : Lined is_ready s.tasks s.ready
  pub callers : Lined is_queued s.tasks s.callers
  pub held : Lined is_held s.tasks s.held
  pub delays : Timed s.tasks s.delays
  pub order : Ordered (λ u. ticks_left s.clock (nth s.tasks u).timer) s.delays
