-- What the supervisor promises of the three calls that a card makes, read off the rules: all that the card's proofs know of its steps.
-- Assumes nothing.
use Rattle.std.proofs.Common.{◌≡◌, ℕ, zero, suc, ◌+◌, ◌<◌, ◌≤◌, leb, [], ◌∷◌, length, pos, refl, ap, ◌∙◌, subst, arith, length-append, le-leb}
use borrow.Author.Tests.{lt-leb}
use Rattle.lists.proofs.ListLaws.{length_remove}
use Rattle.lists.proofs.Tests.{if-true}
use Rattle.calls.specs.declared.Call as C
use Rattle.calls.specs.declared.Call.TheVariants.{Create, Delay, Tick}
use Rattle.rules.specs.State.{State, task_of, place_of, timer_of, created, running, after, ticks_left, fresh, add, move}
use Rattle.rules.specs.Step.{Outcome, of_running, delay_for, take_call, tick_to, due_at, ends_at, ticks}
use Rattle.rules.specs.Whole.{Whole, pack}
use Rattle.rules.specs.declared.Task.{Task}
use Rattle.rules.specs.declared.Timer.{Timer}
use Rattle.rules.specs.declared.Timer.TheVariants.{Off, Due}
use Rattle.rules.specs.declared.Place.TheVariants.{Ready, Delayed}
use Rattle.rules.proofs.Invariant.{Sound}
use Rattle.rules.proofs.Members.{runs}
use Rattle.rules.proofs.AddLaws.{add_sound, nth_old, nth_new}
use Rattle.rules.proofs.MoveLaws.{task_same, task_other, length_move}
use Rattle.rules.proofs.StepSound.{left_after, delay_kept, tick_kept, wake_all_length}
use Rattle.rules.proofs.Passes as P
use Rattle.rules.proofs.Passes.{Passes, tick_passes, left_later, in_time}
use Rattle.rules.proofs.TreeLaws.{Tree}
use Rattle.rules.proofs.TreeSteps.{TreeOf, tick_tree, keeps_tree}
use Rattle.rules.proofs.StateRuns.{stepped}
use Rattle.rules.proofs.WholeLaws.{whole_of}
use Rattle.rules.proofs.EveryStruct.{step_taken}
use Rattle.debounce.specs.Card.{room, takes}

-- ── a step that is taken ──

-- the struct and the dispatched task are those of the state w, which is sound, its tree of held callers included, and has n tasks
pub record Gives (x : Whole) (w : State) (n : ℕ) : Type 0 where
  pub state : x.state ≡ pack w
  pub next : x.next ≡ running w
  pub sound : Sound w
  pub tree : Tree w
  pub tasks : length w.tasks ≡ n

module _ (v : State) (h : Sound v) (g : Tree v) where
  taken : (c : C.Call) (o : Outcome) → take_call v c ≡ o → takes (pack v) c ≡ whole_of (stepped v o)
  taken c o e = step_taken v c room h g refl ∙ ap (λ (o : Outcome). whole_of (stepped v o)) e

  -- ── CREATE ──

  -- a new task, ready, of priority 1 and without entries
  pub record Creates (n : ℕ) : Type 0 where
    pub after : State
    pub gives : Gives (takes (pack v) (Create 1 0)) after (suc n)
    pub clock : after.clock ≡ v.clock
    pub ready : place_of after (suc n) ≡ Ready
    pub others : (u : ℕ) → u ≤ n → task_of after u ≡ task_of v u

  pub creates : (n : ℕ) → length v.tasks ≡ n → n < 31 → Creates n
  creates n m few =
      let less : created v < 31 = omega (arith, m, few) in
      let no-31 = lt-leb 31 (created v) less in
      let q = taken (Create 1 0) (take_call v (Create 1 0)) refl in
      record {
        after = add v 1 0;
        gives = record {
          state = ap (λ (x : Whole). x.state) q ∙ rw no-31;
          next = ap (λ (x : Whole). x.next) q ∙ rw no-31;
          sound = add_sound v 1 0 h less (omega arith, omega arith) (omega arith);
          tree = rw no-31 at (keeps_tree v (Create 1 0) h g);
          tasks = omega (arith, length-append v.tasks (fresh 1 0 ∷ []), m);
        };
        clock = refl;
        ready = subst (λ (k : ℕ). place_of (add v 1 0) (suc k) ≡ Ready) m (ap (λ (x : Task). x.place) (nth_new v.tasks (fresh 1 0)));
        others = λ u k. nth_old v.tasks (fresh 1 0) u (omega (arith, k, m));
      }

  -- ── DELAY ──

  -- the running task t is ready no more, and delays d ticks
  pub record Delays (t d : ℕ) : Type 0 where
    pub after : State
    pub gives : Gives (takes (pack v) (Delay (pos d))) after (length v.tasks)
    pub clock : after.clock ≡ v.clock
    pub fewer : length v.ready ≡ suc (length after.ready)
    pub place : place_of after t ≡ Delayed
    pub left : ticks_left v.clock (timer_of after t) ≡ d
    pub others : (u : ℕ) → (u ≡ t → ⊥) → task_of after u ≡ task_of v u

  pub delays : (t d : ℕ) → running v ≡ suc t → 1 ≤ d → d ≤ 65535 → Delays (suc t) d
  delays t zero e lo hi = absurd (omega arith)
  delays t (suc d) e lo hi =
      let w = Due (after v.clock (suc d)) in
      let r = runs v t h e in
      let whole : ticks (pos (suc d)) ≡ suc d = if-true (leb (suc d) 2147483647) (suc d) 0 (le-leb (suc d) 2147483647 (omega arith)) in
      let o : take_call v (Delay (pos (suc d))) ≡ delay_for v (suc t) (suc d) = ap (λ (r : ℕ). of_running r (λ u. delay_for v u (ticks (pos (suc d))))) e ∙ ap (delay_for v (suc t)) whole in
      let q = taken (Delay (pos (suc d))) (delay_for v (suc t) (suc d)) o in
      let same = task_same v (suc t) Delayed w r.low r.high in
      record {
        after = move v (suc t) Delayed w;
        gives = record {
          state = ap (λ (x : Whole). x.state) q;
          next = ap (λ (x : Whole). x.next) q;
          sound = delay_kept v (suc t) (suc d) h r (omega (arith, hi));
          tree = subst TreeOf o (keeps_tree v (Delay (pos (suc d))) h g);
          tasks = length_move v (suc t) Delayed w;
        };
        clock = refl;
        fewer = omega (arith, length_remove (suc t) v.ready, rw r.place at (h.ready (suc t)));
        place = ap (λ (x : Task). x.place) same;
        left = ap (λ (x : Task). ticks_left v.clock x.timer) same ∙ left_after v.clock (suc d) h.clock (omega (arith, hi));
        others = λ u n. task_other v (suc t) Delayed w u n;
      }

  -- ── TICK ──

  -- what it does to a task that waits with a time: it becomes ready with its last tick, and has a tick less otherwise
  pub data Comes (w : State) (u : ℕ) : Type 0 where
    comes : ticks_left v.clock (timer_of v u) ≡ 1 → place_of w u ≡ Ready → Comes w u
    stays : 1 < ticks_left v.clock (timer_of v u) → task_of w u ≡ task_of v u → ticks_left w.clock (timer_of v u) + 1 ≡ ticks_left v.clock (timer_of v u) → Comes w u

  pub record Ticks : Type 0 where
    pub after : State
    pub gives : Gives (takes (pack v) Tick) after (length v.tasks)
    pub each : (u : ℕ) → 1 ≤ ticks_left v.clock (timer_of v u) → Comes after u

  pub ticked : Ticks
  ticked =
      let now = after v.clock 1 in
      let q = taken Tick (take_call v Tick) refl in
      record {
        after = tick_to v now;
        gives = record {
          state = ap (λ (x : Whole). x.state) q;
          next = ap (λ (x : Whole). x.next) q;
          sound = tick_kept v h;
          tree = tick_tree v h g;
          tasks = wake_all_length (due_at v now) v;
        };
        each = λ u k. go u (timer_of v u) refl k (tick_passes v u h);
      }
    where
      go : (u : ℕ) (x : Timer) → timer_of v u ≡ x → 1 ≤ ticks_left v.clock (timer_of v u) → Passes v 1 u (tick_to v (after v.clock 1)) (ends_at v (after v.clock 1)) → Comes (tick_to v (after v.clock 1)) u
      go u Off q k f = absurd (omega (arith, k, ap (ticks_left v.clock) q))
      go u (Due d) q k (P.Passes.stays e f g) =
          let n = in_time v u d h q in
          stays (rw q (f d q)) e (rw q (left_later v.clock d 1 h.clock n.2 n.0))
      go u (Due d) q k (P.Passes.comes d2 q2 m p z g) = comes (omega (arith, k, ap (ticks_left v.clock) q2, m)) p
