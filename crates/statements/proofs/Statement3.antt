-- Statement 3, proved: what holds of every log of the rules holds of every log that is read off uses of `step`.
-- Assumes nothing.
use Prim.Native.Nat.{ℕ}
use mathlib.Core.Path.{◌≡◌, refl, sym, ◌∙◌, ap, subst}
use mathlib.Core.List.{List, [], ◌∷◌, map}
use Rattle.rules.specs.Whole.{view, sound_whole}
use Rattle.rules.specs.Runs.{Ask, Entry, start, after_step, entry_whole, log_whole, reach_whole}
use Rattle.rules.specs.OverRuns.{WaitsCounted, EndsOnce, WereWaiting, SixReasons, FewEnds, LeavesAll, HeldTillEnd, TimedWaits}
use Rattle.rules.specs.Orders.{OfThree, TimesInOrder, LongestFirst, LastFirst}
use Rattle.rules.specs.State.{current_of}
use Rattle.rules.specs.Tree.{highest_of, reaches_top}
use Rattle.rules.specs.Uses.{Use, Keeps, Chain, asked, read_entry, read_log}
use Rattle.rules.specs.declared.Stepped.{Stepped}
use Rattle.rules.specs.declared.Supervisor.{Supervisor}
use Rattle.rules.proofs.SoundSaid.{soundness_said}
use Rattle.rules.proofs.Uses.{entry_back, read_back}
use Rattle.rules.proofs.OrdersWhole.{orders_whole}
use Rattle.rules.proofs.WholeRuns.{over_runs_whole}
use Rattle.statements.specs.Statement3.{reached, Run, state_of, log_of, Statement3}

-- the state that a use gives is that of the rules
gave_state : (s : Supervisor) (u : Use) → Keeps s u → u.gave.state ≡ after_step s (asked u)
gave_state s u k = ap (λ (g : Stepped Supervisor). g.state) k.answer

reached_is : (s : Supervisor) (us : List Use) → Chain s us → reached s us ≡ reach_whole s (map asked us)
reached_is s [] k = refl
reached_is s (u ∷ us) k = reached_is u.gave.state us k.1 ∙ ap (λ (t : Supervisor). reach_whole t (map asked us)) (gave_state s u k.0)

module _ (n : ℕ) (run : Run n) where
  abbrev asks : List Ask
  asks = map asked run.uses

  at_end : state_of run ≡ reach_whole (start n) asks
  at_end = reached_is (start n) run.uses run.kept

  -- one more use
  step_at : (u : Use) → Keeps (state_of run) u → read_entry (state_of run) u ≡ entry_whole (reach_whole (start n) asks) (asked u)
  step_at u k = entry_back (state_of run) u k ∙ ap (λ (s : Supervisor). entry_whole s (asked u)) at_end

  next_at : (u : Use) → Keeps (state_of run) u → u.gave.state ≡ after_step (reach_whole (start n) asks) (asked u)
  next_at u k = gave_state (state_of run) u k ∙ ap (λ (s : Supervisor). after_step s (asked u)) at_end

  -- and those behind it
  log_at : (u : Use) → Keeps (state_of run) u → (mid : List Use) → Chain u.gave.state mid
      → read_log u.gave.state mid ≡ log_whole (after_step (reach_whole (start n) asks) (asked u)) (map asked mid)
  log_at u k mid c = read_back u.gave.state mid c ∙ ap (λ (s : Supervisor). log_whole s (map asked mid)) (next_at u k)

  last_at : (u : Use) → Keeps (state_of run) u → (mid : List Use) → Chain u.gave.state mid → (v : Use) → Keeps (reached u.gave.state mid) v
      → read_entry (reached u.gave.state mid) v ≡ entry_whole (reach_whole (after_step (reach_whole (start n) asks) (asked u)) (map asked mid)) (asked v)
  last_at u k mid c v j =
      entry_back (reached u.gave.state mid) v j
      ∙ ap (λ (s : Supervisor). entry_whole s (asked v)) (reached_is u.gave.state mid c ∙ ap (λ (s : Supervisor). reach_whole s (map asked mid)) (next_at u k))

  of_step : (P : Entry → Type 0) → ((a : Ask) → P (entry_whole (reach_whole (start n) asks) a)) → (u : Use) → Keeps (state_of run) u → P (read_entry (state_of run) u)
  of_step P f u k = subst P (sym (step_at u k)) (f (asked u))

  -- the log
  of_log : (P : List Entry → Type 0) → P (log_whole (start n) asks) → P (log_of run)
  of_log P f = subst P (sym (read_back (start n) run.uses run.kept)) f

pub statement3 : Statement3
statement3 = record {
  starts = λ κs x r y p. p;
  always_sound = λ n run. ap sound_whole (at_end n run) ∙ over_runs_whole.always_sound n run.clock (asks n run);
  soundness_said = soundness_said;
  no_ring = λ n run t. ap (λ (s : Supervisor). reaches_top (view s) 30 t) (at_end n run) ∙ over_runs_whole.no_ring n run.clock (asks n run) t;
  current_highest = λ n run t.
      subst (λ (s : Supervisor). current_of (view s) t ≡ highest_of (view s) 30 t) (sym (at_end n run)) (over_runs_whole.current_highest n run.clock (asks n run) t);
  waits_counted = λ n run.
      of_log n run (λ (l : List Entry). WaitsCounted l (view (state_of run)))
      (subst (λ (s : Supervisor). WaitsCounted (log_whole (start n) (asks n run)) (view s)) (sym (at_end n run)) (over_runs_whole.waits_counted n run.clock (asks n run)));
  ends_once = λ n run u k mid c.
      subst (λ (x : Entry). EndsOnce x (read_log u.gave.state mid)) (sym (step_at n run u k))
      (subst (EndsOnce (entry_whole (reach_whole (start n) (asks n run)) (asked u))) (sym (log_at n run u k mid c)) (over_runs_whole.ends_once n run.clock (asks n run) (asked u) (map asked mid)));
  were_waiting = λ n run. of_step n run WereWaiting (over_runs_whole.were_waiting n run.clock (asks n run));
  six_reasons = λ n run. of_step n run SixReasons (over_runs_whole.six_reasons n run.clock (asks n run));
  few_ends = λ n run. of_step n run FewEnds (over_runs_whole.few_ends n run.clock (asks n run));
  leaves_all = λ n run. of_step n run LeavesAll (over_runs_whole.leaves_all n run.clock (asks n run));
  held_till_end = λ n run. of_step n run HeldTillEnd (over_runs_whole.held_till_end n run.clock (asks n run));
  equal_times = λ n run. of_log n run (λ (l : List Entry). OfThree l TimesInOrder) (orders_whole.equal_times n run.clock (asks n run));
  longest_first = λ n run. of_log n run (λ (l : List Entry). OfThree l LongestFirst) (orders_whole.longest_first n run.clock (asks n run));
  last_first = λ n run. of_log n run (λ (l : List Entry). OfThree l LastFirst) (orders_whole.last_first n run.clock (asks n run));
  timed_waits = λ n run u k mid c v j.
      subst (λ (x : Entry). TimedWaits x (read_log u.gave.state mid) (read_entry (reached u.gave.state mid) v)) (sym (step_at n run u k))
      (subst (λ (l : List Entry). TimedWaits (entry_whole (reach_whole (start n) (asks n run)) (asked u)) l (read_entry (reached u.gave.state mid) v)) (sym (log_at n run u k mid c))
      (subst (TimedWaits (entry_whole (reach_whole (start n) (asks n run)) (asked u)) (log_whole (after_step (reach_whole (start n) (asks n run)) (asked u)) (map asked mid))) (sym (last_at n run u k mid c v j))
      (over_runs_whole.timed_waits n run.clock (asks n run) (asked u) (map asked mid) (asked v))));
}
