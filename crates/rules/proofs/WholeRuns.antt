-- What holds over each run of the rules holds over each run of the struct's step: statement 3.
-- Assumes nothing.
use Prim.Native.Nat.{ℕ, ◌<◌}
use mathlib.Core.Path.{◌≡◌, sym, ap, subst, ◌∙◌}
use mathlib.Core.List.{List}
use Rattle.rules.specs.State.{State, empty, current_of}
use Rattle.rules.specs.Whole.{view, pack, sound_whole}
use Rattle.rules.specs.Runs.{Ask, Entry, start, after_step, entry_whole, log_whole, reach_whole}
use Rattle.rules.specs.OverRuns.{WaitsCounted, EndsOnce, WereWaiting, SixReasons, FewEnds, LeavesAll, HeldTillEnd, TimedWaits, OverRunsWhole}
use Rattle.rules.specs.declared.Supervisor.{Supervisor}
use Rattle.rules.proofs.Invariant.{Sound}
use Rattle.rules.proofs.StateRuns.{entry, log_of, reach}
use Rattle.rules.proofs.OverRuns.{empty_sound, reach_sound, step_sound, waits_counted, six_reasons, held_step}
use Rattle.rules.specs.Tree.{highest_of, reaches_top}
use Rattle.rules.proofs.TreeRuns.{empty_tree, reach_tree, no_ring, current_is_highest}
use Rattle.rules.proofs.Ends.{ends_once, were_waiting, few_ends}
use Rattle.rules.proofs.Leaves.{leaves_all}
use Rattle.rules.proofs.TimedWait.{timed_waits}
use Rattle.rules.proofs.WholeLaws.{view_pack, sound_pack, state_whole, entry_whole_lem, log_whole_lem, reach_whole_lem}

-- a run from a sound state, in the struct and in the rules
module _ (st : State) (h : Sound st) (run : List Ask) where
  abbrev st1 : State
  st1 = reach st run

  h1 : Sound st1
  h1 = reach_sound run st h

  at_end : view (reach_whole (pack st) run) ≡ st1
  at_end = ap view (reach_whole_lem run st h) ∙ view_pack st1 h1

  step_at : (a : Ask) → entry_whole (reach_whole (pack st) run) a ≡ entry st1 a
  step_at a = ap (λ (s : Supervisor). entry_whole s a) (reach_whole_lem run st h) ∙ entry_whole_lem st1 a h1

  next_at : (a : Ask) → after_step (reach_whole (pack st) run) a ≡ pack (entry st1 a).out.state
  next_at a = ap (λ (s : Supervisor). after_step s a) (reach_whole_lem run st h) ∙ state_whole st1 a h1

  -- what holds of each step of a sound state holds of each further step
  of_step : (P : Entry → Type 0) → ((s : State) (a : Ask) → Sound s → P (entry s a)) → (a : Ask) → P (entry_whole (reach_whole (pack st) run) a)
  of_step P f a = subst P (sym (step_at a)) (f st1 a h1)

  -- and so what holds of a step and the steps behind it
  log_at : (a : Ask) (mid : List Ask) → log_whole (after_step (reach_whole (pack st) run) a) mid ≡ log_of (entry st1 a).out.state mid
  log_at a mid = ap (λ (s : Supervisor). log_whole s mid) (next_at a) ∙ log_whole_lem mid (entry st1 a).out.state (step_sound st1 a h1)

pub over_runs_whole : OverRunsWhole
over_runs_whole = record {
  always_sound = λ n h run. ap sound_whole (reach_whole_lem run (empty n) (empty_sound n h)) ∙ sound_pack (reach (empty n) run) (reach_sound run (empty n) (empty_sound n h)) (reach_tree run (empty n) (empty_sound n h) (empty_tree n));
  no_ring = λ n h run t. ap (λ (s : State). reaches_top s 30 t) (at_end (empty n) (empty_sound n h) run) ∙ no_ring n h run t;
  current_highest = λ n h run t. subst (λ (s : State). current_of s t ≡ highest_of s 30 t) (sym (at_end (empty n) (empty_sound n h) run)) (sym (current_is_highest n h run t));
  waits_counted = λ n h run.
      subst (λ (l : List Entry). WaitsCounted l (view (reach_whole (start n) run))) (sym (log_whole_lem run (empty n) (empty_sound n h)))
      (subst (λ (s : State). WaitsCounted (log_of (empty n) run) s) (sym (at_end (empty n) (empty_sound n h) run)) (waits_counted n h run));
  ends_once = λ n h pre a mid. let k = empty_sound n h in
      subst (λ (x : Entry). EndsOnce x (log_whole (after_step (reach_whole (start n) pre) a) mid)) (sym (step_at (empty n) k pre a))
      (subst (EndsOnce (entry (reach (empty n) pre) a)) (sym (log_at (empty n) k pre a mid)) (ends_once (reach (empty n) pre) a mid (reach_sound pre (empty n) k)));
  were_waiting = λ n h run. of_step (empty n) (empty_sound n h) run WereWaiting were_waiting;
  six_reasons = λ n h run. of_step (empty n) (empty_sound n h) run SixReasons six_reasons;
  few_ends = λ n h run. of_step (empty n) (empty_sound n h) run FewEnds few_ends;
  leaves_all = λ n h run. of_step (empty n) (empty_sound n h) run LeavesAll leaves_all;
  held_till_end = λ n h run. of_step (empty n) (empty_sound n h) run HeldTillEnd (λ s a k c m q. held_step s a c m k q);
  timed_waits = timed;
}
  where
    timed : (n : ℕ) → n < 4294967296 → (pre : List Ask) (a : Ask) (mid : List Ask) (b : Ask)
        → TimedWaits (entry_whole (reach_whole (start n) pre) a) (log_whole (after_step (reach_whole (start n) pre) a) mid) (entry_whole (reach_whole (after_step (reach_whole (start n) pre) a) mid) b)
    timed n h pre a mid b =
        let k = empty_sound n h in
        let x = entry (reach (empty n) pre) a in
        let kx = step_sound (reach (empty n) pre) a (reach_sound pre (empty n) k) in
        subst (λ (x : Entry). TimedWaits x (log_whole (after_step (reach_whole (start n) pre) a) mid) (entry_whole (reach_whole (after_step (reach_whole (start n) pre) a) mid) b)) (sym (step_at (empty n) k pre a))
        (subst (λ (l : List Entry). TimedWaits x l (entry_whole (reach_whole (after_step (reach_whole (start n) pre) a) mid) b)) (sym (log_at (empty n) k pre a mid))
        (subst (λ (s : Supervisor). TimedWaits x (log_of x.out.state mid) (entry_whole (reach_whole s mid) b)) (sym (next_at (empty n) k pre a))
        (subst (λ (y : Entry). TimedWaits x (log_of x.out.state mid) y) (sym (step_at x.out.state kx mid b)) (timed_waits (reach (empty n) pre) a mid b (reach_sound pre (empty n) k)))))
