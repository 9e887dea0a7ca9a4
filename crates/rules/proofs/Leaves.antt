-- Whoever a step lists as ended stands in no queue any more.
-- Assumes nothing.
use Prim.Native.Nat.{ℕ, ◌<◌}
use mathlib.Core.Path.{◌≡◌, refl, ◌∙◌}
use mathlib.Core.Bool.{false}
use native.Mathlib.Omega.{arith}
use lib.ListN.{length}
use Rattle.lists.specs.Lists.{count}
use Rattle.lists.proofs.ListLaws.{by_bool, clash, count_filter_le}
use Rattle.rules.specs.State.{State, place_of, timer_of, has_time, waits_on}
use Rattle.rules.specs.Runs.{Ask, Given, reasons}
use Rattle.rules.specs.OverRuns.{Gone, LeavesAll}
use Rattle.rules.specs.declared.Place.TheVariants.{Ready}
use Rattle.calls.specs.declared.Call as C
use Rattle.rules.proofs.Invariant.{Sound}
use Rattle.rules.proofs.StateRuns.{entry}
use Rattle.rules.proofs.SoundSaid.{timed}
use Rattle.rules.proofs.Fate.{untouched, awake, began, began_held, taken, ran_out, accepted, served, given_up}
use Rattle.rules.proofs.OverRuns.{StepFate, not_taken, was_taken, step_fate, step_sound}

-- whose wait has ended is ready
woken : (s : State) (c : C.Call) (u : ℕ) (r : Given) → StepFate s c u r → 0 < length (reasons u r.ended) → place_of r.state u ≡ Ready
woken s c u r (not_taken f n e) k = absurd (omega (arith, rw e at k))
woken s c u r (was_taken s' b l t e (untouched p i m)) k = absurd (omega (arith, rw (e, i) at k))
woken s c u r (was_taken s' b l t e (awake p q i m)) k = absurd (omega (arith, rw (e, i) at k))
woken s c u r (was_taken s' b l t e (began p w q v i m)) k = absurd (omega (arith, rw (e, i) at k))
woken s c u r (was_taken s' b l t e (began_held p f q i m)) k = absurd (omega (arith, rw (e, i) at k))
woken s c u r (was_taken s' b l t e (taken _ f j p q i m)) k = absurd (omega (arith, rw (e, i) at k))
woken s c u r (was_taken s' b l t e (ran_out v d i q j m)) k = rw e q
woken s c u r (was_taken s' b l t e (accepted _ o p q j m)) k = rw e q
woken s c u r (was_taken s' b l t e (served v f p i j q m n)) k = rw e q
woken s c u r (was_taken s' b l t e (given_up v f p i q j m)) k = rw e q

-- a ready task has no time
untimed : (s : State) (t : ℕ) → Sound s → place_of s t ≡ Ready → has_time (timer_of s t) ≡ false
untimed s t h p = by_bool (has_time (timer_of s t)) (λ e. clash (timed s h t (place_of s t) refl e) (rw p)) (λ e. e)

-- and stands in no line but the ready one
ready_gone : (s : State) (t : ℕ) → Sound s → place_of s t ≡ Ready → Gone t s
ready_gone s t h p = record {
  place = p;
  queues = λ g e. let z : count t s.callers ≡ 0 = h.callers t ∙ rw p in omega (arith, z, count_filter_le (waits_on s g e) t s.callers);
  callers = h.callers t ∙ rw p;
  held = h.held t ∙ rw p;
  delays = h.delays t ∙ rw (untimed s t h p);
}

pub leaves_all : (s : State) (a : Ask) → Sound s → LeavesAll (entry s a)
leaves_all s a h t k = ready_gone (entry s a).out.state t (step_sound s a h) (woken s a.call t (entry s a).out (step_fate s a t h) k)
