-- TICK and ADVANCE: those whose time comes within their ticks, and what is to be answered.
-- Assumes nothing.
use Rattle.std.proofs.Common.{◌≡◌, ℕ, ◌+◌, ◌≤◌, Bool, true, false, not, eqb, List, [], ◌∷◌, map, length, Ok, sym, refl, ap, ◌∙◌, append-nil, arith}
use lib.ListN.{length-map}
use mir.Val.{bool_byte}
use Rattle.lists.specs.Line.{line, pad}
use Rattle.rules.specs.State.{State, has_time, timer_of, after, wake_all, set_clock}
use Rattle.rules.specs.Step.{took, item, DONE, take_call, expired, ends_at, room_after}
use Rattle.rules.specs.Advance.{comes_in, due_within, changes, due_moments}
use Rattle.rules.specs.Callers.{with_callers, core, core_of}
use Rattle.rules.proofs.Apart.{core_wakes, same_tick, same_advance}
use Rattle.rules.specs.Whole.{view_core, pack_core}
use Rattle.rules.specs.declared.Core.{Core}
use Rattle.rules.specs.declared.Timer.{Timer}
use Rattle.rules.specs.declared.Timer.TheVariants.{Off, Due}
use Rattle.calls.specs.declared.Call.TheVariants.{Tick, Advance}
use Rattle.lists.proofs.Tests.{bit_le, byte_bit}
use Rattle.lists.proofs.ListLaws.{clash, count_filter_le}
use Rattle.rules.proofs.Invariant.{Sound}
use Rattle.rules.proofs.Members.{in_filter, timed_there}
use Rattle.rules.proofs.AtOnce.{at_once}
use Rattle.table.specs.declared.queues.Test.TheVariants.{DueWithin}
use Rattle.steps.specs.Taken.{Stands, EachOnce, WokenAs, taken_as, taken_of, ended_by, passing}
use Rattle.steps.specs.declared.answers.Taken.{Taken}
use Rattle.steps.proofs.AnswerLaws.{answers}
use Rattle.steps.proofs.MoveLaws.{picked_line, long_delays}

-- ── those whose time comes ──

-- a time that comes is one
has_time_lem : (now n : ℕ) (w : Timer) → comes_in now n w ≡ true → has_time w ≡ true
has_time_lem now n Off e = clash e refl
has_time_lem now n (Due d) e = refl

-- picked out of the delay queue, they read back
pub within_line : (s : Core) (n : ℕ) (l : List ℕ) → Stands s → l ≡ pad (due_within (view_core s) n) → line l ≡ due_within (view_core s) n
within_line s n l h e = picked_line s s.delays (DueWithin s.clock n) l (long_delays s h) e

-- they are tasks, each once
pub within_each : (v : State) (n : ℕ) → Sound v → EachOnce v (due_within v n)
within_each v n h =
    let p : ℕ → Bool = λ t. comes_in v.clock n (timer_of v t) in (
      λ u k. timed_there v u (has_time_lem v.clock n (timer_of v u) (in_filter p u v.delays k).0),
      λ u. omega (arith, count_filter_le p u v.delays, h.delays u, bit_le (has_time (timer_of v u))),
    )

-- ── their moments ──

-- one more at most
pub one_more : (b : Bool) (n i : ℕ) → n ≤ i → n + bool_byte b ≤ i + 1
one_more b n i h = omega (arith, h, byte_bit b, bit_le b)

module _ (f : ℕ → ℕ) (w n k : ℕ) (xs : List ℕ) (q : w ≡ n + changes f k xs) where
  -- one more, if its number of ticks left is another one
  pub moments_on : (t d : ℕ) (ys : List ℕ) → xs ≡ t ∷ ys → d ≡ f t → w ≡ n + bool_byte (not (eqb d k)) + changes f d ys
  moments_on t d ys e z = q ∙ ap (λ (l : List ℕ). n + changes f k l) e ∙ rw (z, byte_bit (not (eqb (f t) k))) (omega arith)

  pub moments_end : xs ≡ [] → n ≡ w
  moments_end e = omega (arith, q, ap (changes f k) e)

-- ── what is answered ──

-- the struct with the clock at another reading
abbrev clocked : ℕ → Core → Core
clocked reading m = record { clock = reading; created = m.created; tasks = m.tasks; ready = m.ready; held = m.held; delays = m.delays }

-- once those of the line l have been woken, and the clock stands at its reading
pub passed_answers : (v : State) (l : List ℕ) (m : Core) (n k e reading : ℕ) (room last : List ℕ) {r : Taken}
    → l ≡ due_within v n → reading ≡ after v.clock n → WokenAs v false l m k room last → r ≡ taken_as (clocked reading m) (item 0 DONE e 0) k
    → (Ok r ≡ taken_of (passing v n e)) × (last ≡ room_after room (ended_by (passing v n e)))
passed_answers v l m n k e reading room last q c w a =
    let d = due_within v n in (
      answers (clocked reading m) (set_clock (wake_all v d) (after v.clock n)) (item 0 DONE e 0) (map (expired v) d) a
          (λ i. clocked (c i) ((w.state ∙ ap (λ (x : List ℕ). pack_core (wake_all v x)) q) i))
          (w.number ∙ ap length q ∙ sym (length-map d (expired v))),
      w.written ∙ ap (λ (x : List ℕ). room_after room (map (expired v) x)) q,
    )

-- ── the calls ──

passing_core : (v : State) (l : List ℕ) (n e : ℕ) → core_of (passing (with_callers v l) n e) ≡ core_of (passing v n e)
passing_core v l n e = ap (λ (x : State). took (core (set_clock x (after v.clock n))) (item 0 DONE e 0) (map (expired v) (due_within v n))) (core_wakes (due_within v n) (with_callers v l) v refl)

tick_is : (v : State) → Sound v → take_call v Tick ≡ passing v 1 0
tick_is v h =
    let c = at_once 1 v h in
    λ i. took (c.state i) (item 0 DONE 0 0) ((sym (append-nil (ends_at v (after v.clock 1))) ∙ c.ends) i)

advance_is : (v : State) (n : ℕ) → Sound v → take_call v (Advance n) ≡ passing v n (due_moments v n)
advance_is v n h = let c = at_once n v h in λ i. took (c.state i) (item 0 DONE (c.readings i) 0) (c.ends i)

pub tick_core : (v : State) (l : List ℕ) → Sound (with_callers v l) → core_of (take_call v Tick) ≡ core_of (passing v 1 0)
tick_core v l h = same_tick v l ∙ ap core_of (tick_is (with_callers v l) h) ∙ passing_core v l 1 0

pub advance_core : (v : State) (n : ℕ) (l : List ℕ) → Sound (with_callers v l) → core_of (take_call v (Advance n)) ≡ core_of (passing v n (due_moments v n))
advance_core v n l h = same_advance v l n ∙ ap core_of (advance_is (with_callers v l) n h) ∙ passing_core v l n (due_moments v n)
