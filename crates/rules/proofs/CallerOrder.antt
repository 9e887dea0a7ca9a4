-- The caller that is taken is the longest-waiting one of its entry.
-- Assumes nothing.
use Prim.Native.Nat.{◌<◌}
use mathlib.Core.Path.{◌≡◌, sym, ◌∙◌}
use mathlib.Core.Bool.{true, false}
use mathlib.Core.List.{◌∷◌}
use native.Mathlib.Omega.{arith}
use Rattle.lists.specs.Lists.{count, first}
use Rattle.lists.proofs.Tests.{bit_le}
use Rattle.lists.proofs.ListLaws.{clash, by_bool, count_filter_yes}
use Rattle.lists.proofs.AheadLaws.{ahead_filter, first_ahead, one_way, Leads}
use Rattle.rules.specs.State.{State, place_of, is_queued, is_held, waits_on, queue}
use Rattle.rules.specs.Runs.{is_waiting}
use Rattle.rules.specs.Orders.{LongestFirst}
use Rattle.rules.proofs.Invariant.{Sound}
use Rattle.rules.proofs.Members.{WaitsOn, queued_is, queued_waits, bit_true}
use Rattle.rules.proofs.StateRuns.{entry, reach}
use Rattle.rules.proofs.OverRuns.{step_sound, reach_sound}
use Rattle.rules.proofs.Moves.{step_moved}
use Rattle.rules.proofs.OrderKept.{OfAsks, taken_heads, Rests, callers_run, begins_waits, waits_on_lem}

pub longest_first : OfAsks LongestFirst
longest_first s a mid b mid' z h g e c c' bc bc' en w w' = by_bool (is_held (place_of (entry s4 z).out.state c')) taken (λ n. n)
  where
    s1 : State
    s1 = (entry s a).out.state

    s2 : State
    s2 = reach s1 mid

    s4 : State
    s4 = reach s2 (b ∷ mid')

    h2 : Sound s2
    h2 = reach_sound mid s1 (step_sound s a h)

    h4 : Sound s4
    h4 = reach_sound (b ∷ mid') s2 h2

    q : WaitsOn (place_of s4 c) g e
    q = queued_is (place_of s4 c) g e w

    q' : WaitsOn (place_of s4 c') g e
    q' = queued_is (place_of s4 c') g e w'

    on : Rests c s2 (b ∷ mid') × (place_of s4 c ≡ place_of s2 c) × (is_waiting (place_of s2 c) ≡ true)
    on = waits_on_lem s a mid (b ∷ mid') c h bc en (rw q.1)

    not_yet : is_waiting (place_of s2 c') ≡ false
    not_yet = (begins_waits s2 b c' h2 bc').0

    -- c waits in the queue already where c' does not yet
    first_there : Leads c c' s2.callers
    first_there = (omega (arith, rw (sym on.1 ∙ q.1) at (h2.callers c)), λ i. clash (queued_waits (place_of s2 c') (bit_true _ (omega (arith, i, h2.callers c')))) not_yet)

    apart : c ≡ c' → ⊥
    apart y = clash on.2 (rw y not_yet)

    taken : is_held (place_of (entry s4 z).out.state c') ≡ true → is_held (place_of (entry s4 z).out.state c') ≡ false
    taken k =
        let f : first (queue s4 g e) ≡ c' = rw (q'.1, q'.2, q'.3) at (taken_heads s4 _ (entry s4 z).out.state (step_moved s4 z h4) c' (rw q'.1) k) in
        let l = callers_run (b ∷ mid') s2 c c' h2 on.0 first_there in
        let i : 0 < count c (queue s4 g e) = omega (arith, count_filter_yes (waits_on s4 g e) c s4.callers w, rw q.1 at (h4.callers c)) in
        let j : 0 < count c' s4.callers = omega (arith, rw q'.1 at (h4.callers c')) in
        let x = first_ahead c (queue s4 g e) i (λ y. apart (y ∙ f)) in
        absurd (one_way c c' s4.callers (omega (arith, h4.callers c, bit_le (is_queued (place_of s4 c)))) (omega (arith, h4.callers c', bit_le (is_queued (place_of s4 c')))) (l.1 j)
        (sym (ahead_filter (waits_on s4 g e) c' c s4.callers w' w) ∙ rw f at x))
