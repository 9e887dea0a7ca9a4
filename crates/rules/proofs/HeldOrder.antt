-- Of those whom a task holds, the rendezvous that began last ends first.
-- Assumes nothing.
use Prim.Native.Nat.{ℕ, ◌<◌}
use mathlib.Core.Path.{◌≡◌, sym, ◌∙◌, ap}
use mathlib.Core.Logic.{◌⊎◌, inl, inr}
use mathlib.Core.Bool.{true}
use mathlib.Core.List.{[], ◌∷◌}
use native.Mathlib.Omega.{arith}
use borrow.Author.Tests.{eq-eqb}
use Rattle.lists.specs.Lists.{count, ahead, last}
use Rattle.lists.proofs.Tests.{bit_le}
use Rattle.lists.proofs.ListLaws.{clash, count_filter_yes}
use Rattle.lists.proofs.AheadLaws.{ahead_filter, last_behind, one_way, Leads}
use Rattle.rules.specs.State.{State, place_of, is_held, holds, held_by}
use Rattle.rules.specs.Runs.{reasons}
use Rattle.rules.specs.OverRuns.{Stays, Released}
use Rattle.rules.specs.Orders.{LastFirst}
use Rattle.rules.specs.declared.Meeting.{Meeting}
use Rattle.rules.specs.declared.Place.TheVariants.{Held}
use Rattle.rules.proofs.Invariant.{Sound}
use Rattle.rules.proofs.Members.{held_is}
use Rattle.rules.proofs.StateRuns.{entry, log_of, reach}
use Rattle.rules.proofs.OverRuns.{step_sound, reach_sound, held_step}
use Rattle.rules.proofs.OrderKept.{OfAsks, Rests, rests, held_line_run, ended_append}

-- c stands ahead of c' in the line of those held, both are held by g, and c is released: that cannot be
not-released : (s : State) (g c c' : ℕ) → Sound s → holds s g c ≡ true → holds s g c' ≡ true → ahead c c' s.held ≡ true → last (held_by s g) ≡ c → (c ≡ c' → ⊥) → ⊥
not-released s g c c' h p q a l n =
    let i : 0 < count c' (held_by s g) = omega (arith, count_filter_yes (holds s g) c' s.held q, rw (held_is (place_of s c') g q).1 at (h.held c')) in
    let b = last_behind c' (held_by s g) i (λ z. n (sym (z ∙ l))) in
    one_way c c' s.held (omega (arith, h.held c, bit_le (is_held (place_of s c)))) (omega (arith, h.held c', bit_le (is_held (place_of s c')))) a
    (sym (ahead_filter (holds s g) c' c s.held q p) ∙ rw l at b)

pub last_first : OfAsks LastFirst
last_first s a mid b mid' z h g c c' m m' e k = ends (held_step s4 z c mt h4 p4)
  where
    s1 : State
    s1 = (entry s a).out.state

    s2 : State
    s2 = reach s1 mid

    s4 : State
    s4 = reach s2 (b ∷ mid')

    h1 : Sound s1
    h1 = step_sound s a h

    h2 : Sound s2
    h2 = reach_sound mid s1 h1

    h4 : Sound s4
    h4 = reach_sound (b ∷ mid') s2 h2

    mt : Meeting
    mt = (held_is (place_of s1 c) g m.after).0

    p1 : place_of s1 c ≡ Held mt
    p1 = (held_is (place_of s1 c) g m.after).1

    by_g : mt.holder ≡ g
    by_g = (held_is (place_of s1 c) g m.after).2

    p2 : place_of s2 c ≡ Held mt
    p2 = (rests mid s1 c h1 (rw p1) (omega (arith, e, ended_append c (log_of s1 mid) (log_of s2 (b ∷ mid')))) (λ f. clash (rw p1) f)).1 ∙ p1

    on : Rests c s2 (b ∷ mid') × (place_of s4 c ≡ place_of s2 c)
    on = rests (b ∷ mid') s2 c h2 (rw p2) (omega (arith, e, ended_append c (log_of s1 mid) (log_of s2 (b ∷ mid')))) (λ f. clash (rw p2) f)

    p4 : place_of s4 c ≡ Held mt
    p4 = on.1 ∙ p2

    -- c is held already where c' is not yet
    first_there : Leads c c' s2.held
    first_there = (omega (arith, rw p2 at (h2.held c)), λ i. absurd (omega (arith, i, rw m'.before at (h2.held c'))))

    apart : c ≡ c' → ⊥
    apart y = let k : is_held (place_of s2 c) ≡ true = rw p2 in clash k (ap (λ (x : ℕ). is_held (place_of s2 x)) y ∙ m'.before)

    ends : Stays c mt (entry s4 z) ⊎ Released c mt (entry s4 z) → reasons c (entry s4 z).out.ended ≡ []
    ends (inl t) = t.ended
    ends (inr r) =
        let l = held_line_run (b ∷ mid') s2 c c' h2 on.0 first_there in
        let i : 0 < count c' s4.held = omega (arith, rw (held_is (place_of s4 c') g k).1 at (h4.held c')) in
        absurd (not-released s4 g c c' h4 (rw (p4, eq-eqb mt.holder g by_g)) k (l.1 i) (rw by_g at r.latest) apart)
