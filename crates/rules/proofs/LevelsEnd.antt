-- A rendezvous that ends.
-- Assumes nothing.
use Prim.Native.Nat.{ℕ, ◌≤◌, ◌<◌}
use mathlib.Core.Path.{◌≡◌, sym, ◌∙◌, ap}
use mathlib.Core.Logic.{inl, inr}
use mathlib.Core.List.{List, [], ◌∷◌, ◌++◌}
use native.Mathlib.Omega.{arith}
use lib.ListN.{length}
use lib.Dec.{eqb}
use Rattle.lists.specs.Lists.{when◌then◌else◌, bit}
use Rattle.rules.specs.State.{State, place_of, is_ready, is_held, partner_of, kept_of, level, wake, rank}
use Rattle.rules.specs.Levels.{served_at, WhenEnded, Levels}
use Rattle.rules.specs.declared.Timer.TheVariants.{Off}
use Rattle.rules.specs.declared.Meeting.{Meeting}
use Rattle.rules.specs.declared.Place.TheVariants.{Ready, Held}
use Rattle.lists.proofs.ListLaws.{clash, by_eq}
use Rattle.lists.proofs.Tests.{differ}
use Rattle.rules.proofs.Invariant.{Sound}
use Rattle.rules.proofs.Members.{Runs, held_there}
use Rattle.rules.proofs.MoveLaws.{rank_place, rank_length, restore_sound, part_same, part_other, current_other}
use Rattle.rules.proofs.LevelLaws.{part_puts_back, current_moved, level_joins, no_level, lowered_head, level_other, level_kept}

-- g, which runs, ends the rendezvous with its caller c
module _ (s : State) (g c : ℕ) (m : Meeting) (h : Sound s) (r : Runs s g) (held : place_of s c ≡ Held m) (by : m.holder ≡ g) where
  abbrev k : ℕ
  k = kept_of (place_of s c)

  abbrev s1 : State
  s1 = rank s g k

  abbrev s2 : State
  s2 = wake s1 c

  there : (0 < c) × (c ≤ length s.tasks)
  there = held_there s c m held

  fit1 : c ≤ length s1.tasks
  fit1 = omega (arith, there.1, rank_length s g k r.low r.high)

  apart : c ≡ g → ⊥
  apart z = differ (ap is_held (sym held ∙ ap (place_of s) z ∙ r.place))

  -- the caller stood in no level, and joins the tail of its own
  level2 : (q : ℕ) → level s2 q ≡ level s1 q ++ served_at s c q
  level2 q =
      level_joins s1 c there.0 fit1 q
      ∙ λ i. no_level s1 c q ((restore_sound s g c r.low r.high there.0 there.1 m held (ap is_ready r.place) h).ready c ∙ ap bit (ap is_ready (rank_place s g k r.low r.high c ∙ held))) i
      ++ (when eqb (current_other s g k r.low r.high c apart i) q then c ∷ [] else [])

  when_ended : (o : Meeting) → o.holder ≡ g → o.kept ≡ k → WhenEnded s s2 c o
  when_ended o a b = rw (a, b) (record {
    put_back = part_puts_back s g c r.low r.high there.0 there.1;
    falls_to_head = λ j. level2 k ∙ ap (λ (l : List ℕ). l ++ served_at s c k) (lowered_head s g k r.low r.high j);
    falls_elsewhere = λ j q d. level2 q ∙ ap (λ (l : List ℕ). l ++ served_at s c q) (level_other s g k r.low r.high q d);
    keeps_place = λ j q. level2 q ∙ ap (λ (l : List ℕ). l ++ served_at s c q) (level_kept s g k r.low r.high j q);
  })

  pub parted : Levels s s2
  parted = record {
    begun = λ u o b. by_eq u c
        (λ z. clash (ap is_held (held)) (ap (λ (x : ℕ). is_held (place_of s x)) (sym z) ∙ b.free))
        (λ n. clash (ap is_held b.held) (others u n ∙ b.free));
    ended = λ u o b. by_eq u c
        (λ z. rw z (let q = sym held ∙ ap (place_of s) (sym z) ∙ b.held in when_ended o (sym (ap partner_of q) ∙ by) (sym (ap kept_of q) ∙ sym (ap kept_of held))))
        (λ n. clash (ap is_held b.held) (sym (others u n) ∙ b.free));
    only_then = λ u _. by_eq u g
        (λ z. inr (c, m, by ∙ sym z, inr (record { held = held; free = ap is_held (part_same s g c r.low r.high there.0 there.1) })))
        (λ n. inl (current_moved s1 c Ready Off there.0 fit1 u ∙ current_other s g k r.low r.high u n));
  }
    where
      others : (u : ℕ) → (u ≡ c → ⊥) → is_held (place_of s2 u) ≡ is_held (place_of s u)
      others u n = ap is_held (part_other s g c r.low r.high there.0 there.1 u n).place
