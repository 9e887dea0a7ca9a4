-- A rendezvous that begins at a SELECT: the acceptor runs, and its caller waits in a queue.
-- Assumes nothing.
use Prim.Native.Nat.{ℕ, ◌≤◌, ◌<◌}
use mathlib.Core.Path.{◌≡◌, refl, sym, ◌∙◌, ap}
use mathlib.Core.Logic.{inl, inr}
use mathlib.Core.Bool.{false}
use native.Mathlib.Omega.{arith}
use lib.ListN.{length}
use Rattle.lists.specs.Lists.{bit}
use Rattle.rules.specs.State.{State, place_of, current_of, is_ready, is_held, partner_of, kept_of, level, running, move, rank, higher, meeting}
use Rattle.rules.specs.Levels.{WhenBegun, Levels}
use Rattle.rules.specs.declared.Timer.TheVariants.{Off}
use Rattle.rules.specs.declared.Meeting.{Meeting}
use Rattle.rules.specs.declared.Place.{Place}
use Rattle.rules.specs.declared.Place.TheVariants.{Held}
use Rattle.lists.proofs.ListLaws.{clash, by_eq}
use Rattle.rules.proofs.Invariant.{Sound}
use Rattle.rules.proofs.Members.{Runs}
use Rattle.rules.proofs.MoveLaws.{rank_place, rank_length, raise_sound, meet_same, meet_other, current_other}
use Rattle.rules.proofs.LevelLaws.{meet_raises, current_moved, level_leaves, no_level, level_other, level_kept, raised_lone, above_running, higher_raised, higher_kept}

-- that of c with g, and no other; g alone gets another current priority
pub begins_one : (s s' : State) (g c e k : ℕ) → is_held (place_of s c) ≡ false → place_of s' c ≡ Held (meeting g e k)
    → ((u : ℕ) → (u ≡ c → ⊥) → is_held (place_of s' u) ≡ is_held (place_of s u)) → ((u : ℕ) → (u ≡ g → ⊥) → current_of s' u ≡ current_of s u)
    → ((m : Meeting) → m.holder ≡ g → m.kept ≡ k → WhenBegun s s' c m) → Levels s s'
begins_one s s' g c e k free held others currents f = record {
  begun = λ u m b. by_eq u c
      (λ z. rw z (let q = sym held ∙ ap (place_of s') (sym z) ∙ b.held in f m (sym (ap partner_of q)) (sym (ap kept_of q))))
      (λ n. clash (ap is_held b.held) (others u n ∙ b.free));
  ended = λ u m b. by_eq u c
      (λ z. clash (ap is_held b.held) (ap (λ (x : ℕ). is_held (place_of s x)) z ∙ free))
      (λ n. clash (ap is_held b.held) (sym (others u n) ∙ b.free));
  only_then = λ u _. by_eq u g (λ z. inr (c, meeting g e k, sym z, inl (record { free = free; held = held }))) (λ n. inl (currents u n));
}

-- by SELECT: g runs, and its caller c is not ready
module _ (s : State) (g c e : ℕ) (h : Sound s) (run : running s ≡ g) (r : Runs s g) (pos : 0 < c) (fit : c ≤ length s.tasks) (out : is_ready (place_of s c) ≡ false) (free : is_held (place_of s c) ≡ false) where
  abbrev n : ℕ
  n = higher (current_of s g) (current_of s c)

  abbrev p : Place
  p = Held (meeting g e (current_of s g))

  abbrev s1 : State
  s1 = rank s g n

  abbrev s2 : State
  s2 = move s1 c p Off

  fit1 : c ≤ length s1.tasks
  fit1 = omega (arith, fit, rank_length s g n r.low r.high)

  -- the caller stood in no level
  level2 : (q : ℕ) → level s2 q ≡ level s1 q
  level2 q =
      level_leaves s1 c p Off pos fit1 refl q
      ∙ no_level s1 c q ((raise_sound s g c r.low r.high pos fit e h).ready c ∙ ap bit (ap is_ready (rank_place s g n r.low r.high c) ∙ out))

  when_selected : (m : Meeting) → m.holder ≡ g → m.kept ≡ current_of s g → WhenBegun s s2 c m
  when_selected m a b = rw a (record {
    becomes_higher = meet_raises s g c r.low r.high pos fit e;
    kept = b;
    resumed_at_tail = λ k. absurd (k run);
    resumed_elsewhere = λ k. absurd (k run);
    keeps_place = λ _ k q. level2 q ∙ level_kept s g n r.low r.high (sym (higher_kept (current_of s g) (current_of s c) k)) q;
    raised_alone = λ _ k. let z = higher_raised (current_of s g) (current_of s c) k in
        ap (level s2) (sym z) ∙ level2 n ∙ raised_lone s g n r.low r.high (omega (arith, k, z)) (h.ready g ∙ ap (λ (x : Place). bit (is_ready x)) r.place)
        (above_running s g n h run r.low (omega (arith, k, z)));
    raised_elsewhere = λ _ k q d. level2 q ∙ level_other s g n r.low r.high q (λ z. d (z ∙ higher_raised (current_of s g) (current_of s c) k));
  })

  pub selected : Levels s s2
  selected =
      begins_one s s2 g c e (current_of s g) free (meet_same s g c r.low r.high pos fit e) (λ u k. ap is_held (meet_other s g c r.low r.high pos fit e u k).place)
      (λ u k. current_moved s1 c p Off pos fit1 u ∙ current_other s g n r.low r.high u k) when_selected
