-- A rendezvous that begins at a CALL: the caller runs, and its acceptor, which waits, is resumed.
-- Assumes nothing.
use Prim.Native.Nat.{ℕ, ◌≤◌, ◌<◌}
use mathlib.Core.Path.{◌≡◌, refl, sym, ◌∙◌, ap}
use mathlib.Core.Bool.{false, not}
use mathlib.Core.List.{List, [], ◌∷◌, ◌++◌, append-nil}
use native.Mathlib.Omega.{arith}
use lib.ListN.{length}
use lib.Dec.{eqb}
use borrow.Author.Tests.{eq-eqb, ne_eqb}
use Rattle.lists.specs.Lists.{bit, count, filter, remove}
use Rattle.rules.specs.State.{State, place_of, current_of, is_ready, is_held, level, at_level, running, move, wake, rank, higher, meeting}
use Rattle.rules.specs.Levels.{WhenBegun, served_at, Levels}
use Rattle.rules.specs.declared.Timer.TheVariants.{Off}
use Rattle.rules.specs.declared.Meeting.{Meeting}
use Rattle.rules.specs.declared.Place.{Place}
use Rattle.rules.specs.declared.Place.TheVariants.{Ready, Held}
use Rattle.lists.proofs.ListLaws.{clash, by_eq, by_test, count_remove_same}
use Rattle.lists.proofs.MarkLaws.{filter_same, filter_append, remove_absent}
use Rattle.rules.proofs.Invariant.{Sound}
use Rattle.rules.proofs.Members.{Runs}
use Rattle.rules.proofs.MoveLaws.{place_same, place_other, length_move, rank_length, meet_same, meet_other, current_other}
use Rattle.rules.proofs.LevelLaws.{meet_raises, current_moved, level_leaves, level_joins, no_level, level_other, raised_tail, higher_least}
use Rattle.rules.proofs.LevelsSelect.{begins_one}

-- by CALL: c runs, and its acceptor g, which is not ready, is resumed
module _ (s : State) (g c e : ℕ) (h : Sound s) (run : running s ≡ c) (r : Runs s c) (low : 0 < g) (high : g ≤ length s.tasks) (out : is_ready (place_of s g) ≡ false) (free : is_held (place_of s g) ≡ false) where
  abbrev w : State
  w = wake s g

  abbrev n : ℕ
  n = higher (current_of w g) (current_of w c)

  abbrev p : Place
  p = Held (meeting g e (current_of w g))

  abbrev s1 : State
  s1 = rank w g n

  abbrev s2 : State
  s2 = move s1 c p Off

  apart : c ≡ g → ⊥
  apart z = clash (ap is_ready (sym (ap (place_of s) z) ∙ r.place)) out

  high1 : g ≤ length w.tasks
  high1 = omega (arith, high, length_move s g Ready Off)

  fit1 : c ≤ length w.tasks
  fit1 = omega (arith, r.high, length_move s g Ready Off)

  fit2 : c ≤ length s1.tasks
  fit2 = omega (arith, fit1, rank_length w g n low high1)

  -- the acceptor stood in no level
  absent : count g s.ready ≡ 0
  absent = h.ready g ∙ ap bit out

  current1 : (u : ℕ) → current_of w u ≡ current_of s u
  current1 u = current_moved s g Ready Off low high u

  n_is : n ≡ higher (current_of s g) (current_of s c)
  n_is = λ i. higher (current1 g i) (current1 c i)

  tail : level s1 n ≡ level s n ++ (g ∷ [])
  tail =
      raised_tail w g n low high1 (remove g s.ready) (higher_least (current_of w g) (current_of w c)) refl (count_remove_same g s.ready)
      ∙ ap (λ (l : List ℕ). filter (at_level w n) l ++ (g ∷ [])) (remove_absent g s.ready absent)
      ∙ ap (λ (l : List ℕ). l ++ (g ∷ [])) (filter_same (at_level w n) (at_level s n) s.ready (λ x _. ap (λ (k : ℕ). eqb k n) (current1 x)))

  elsewhere : (q : ℕ) → (q ≡ n → ⊥) → level s1 q ≡ level s q
  elsewhere q d =
      level_other w g n low high1 q d ∙ ap (remove g) (level_joins s g low high q ∙ ap (λ (l : List ℕ). l ++ served_at s g q) (no_level s g q absent))
      ∙ filter_append (λ x. not (eqb x g)) (level s q) (served_at s g q) ∙ (λ i. no_level s g q absent i ++ gone i) ∙ append-nil (level s q)
    where
      gone : remove g (served_at s g q) ≡ []
      gone = by_test (λ (l : List ℕ). remove g l ≡ []) (eqb (current_of s g) q) (λ _. rw (eq-eqb g g refl)) (λ _. refl)

  when_resumed : (m : Meeting) → m.holder ≡ g → m.kept ≡ current_of w g → WhenBegun s s2 c m
  when_resumed m a b = rw a (record {
    becomes_higher = now ∙ n_is;
    kept = b ∙ current1 g;
    resumed_at_tail = λ _. rw now (leaves n ∙ ap (remove c) tail ∙ filter_append (λ x. not (eqb x c)) (level s n) (g ∷ []) ∙ rw (ne_eqb g c (λ z. apart (sym z))));
    resumed_elsewhere = λ _ q d. leaves q ∙ ap (remove c) (elsewhere q (λ z. d (z ∙ sym now)));
    keeps_place = λ k. absurd (apart (sym run ∙ k));
    raised_alone = λ k. absurd (apart (sym run ∙ k));
    raised_elsewhere = λ k. absurd (apart (sym run ∙ k));
  })
    where
      now : current_of s2 g ≡ n
      now = meet_raises w g c low high1 r.low fit1 e

      leaves : (q : ℕ) → level s2 q ≡ remove c (level s1 q)
      leaves q = level_leaves s1 c p Off r.low fit2 refl q

  pub resumed : Levels s s2
  resumed =
      begins_one s s2 g c e (current_of w g) (ap is_held r.place) (meet_same w g c low high1 r.low fit1 e)
      (λ u k. ap is_held (meet_other w g c low high1 r.low fit1 e u k).place ∙ woken u)
      (λ u k. current_moved s1 c p Off r.low fit2 u ∙ current_other w g n low high1 u k ∙ current1 u) when_resumed
    where
      woken : (u : ℕ) → is_held (place_of w u) ≡ is_held (place_of s u)
      woken u = by_eq u g (λ z. rw z (ap is_held (place_same s g Ready Off low high) ∙ sym free)) (λ k. ap is_held (place_other s g Ready Off u k))
