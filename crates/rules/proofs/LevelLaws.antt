-- What a move and another current priority do to the ready queues.
-- Assumes nothing.
use Prim.Native.Nat.{ℕ, ◌≤◌, ◌<◌}
use mathlib.Core.Path.{◌≡◌, refl, sym, ◌∙◌, ap}
use mathlib.Core.Logic.{inl, inr}
use mathlib.Core.Bool.{Bool, true, false, not}
use mathlib.Core.List.{List, [], ◌∷◌, ◌++◌}
use native.Mathlib.Omega.{arith}
use lib.ListN.{length}
use lib.Dec.{eqb, ltb}
use borrow.Author.Tests.{eqb-true, eq-eqb, ne_eqb, le-ltb, lt-ltb, ltb-true}
use Rattle.lists.specs.Lists.{when◌then◌else◌, count, filter, remove, to_head}
use Rattle.rules.specs.State.{State, place_of, current_of, kept_of, is_ready, level, at_level, running, rank, move, wake, higher, meeting, meet, part}
use Rattle.rules.specs.EachStep.{Dispatched}
use Rattle.rules.specs.Levels.{served_at}
use Rattle.rules.specs.declared.Task.{Task}
use Rattle.rules.specs.declared.Timer.{Timer}
use Rattle.rules.specs.declared.Timer.TheVariants.{Off}
use Rattle.rules.specs.declared.Place.{Place}
use Rattle.rules.specs.declared.Place.TheVariants.{Ready, Held}
use Rattle.lists.proofs.ListLaws.{by_bool, by_eq, by_test, count_filter_le, count_remove_same, count_filter_yes}
use Rattle.lists.proofs.MarkLaws.{filter_same, filter_one, filter_remove, filter_swap, filter_append, remove_absent}
use Rattle.rules.proofs.Invariant.{Sound}
use Rattle.rules.proofs.Members.{in_filter}
use Rattle.rules.proofs.MoveLaws.{task_same, task_other, place_same, rank_length, current_same, current_other}
use Rattle.rules.proofs.Dispatch.{dispatched}

-- ── a move ──

module _ (s : State) (t : ℕ) (p : Place) (w : Timer) (pos : 0 < t) (fit : t ≤ length s.tasks) where
  -- nobody's current priority changes
  pub current_moved : (u : ℕ) → current_of (move s t p w) u ≡ current_of s u
  current_moved u = by_eq u t (λ e. rw e (ap (λ (x : Task). x.current) (task_same s t p w pos fit))) (λ n. ap (λ (x : Task). x.current) (task_other s t p w u n))

  level_rest : (q : ℕ) → filter (at_level (move s t p w) q) (remove t s.ready) ≡ remove t (level s q)
  level_rest q =
      filter_same (at_level (move s t p w) q) (at_level s q) (remove t s.ready) (λ x _. ap (λ (c : ℕ). eqb c q) (current_moved x))
      ∙ filter_swap (at_level s q) (λ x. not (eqb x t)) s.ready

  -- one that goes to another place leaves its level
  pub level_leaves : is_ready p ≡ false → (q : ℕ) → level (move s t p w) q ≡ remove t (level s q)
  level_leaves e q = rw e (level_rest q)

-- one that wakes joins the tail of its level
pub level_joins : (s : State) (t : ℕ) → 0 < t → t ≤ length s.tasks → (q : ℕ) → level (wake s t) q ≡ remove t (level s q) ++ served_at s t q
level_joins s t pos fit q =
    filter_append (at_level (wake s t) q) (remove t s.ready) (t ∷ [])
    ∙ λ i. level_rest s t Ready Off pos fit q i ++ (when eqb (current_moved s t Ready Off pos fit t i) q then t ∷ [] else [])

-- who is not ready stands in no level
pub no_level : (s : State) (u q : ℕ) → count u s.ready ≡ 0 → remove u (level s q) ≡ level s q
no_level s u q z = remove_absent u (level s q) (omega (arith, z, count_filter_le (at_level s q) u s.ready))

-- ── another current priority ──

module _ (s : State) (t n : ℕ) (pos : 0 < t) (fit : t ≤ length s.tasks) where
  -- all but t are of the level of which they were
  others : (q : ℕ) → filter (at_level (rank s t n) q) (remove t s.ready) ≡ filter (at_level s q) (remove t s.ready)
  others q = filter_same (at_level (rank s t n) q) (at_level s q) (remove t s.ready) (λ x j. ap (λ (c : ℕ). eqb c q) (current_other s t n pos fit x (λ e. omega (arith, count_remove_same t s.ready, rw e at j))))

  -- one that is lowered goes to the head of the ready line
  lowered_line : ltb n (current_of s t) ≡ true → (rank s t n).ready ≡ to_head t s.ready
  lowered_line e = ap (λ (b : Bool). when b then to_head t s.ready else s.ready) e

  -- so it stands at the head of its new level
  pub lowered_head : n < current_of s t → level (rank s t n) n ≡ t ∷ level s n
  lowered_head h =
      ap (filter (at_level (rank s t n) n)) (lowered_line (lt-ltb n (current_of s t) h))
      ∙ rw (current_same s t n pos fit, eq-eqb n n refl)
      (ap (λ (l : List ℕ). t ∷ l) (others n ∙ filter_remove (at_level s n) t s.ready (ne_eqb (current_of s t) n (λ z. omega arith))))

  -- it leaves every other level
  pub level_other : (q : ℕ) → (q ≡ n → ⊥) → level (rank s t n) q ≡ remove t (level s q)
  level_other q m =
      by_bool (ltb n (current_of s t))
      (λ e. ap (filter (at_level (rank s t n) q)) (lowered_line e) ∙ rw (current_same s t n pos fit, off) (others q ∙ swapped))
      (λ e. rw e (sym (filter_remove (at_level (rank s t n) q) t s.ready (ap (λ (c : ℕ). eqb c q) (current_same s t n pos fit) ∙ off)) ∙ others q ∙ swapped))
    where
      off : eqb n q ≡ false
      off = ne_eqb n q (λ z. m (sym z))

      swapped : filter (at_level s q) (remove t s.ready) ≡ remove t (level s q)
      swapped = filter_swap (at_level s q) (λ x. not (eqb x t)) s.ready

  -- with the current priority that it has, it keeps its place, and so do all others
  pub level_kept : current_of s t ≡ n → (q : ℕ) → level (rank s t n) q ≡ level s q
  level_kept e q =
      rw (le-ltb n (current_of s t) (omega (arith, e)))
      (filter_same (at_level (rank s t n) q) (at_level s q) s.ready (λ x _. ap (λ (c : ℕ). eqb c q) (by_eq x t (λ z. ap (current_of (rank s t n)) z ∙ current_same s t n pos fit ∙ sym e ∙ ap (current_of s) (sym z)) (current_other s t n pos fit x))))

  -- raised to a level on which nobody stands, it stands there alone
  pub raised_lone : current_of s t < n → count t s.ready ≡ 1 → level s n ≡ [] → level (rank s t n) n ≡ t ∷ []
  raised_lone h k e =
      rw (le-ltb n (current_of s t) (omega arith))
      (filter_same (at_level (rank s t n) n) (λ x. eqb x t) s.ready
      (λ x j. by_eq x t
      (λ z. rw (z, current_same s t n pos fit, eq-eqb n n refl, eq-eqb t t refl))
      (λ m. rw (current_other s t n pos fit x m, ne_eqb x t m) (empty x j)))
      ∙ filter_one t s.ready k)
    where
      empty : (x : ℕ) → 0 < count x s.ready → eqb (current_of s x) n ≡ false
      empty x j = by_bool (eqb (current_of s x) n) (λ b. absurd (omega (arith, j, count_filter_yes (at_level s n) x s.ready b, ap (count x) e))) (λ b. b)

  -- raised or not, one that stands at the end of the ready line stands at the tail of its new level
  pub raised_tail : (l : List ℕ) → current_of s t ≤ n → s.ready ≡ l ++ (t ∷ []) → count t l ≡ 0 → level (rank s t n) n ≡ filter (at_level s n) l ++ (t ∷ [])
  raised_tail l h e z =
      rw (le-ltb n (current_of s t) (omega arith), e, filter_append (at_level (rank s t n) n) l (t ∷ []), current_same s t n pos fit, eq-eqb n n refl)
      (ap (λ (k : List ℕ). k ++ (t ∷ []))
      (filter_same (at_level (rank s t n) n) (at_level s n) l (λ x j. ap (λ (c : ℕ). eqb c n) (current_other s t n pos fit x (λ q. omega (arith, z, rw q at j))))))

-- ── a rendezvous ──

module _ (s : State) (g c : ℕ) (low : 0 < g) (high : g ≤ length s.tasks) (pos : 0 < c) (fit : c ≤ length s.tasks) where
  there : (n : ℕ) → c ≤ length (rank s g n).tasks
  there n = omega (arith, fit, rank_length s g n low high)

  -- the acceptor's current priority becomes the higher of both
  pub meet_raises : (e : ℕ) → current_of (meet s g c e) g ≡ higher (current_of s g) (current_of s c)
  meet_raises e =
      let n = higher (current_of s g) (current_of s c) in
      current_moved (rank s g n) c (Held (meeting g e (current_of s g))) Off pos (there n) g ∙ current_same s g n low high

  -- what it was before stands in the caller's place
  pub meet_keeps : (e : ℕ) → kept_of (place_of (meet s g c e) c) ≡ current_of s g
  meet_keeps e =
      let n = higher (current_of s g) (current_of s c) in
      ap kept_of (place_same (rank s g n) c (Held (meeting g e (current_of s g))) Off pos (there n))

  -- and is put back
  pub part_puts_back : current_of (part s g c) g ≡ kept_of (place_of s c)
  part_puts_back = let n = kept_of (place_of s c) in current_moved (rank s g n) c Ready Off pos (there n) g ∙ current_same s g n low high

-- ── the running task ──

-- above its level nobody stands
pub above_running : (s : State) (t n : ℕ) → Sound s → running s ≡ t → 0 < t → current_of s t < n → level s n ≡ []
above_running s t n h e pos k = go (dispatched s h)
  where
    go : Dispatched s (running s) → level s n ≡ []
    go (inl d) = absurd (omega (arith, d.0, e, pos))
    go (inr d) =
        let p = d.1.priority in
        let i = in_filter (at_level s p) t s.ready (rw (d.1.heads, e, eq-eqb t t refl) (omega arith)) in
        d.1.highest n (omega (arith, k, eqb-true (current_of s t) p i.0))

-- ── the higher of two ──

pub higher_raised : (a b : ℕ) → a < b → higher a b ≡ b
higher_raised a b h = rw (lt-ltb a b h)

pub higher_kept : (a b : ℕ) → b ≤ a → higher a b ≡ a
higher_kept a b h = rw (le-ltb a b h)

pub higher_least : (a b : ℕ) → a ≤ higher a b
higher_least a b = by_test (λ (n : ℕ). a ≤ n) (ltb a b) (λ e. omega (arith, ltb-true a b e)) (λ _. omega arith)
