-- All climb to the top exactly where there is no ring.
-- Assumes nothing.
use Rattle.std.proofs.Common.{◌≡◌, ℕ, zero, suc, ◌<◌, ◌≤◌, Bool, true, false, not, eqb, List, [], ◌∷◌, Option, None, Some, length, sym, refl, ap, ◌∙◌, arith, eq-eqb, ne_eqb}
use Rattle.std.specs.Bool.{then_some}
use Rattle.lists.specs.Lists.{when◌then◌else◌, count}
use Rattle.lists.specs.Marks.{mark_of}
use Rattle.lists.proofs.Tests.{differ}
use Rattle.lists.proofs.ListLaws.{by_bool, by_eq, clash}
use Rattle.rules.specs.State.{State, place_of, is_held, partner_of}
use Rattle.rules.proofs.Invariant.{Sound}
use Rattle.rules.proofs.TreeLaws.{Moves, NoRing}
use Rattle.rules.proofs.TreeMoves.{one_way, few_moves, held_in}
use Rattle.soundness.specs.Marks.{Marks, Whole, has_mark, without_mark, if_any}
use Rattle.soundness.specs.TreeCheck.{climbed, all_climbed}
use Rattle.soundness.proofs.MarkLaws.{without_whole, has_without}

-- one climb, at one that is still to be met, and at one that is not
module _ (m : List ℕ) (w : Marks) (n : ℕ) (r : Marks) (u : ℕ) where
  climbs : has_mark r u ≡ true → climbed m w (suc n) r u ≡ climbed m w n (without_mark r u) (mark_of m u)
  unfolding climbed
  climbs e = rw e

  stops : has_mark r u ≡ false → climbed m w (suc n) r u ≡ then_some (not (has_mark w u)) r
  unfolding climbed
  stops e = rw e

-- a climb that stops reaches the top where the one at which it stops was known, and leaves the word as it was
stopped : (b : Bool) (r q : Marks) → then_some (not b) r ≡ Some q → r ≡ q
stopped true r q e = absurd (cc)
stopped false r q e = cc

stopped_top : (b : Bool) (r q : Marks) → then_some (not b) r ≡ Some q → b ≡ false
stopped_top true r q e = absurd (cc)
stopped_top false r q e = refl

-- where a test of what is reached passes, something is
reached : (k : Option Marks) (f : Marks → Bool) → if_any k f ≡ true → (q : Marks) × (k ≡ Some q) × (f q ≡ true)
reached None f e = absurd (differ (sym e))
reached (Some q) f e = (q, refl, e)

-- the marks m tell the holder of each that is held
module _ (v : State) (h : Sound v) (m : List ℕ) (holder : (t : ℕ) → is_held (place_of v t) ≡ true → mark_of m t ≡ partner_of (place_of v t)) where
  -- only those held are to be met
  pub record Within (w : Marks) : Type 0 where
    pub whole : Whole w
    pub held : (t : ℕ) → has_mark w t ≡ true → is_held (place_of v t) ≡ true

  -- who is not to be met is known to reach the top
  abbrev pub Known : Marks → Type 0
  Known w = (t : ℕ) → has_mark w t ≡ false → (k : ℕ) × Moves v k t

  -- u is still to be met
  module _ (r : Marks) (u : ℕ) (ok : Within r) (y : has_mark r u ≡ true) where
    here : is_held (place_of v u) ≡ true
    here = ok.held u y

    without : (t : ℕ) → has_mark (without_mark r u) t ≡ (when eqb t u then false else has_mark r t)
    without t = has_without r u t ok.whole (omega (arith, (held_in v u h here).1, h.few)) y

    met : has_mark (without_mark r u) u ≡ false
    met = without u ∙ rw (eq-eqb u u refl)

    others : (t : ℕ) → (t ≡ u → ⊥) → has_mark (without_mark r u) t ≡ has_mark r t
    others t n = without t ∙ rw (ne_eqb t u n)

    within : Within (without_mark r u)
    within = record {
      whole = without_whole r u ok.whole;
      held = λ t q. by_eq t u (λ e. clash q (ap (has_mark (without_mark r u)) e ∙ met)) (λ n. ok.held t (sym (others t n) ∙ q));
    }

    less : (t : ℕ) → has_mark r t ≡ false → has_mark (without_mark r u) t ≡ false
    less t e = by_eq t u (λ q. ap (has_mark (without_mark r u)) q ∙ met) (λ n. others t n ∙ e)

    -- from its holder one move fewer
    up : (k : ℕ) → Moves v k (mark_of m u) → Moves v (suc k) u
    up k w = (here, rw (holder u here) at w)

  -- what a climb leaves was to be met before
  pub record Left (r q : Marks) : Type 0 where
    pub within : Within q
    pub less : (t : ℕ) → has_mark r t ≡ false → has_mark q t ≡ false

  climb_left : (n : ℕ) (w r : Marks) (u : ℕ) → Within r → (q : Marks) → climbed m w n r u ≡ Some q → Left r q
  unfolding climbed
  climb_left zero w r u ok q e = absurd (cc)
  climb_left (suc n) w r u ok q e =
      by_bool (has_mark r u)
      (λ y. let l = climb_left n w (without_mark r u) (mark_of m u) (within r u ok y) q (sym (climbs m w n r u y) ∙ e) in record { within = l.within; less = λ t z. l.less t (less r u ok y t z) })
      (λ y. let z : r ≡ q = stopped (has_mark w u) r q (sym (stops m w n r u y) ∙ e) in rw (← z) (record { within = ok; less = λ t e. e }))

  -- the one from which it starts is met
  start_met : (w : Marks) (c : ℕ) → Within w → (q : Marks) → climbed m w 31 w c ≡ Some q → has_mark q c ≡ false
  start_met w c ok q e =
      by_bool (has_mark w c)
      (λ y. (climb_left 30 w (without_mark w c) (mark_of m c) (within w c ok y) q (sym (climbs m w 30 w c y) ∙ e)).less c (met w c ok y))
      (λ y. (climb_left 31 w w c ok q e).less c y)

  -- ── a climb that reaches the top ──

  -- who is not to be met reaches the top if u does
  abbrev Leads : Marks → ℕ → Type 0
  Leads r u = (t : ℕ) → has_mark r t ≡ false → (k : ℕ) → Moves v k u → (j : ℕ) × Moves v j t

  climb_known : (n : ℕ) (w r : Marks) (u : ℕ) → Within r → Leads r u → Known w → (q : Marks) → climbed m w n r u ≡ Some q → Known q
  unfolding climbed
  climb_known zero w r u ok leads known q e = absurd (cc)
  climb_known (suc n) w r u ok leads known q e =
      by_bool (has_mark r u)
      (λ y. climb_known n w (without_mark r u) (mark_of m u) (within r u ok y)
      (λ t z k a. by_eq t u (λ q. rw q (suc k, up r u ok y k a)) (λ d. leads t (sym (others r u ok y t d) ∙ z) (suc k) (up r u ok y k a)))
      known q (sym (climbs m w n r u y) ∙ e))
      (λ y. let s = sym (stops m w n r u y) ∙ e in let k = known u (stopped_top (has_mark w u) r q s) in
      λ t z. leads t (ap (λ (x : Marks). has_mark x t) (stopped (has_mark w u) r q s) ∙ z) k.0 k.1)

  -- where all climbs do, all of the list reach the top
  pub all_known : (l : List ℕ) (w : Marks) → Within w → Known w → all_climbed m w l ≡ true → (c : ℕ) → 0 < count c l → (k : ℕ) × Moves v k c
  all_known [] w ok known e c j = absurd (omega arith)
  all_known (x ∷ l) w ok known e c j =
      let k = reached (climbed m w 31 w x) (λ r. all_climbed m r l) e in
      let now : Known k.0 = climb_known 31 w w x ok (λ t z _ _. known t z) known k.0 k.1 in
      by_eq x c
      (λ q. now c (rw (← q) (start_met w x ok k.0 k.1)))
      (λ d. all_known l k.0 (climb_left 31 w w x ok k.0 k.1).within now k.2 c (omega (arith, rw (ne_eqb x c d) at j)))

  -- ── where there is no ring ──

  -- who was met on the way has more moves to go than u
  abbrev Farther : Marks → Marks → ℕ → Type 0
  Farther w r u = (t : ℕ) → has_mark w t ≡ true → has_mark r t ≡ false → (i j : ℕ) → Moves v i t → Moves v j u → j < i

  -- u is not to be met: it was not when the climb began, since it has not more moves to go than itself
  arrived : (n : ℕ) (w r : Marks) (u j : ℕ) → Moves v j u → Farther w r u → has_mark r u ≡ false → (q : Marks) × (climbed m w (suc n) r u ≡ Some q)
  arrived n w r u j a far y = (r, stops m w n r u y ∙ by_bool (has_mark w u) (λ z. absurd (omega (arith, far u z y j j a a))) (λ z. rw z))

  climb_good : (n : ℕ) (w r : Marks) (u j : ℕ) → Within r → Moves v j u → j < n → Farther w r u → (q : Marks) × (climbed m w n r u ≡ Some q)
  climb_good zero w r u j ok a k far = absurd (omega arith)
  climb_good (suc n) w r u zero ok a k far = by_bool (has_mark r u) (λ y. clash (ok.held u y) a) (arrived n w r u 0 a far)
  climb_good (suc n) w r u (suc j) ok a k far =
      by_bool (has_mark r u)
      (λ y. let c =
      climb_good n w (without_mark r u) (mark_of m u) j (within r u ok y) (rw (holder u a.0) a.1) (omega arith)
      (λ t z e i d b q. let more = up r u ok y d q in
      by_eq t u (λ s. omega (arith, one_way v i (suc d) u (rw s at b) more)) (λ s. omega (arith, far t z (sym (others r u ok y t s) ∙ e) i (suc d) b more))) in
      (c.0, climbs m w n r u y ∙ c.1))
      (arrived n w r u (suc j) a far)

  pub all_climb : (l : List ℕ) (w : Marks) → Within w → NoRing v → ((c : ℕ) → 0 < count c l → (0 < c) × (c ≤ length v.tasks)) → all_climbed m w l ≡ true
  all_climb [] w ok free inside = refl
  all_climb (x ∷ l) w ok free inside =
      let i = inside x (rw (eq-eqb x x refl) (omega arith)) in
      let a = free x in
      let k = climb_good 31 w w x a.0 ok a.1 (omega (arith, few_moves v a.0 x h i.0 i.1 a.1)) (λ t y z. clash y z) in
      rw k.1 (all_climb l k.0 (climb_left 31 w w x ok k.0 k.1).within free (λ c j. inside c (omega arith)))
