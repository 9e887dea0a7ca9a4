-- Turns of the loops over the tree of held callers.
-- Assumes nothing.
use Rattle.std.proofs.Common.{◌≡◌, ℕ, suc, ◌+◌, ◌-◌, ◌<◌, ◌≤◌, Bool, true, false, not, eqb, List, ◌∷◌, Option, None, Some, set, sym, ap, ◌∙◌, arith, eq-eqb, ne_eqb}
use Rattle.std.specs.Bool.{then_some}
use Rattle.lists.specs.Marks.{mark_of}
use Rattle.rules.specs.State.{State, task_of, place_of, current_of, partner_of, kept_of, higher}
use Rattle.rules.specs.declared.Task.{Task}
use Rattle.soundness.specs.Marks.{Marks, has_mark, without_mark, put_mark, if_any}
use Rattle.soundness.specs.TreeCheck.{top_of, passed, climbed, all_climbed}

-- up from u: it is still to be met, it is not, and after the last turn
module _ (m : List ℕ) (w r : Marks) (i u : ℕ) (b : Bool) where
  pub climb_on : (q g : ℕ) → i < 31 → b ≡ has_mark r u → b ≡ true → q ≡ without_mark r u → g ≡ mark_of m u → climbed m w (31 - i) r u ≡ climbed m w (31 - (i + 1)) q g
  unfolding climbed
  climb_on q g h e t eq eg = let k : 31 - i ≡ suc (31 - (i + 1)) = omega arith in rw (k, ← e, t, ← eq, ← eg)

  pub climb_stop : (c : Bool) → i < 31 → b ≡ has_mark r u → b ≡ false → c ≡ has_mark w u → climbed m w (31 - i) r u ≡ then_some (not c) r
  unfolding climbed
  climb_stop c h e f ec = let k : 31 - i ≡ suc (31 - (i + 1)) = omega arith in rw (k, ← e, f, ← ec)

  pub climb_end : 31 ≤ i → climbed m w (31 - i) r u ≡ None
  unfolding climbed
  climb_end h = let k : 31 - i ≡ 0 = omega arith in rw k

-- the next of those held: its climb reaches the top, and it does not
module _ (m : List ℕ) (w : Marks) (xs : List ℕ) (c : ℕ) (ys : List ℕ) (k : Option Marks) where
  pub climbs_on : (r : Marks) → xs ≡ c ∷ ys → k ≡ climbed m w 31 w c → k ≡ Some r → all_climbed m w xs ≡ all_climbed m r ys
  climbs_on r q e s = ap (all_climbed m w) q ∙ ap (λ (x : Option Marks). if_any x (λ n. all_climbed m n ys)) (sym e ∙ s)

  pub climbs_none : xs ≡ c ∷ ys → k ≡ climbed m w 31 w c → k ≡ None → all_climbed m w xs ≡ false
  climbs_none q e s = ap (all_climbed m w) q ∙ ap (λ (x : Option Marks). if_any x (λ n. all_climbed m n ys)) (sym e ∙ s)

-- the next of those held, x, with its holder y
module _ (s : State) (m : List ℕ) (a : Marks) (xs : List ℕ) (c : ℕ) (ys : List ℕ) (x y : Task) (g top k : ℕ)
    (q : xs ≡ c ∷ ys) (ex : x ≡ task_of s c) (eg : g ≡ partner_of x.place) (ey : y ≡ task_of s g) (et : top ≡ higher y.priority (mark_of m g)) (ek : k ≡ kept_of x.place) where
  abbrev g' : ℕ
  g' = partner_of (place_of s c)

  jg : g ≡ g'
  jg = eg ∙ ap (λ (z : Task). partner_of z.place) ex

  jt : top ≡ top_of s m g'
  jt = et ∙ (λ i. higher (ey i).priority (mark_of m g)) ∙ ap (top_of s m) jg

  jk : k ≡ kept_of (place_of s c)
  jk = ek ∙ ap (λ (z : Task). kept_of z.place) ex

  -- it keeps another priority than its holder had before, and the same
  pub pass_fail : (k ≡ top → ⊥) → passed s m a xs ≡ false
  pass_fail n = ap (passed s m a) q ∙ rw (ne_eqb _ _ (λ e. n (jk ∙ e ∙ sym jt)))

  pub pass_on : k ≡ top → (now : ℕ) (p : Marks) (n : List ℕ) → now ≡ higher top x.current → p ≡ put_mark a g (not (eqb y.current now)) → n ≡ set m g now → passed s m a xs ≡ passed s n p ys
  pass_on e now p n en ep es =
      let jn : now ≡ higher (top_of s m g') (current_of s c) = en ∙ (λ i. higher (jt i) (ex i).current) in
      let jp : p ≡ put_mark a g' (not (eqb (current_of s g') (higher (top_of s m g') (current_of s c)))) = ep ∙ (λ i. put_mark a g (not (eqb (ey i).current now))) ∙ (λ i. put_mark a (jg i) (not (eqb (current_of s (jg i)) (jn i)))) in
      let js : n ≡ set m g' (higher (top_of s m g') (current_of s c)) = es ∙ (λ i. set m (jg i) (jn i)) in
      ap (passed s m a) q ∙ rw (eq-eqb _ _ (sym jk ∙ e ∙ jt)) (sym (λ i. passed s (js i) (jp i) ys))
