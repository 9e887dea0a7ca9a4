-- Turns of the loops: down from a number, and over a line.
-- Assumes nothing.
use Rattle.std.proofs.Common.{◌≡◌, ℕ, zero, suc, ◌+◌, ◌<◌, ◌≤◌, Bool, ◌&&◌, List, ◌∷◌, length, get_or, drop, sym, refl, ap, ◌∙◌, add-one, drop_of_length-le, drop-cons, le-leb}
use Rattle.lists.specs.Line.{blanks}
use Rattle.lists.specs.Lists.{down_from}
use Rattle.soundness.specs.Marks.{Marks, has_mark, next_mark, without_mark, is_none}
use Rattle.soundness.specs.Check.{marked, walked, ascending}

-- the word with the next task below, if it passes the test, goes on with those below it
pub mark_on : (f : ℕ → Bool) (m n t : ℕ) (b : Bool) → b ≡ f (suc t) → n ≡ next_mark m b → marked f m (down_from (suc t)) ≡ marked f n (down_from t)
mark_on f m n t b eb en = λ i. marked f (sym (en ∙ ap (next_mark m) eb) i) (down_from t)

-- ── a line ──

-- a walk from place i on: at a blank, at a number, and behind the last place
module _ (m : Marks) (l : List ℕ) (i : ℕ) where
  pub walk_blank : i < length l → get_or l i 0 ≡ 0 → walked m (drop i l) ≡ (is_none m && blanks (drop i l))
  walk_blank h e = rw (drop-cons l i 0 h, e)

  pub walk_on : i < length l → (get_or l i 0 ≡ 0 → ⊥) → walked m (drop i l) ≡ (has_mark m (get_or l i 0) && walked (without_mark m (get_or l i 0)) (drop (i + 1) l))
  walk_on h n = rw (drop-cons l i 0 h, add-one i) (number (get_or l i 0) n)
    where
      number : (x : ℕ) → (x ≡ 0 → ⊥) → walked m (x ∷ drop (suc i) l) ≡ (has_mark m x && walked (without_mark m x) (drop (suc i) l))
      number zero n = absurd (n refl)
      number (suc x) n = refl

  pub walk_end : length l ≤ i → walked m (drop i l) ≡ is_none m
  walk_end h = rw (drop_of_length-le l h)

-- keys in order: the next is at least the last
pub order_on : (k : ℕ → ℕ) (a : ℕ) (xs : List ℕ) (c : ℕ) (ys : List ℕ) (n : ℕ) → xs ≡ c ∷ ys → n ≡ k c → a ≤ n → ascending k a xs ≡ ascending k n ys
order_on k a xs c ys n q e h = ap (ascending k a) q ∙ rw (← e, le-leb a n h)
