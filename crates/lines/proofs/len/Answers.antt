use Rattle.std.proofs.Common.{◌≡◌, ℕ, zero, suc, ◌+◌, ◌∷◌, cond, eqb, ltb, List, length, Some, None, refl, sym, ◌∙◌, arith, rules, tests, ltb-false, ne_eqb}
use Rattle.std.specs.List.{position_or_len}
use Rattle.std.specs.Option.{unwrap_or}
use Rattle.std.proofs.lemmas.Iterator.{YieldsList-from_slice}
use Rattle.std.proofs.lemmas.Iterator.Search.{position_from_yields_List}
use Rattle.std.proofs.lemmas.List.Recursion.{is_position_or_len}
use Rattle.lists.specs.Line.{line}
use Rattle.lists.proofs.ListLaws.{by_bool}
use Rattle.lists.proofs.LineLaws.{length_line}
use Rattle.lines.proofs.len.Goals as goal

-- a line ends at the first blank
first_blank : (xs : List ℕ) → length (line xs) ≡ position_or_len (λ x. eqb x 0) xs
first_blank = is_position_or_len (λ xs. length (line xs)) (λ x. eqb x 0) refl step
  where
    step : (x : ℕ) (xs : List ℕ) → length (line (x ∷ xs)) ≡ cond (eqb x 0) 0 (1 + length (line xs))
    step zero xs = refl
    step (suc n) xs = rw (ne_eqb (suc n) 0 (λ e. omega (arith, e))) (omega arith)

-- or behind the last place
found : (a : List ℕ) (n : ℕ) → n ≡ position_or_len (λ x. eqb x 0) a → unwrap_or (cond (ltb n (length a)) (Some n) None) (length a) ≡ length (line a)
found a n e =
    let w = first_blank a in
    by_bool (ltb n (length a)) (λ p. rw p (e ∙ sym w)) (λ p. rw p (omega (arith, length_line a, ltb-false n (length a) p)))

pub returns : goal.returns
returns c =
    let a = c.args.a in
    let l : length a ≡ 31 = search rules in
    let p = position_from_yields_List (λ x. eqb x 0) _ _ c.position.result c.position.ensures.ran (YieldsList-from_slice a cc) (λ x b q k. search (rules, tests)) in
    c.unwrap_or.ensures ∙ (λ i. unwrap_or (p i) (sym l i)) ∙ found a _ refl
