-- A lent table that is read and written place by place.
-- Assumes nothing.
use Rattle.std.proofs.Common.{◌≡◌, ℕ, zero, suc, ◌-◌, min, ◌≤◌, Bool, true, false, List, [], ◌∷◌, ◌++◌, length, take, drop, length-take-le, replicate, ap, ◌∙◌, le_of_suc-le-suc, not-suc-le-zero, arith}
use Rattle.std.specs.List.{list_all}
use Rattle.workspace.specs.declared.Stretch.{Stretch}
use Rattle.workspace.specs.declared.Table.{Table}
use Rattle.lists.specs.Lists.{when◌then◌else◌, every}
use Rattle.workspace.specs.Rules.{none, is_none}
use Rattle.workspace.specs.Operations.{table_after}
use Rattle.lists.specs.Over.{over}
use Rattle.workspace.specs.Seen.{table_of, laid}
use Rattle.workspace.proofs.PlaceLaws.{over_own, over_cut, behind_cut}
use Rattle.lists.proofs.ListLaws.{every_is}
use Rattle.workspace.proofs.Padded.{pad, pad_nil, none_over}

-- what lies below the 32 places
abbrev pub under : Bool → List Stretch → List Stretch
under clear l = when clear then replicate (length l) none else l

-- a table is written: first what lies below, then the 32 places as far as it has them
pub laid_cut : (t : Table) (l m : List Stretch) (n : ℕ) {front : List Stretch} → length t.places ≡ 32 → m ≡ under t.clear l → n ≡ min (length m) 32 → front ≡ take n t.places → front ++ drop n m ≡ laid t l
unfolding laid
laid_cut t l m n long below e f = (λ i. f i ++ drop n m) ∙ over_cut n m t.places (omega (arith, e, long)) ∙ ap (λ (k : List Stretch). over k t.places) below

-- what is seen of a table, written to it again, is the table
pub laid_own : (l : List Stretch) → laid (record { places = (table_of l).places; clear = false }) l ≡ l
unfolding laid table_of
laid_own l = over_own 32 l

-- a list in 32 places, written to a table, is the table afterwards
lay_over : (k m : ℕ) (l : List Stretch) → length l ≤ k → length l ≤ m → over (replicate m none) (pad k l) ≡ l ++ replicate (m - length l) none
lay_over k m [] h n = ap (over (replicate m none)) (pad_nil k) ∙ none_over m k ∙ ap (λ (i : ℕ). replicate i none) (let e : m ≡ m - 0 = omega arith in e)
lay_over zero m (x ∷ xs) h n = absurd (not-suc-le-zero h)
lay_over (suc k) zero (x ∷ xs) h n = absurd (not-suc-le-zero n)
lay_over (suc k) (suc m) (x ∷ xs) h n = ap (λ (l : List Stretch). x ∷ l) (lay_over k m xs (le_of_suc-le-suc h) (le_of_suc-le-suc n)) ∙ ap (λ (i : ℕ). (x ∷ xs) ++ replicate i none) (let e : m - length xs ≡ suc m - suc (length xs) = omega arith in e)

pub laid_list : (l table : List Stretch) → length l ≤ 32 → length l ≤ length table → laid (record { places = pad 32 l; clear = true }) table ≡ table_after table l
unfolding laid
laid_list l table h n = lay_over 32 (length table) l h n

-- a table is read: its first places over unused ones, and all that is behind them
pub seen_cut : (l : List Stretch) (n : ℕ) {front behind places : List Stretch} {clear : Bool} → n ≡ min (length l) 32 → front ≡ take n l → behind ≡ drop n l → places ≡ front → clear ≡ list_all is_none behind
    → ◌≡◌ {A = Table} (record { places = places ++ drop (length front) (replicate 32 none); clear = clear }) (table_of l)
unfolding table_of
seen_cut l n {front = front} {behind = behind} en ef eb ep ec =
    let k : length front ≡ n = ap length ef ∙ length-take-le n l (omega (arith, en)) in
    λ i. record {
      places = ((λ j. (ep ∙ ef) j ++ drop (k j) (replicate 32 none)) ∙ over_cut n (replicate 32 none) l (omega (arith, en))) i;
      clear = (ec ∙ every_is is_none behind ∙ ap (every is_none) eb ∙ behind_cut n l en) i;
    }
