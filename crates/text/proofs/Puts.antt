-- Laws of text that is put into a row: one text behind the other is both at once.
-- Assumes nothing.
use Prim.Native.Nat.{ℕ, zero, suc, ◌+◌, ◌≤◌, ◌<◌, min}
use mathlib.Core.Path.{◌≡◌, refl, sym, ap, subst, ◌∙◌}
use mathlib.Core.List.{List, [], ◌∷◌, ◌++◌}
use native.Mathlib.Omega.{arith}
use lib.ListN.{length, take, drop, length-append, set}
use Rattle.lists.specs.Over.{over}
use Rattle.lists.proofs.OverLaws.{over_nil, over_length, over_whole}
use Rattle.text.specs.Text.{put_at, Uncut, behind, Put}

pub put_nil : (row : List ℕ) (at : ℕ) → put_at row at [] ≡ row
put_nil [] at = refl
put_nil (x ∷ row) zero = refl
put_nil (x ∷ row) (suc at) = ap (λ (r : List ℕ). x ∷ r) (put_nil row at)

pub put_length : (row : List ℕ) (at : ℕ) (text : List ℕ) → length (put_at row at text) ≡ length row
put_length [] at text = refl
put_length (x ∷ row) zero text = over_length (x ∷ row) text
put_length (x ∷ row) (suc at) text = ap suc (put_length row at text)

over_over : (row a b : List ℕ) → put_at (over row a) (min (length a) (length row)) b ≡ over row (a ++ b)
over_over [] a b = refl
over_over (x ∷ row) [] b =
    let z : min 0 (suc (length row)) ≡ 0 = omega arith in
    ap (λ (k : ℕ). put_at (x ∷ row) k b) z
over_over (x ∷ row) (t ∷ a) b =
    let z : min (suc (length a)) (suc (length row)) ≡ suc (min (length a) (length row)) = omega arith in
    ap (λ (k : ℕ). put_at (t ∷ over row a) k b) z ∙ ap (λ (r : List ℕ). t ∷ r) (over_over row a b)

pub put_put : (row : List ℕ) (at : ℕ) (a b : List ℕ) → put_at (put_at row at a) (behind row at a) b ≡ put_at row at (a ++ b)
put_put [] at a b = refl
put_put (x ∷ row) zero a b =
    let z : behind (x ∷ row) 0 a ≡ min (length a) (length (x ∷ row)) = omega arith in
    ap (λ (k : ℕ). put_at (over (x ∷ row) a) k b) z ∙ over_over (x ∷ row) a b
put_put (x ∷ row) (suc at) a b =
    let z : behind (x ∷ row) (suc at) a ≡ suc (behind row at a) = omega arith in
    ap (λ (k : ℕ). put_at (x ∷ put_at row at a) k b) z ∙ ap (λ (r : List ℕ). x ∷ r) (put_put row at a b)

behind_behind : (row : List ℕ) (at : ℕ) (a b : List ℕ) → behind (put_at row at a) (behind row at a) b ≡ behind row at (a ++ b)
behind_behind row at a b = rw (put_length row at a, length-append a b) (omega arith)

at_whole : (row : List ℕ) (at : ℕ) (text : List ℕ) → at + length text ≤ length row → Uncut row at text (put_at row at text)
at_whole [] zero [] h = refl
at_whole [] zero (t ∷ text) h = absurd (omega arith)
at_whole [] (suc at) text h = absurd (omega arith)
at_whole (x ∷ row) zero text h =
    let z : 0 + length text ≡ length text = omega arith in
    over_whole (x ∷ row) text (omega arith) ∙ ap (λ (k : ℕ). text ++ drop k (x ∷ row)) (sym z)
at_whole (x ∷ row) (suc at) text h =
    let z : suc at + length text ≡ suc (at + length text) = omega arith in
    ap (λ (r : List ℕ). x ∷ r) (at_whole row at text (omega arith)) ∙ ap (λ (k : ℕ). x ∷ (take at row ++ (text ++ drop k (x ∷ row)))) (sym z)

-- where there is room for it, all of a text is put
pub put_whole : (row : List ℕ) (at : ℕ) (text after : List ℕ) → after ≡ put_at row at text → at + length text ≤ length row → Uncut row at text after
put_whole row at text after e h = e ∙ at_whole row at text h

-- nothing is put: the row stays, and the place is the same, or the row's end
pub put_none : {row : List ℕ} {at k : ℕ} → k ≡ min at (length row) → Put row at [] row k
put_none {row} {at} e = record { written = sym (put_nil row at); placed = omega (arith, e) }

-- one text, and another behind it
pub then_put : {row a b after last : List ℕ} {at k m : ℕ} → Put row at a after k → Put after k b last m → Put row at (a ++ b) last m
then_put {row} {a} {b} {at = at} p q = record {
  written = q.written ∙ rw (p.written, p.placed) (put_put row at a b);
  placed = q.placed ∙ rw (p.written, p.placed) (behind_behind row at a b);
}

-- the row is as long as before
pub put_kept : {row text after : List ℕ} {at k : ℕ} → Put row at text after k → length after ≡ length row
put_kept {row} {text} {at = at} p = ap length p.written ∙ put_length row at text

-- a byte within the row, and one behind its end
put_set : (row : List ℕ) (at b : ℕ) → at < length row → set row at b ≡ put_at row at (b ∷ [])
put_set [] at b h = absurd (omega arith)
put_set (x ∷ row) zero b h = ap (λ (r : List ℕ). b ∷ r) (sym (over_nil row))
put_set (x ∷ row) (suc at) b h = ap (λ (r : List ℕ). x ∷ r) (put_set row at b (omega arith))

put_past : (row : List ℕ) (at : ℕ) (text : List ℕ) → length row ≤ at → row ≡ put_at row at text
put_past [] at text h = refl
put_past (x ∷ row) zero text h = absurd (omega arith)
put_past (x ∷ row) (suc at) text h = ap (λ (r : List ℕ). x ∷ r) (put_past row at text (omega arith))

pub put_one : (row : List ℕ) (at b : ℕ) → at < length row → Put row at (b ∷ []) (set row at b) (at + 1)
put_one row at b h = record { written = put_set row at b h; placed = omega arith }

pub put_no_room : (row : List ℕ) (at b : ℕ) → length row ≤ at → Put row at (b ∷ []) row (length row)
put_no_room row at b h = record { written = put_past row at (b ∷ []) h; placed = omega arith }

-- what is put of a text so far, and the rest of it: together the whole
pub record Putting (row : List ℕ) (at : ℕ) (text now : List ℕ) (place : ℕ) (rest : List ℕ) : Type 0 where
  pub row_then : put_at row at text ≡ put_at now place rest
  pub place_then : behind row at text ≡ behind now place rest
  pub long : length now ≡ length row
  pub within : place ≤ length row

pub putting_start : (row : List ℕ) (at : ℕ) (text : List ℕ) {k : ℕ} → k ≡ min at (length row) → Putting row at text row k text
putting_start row at text {k} e =
    let z : k ≡ behind row at [] = e ∙ (omega arith) in record {
      row_then = sym (put_put row at [] text) ∙ rw (put_nil row at, z) refl;
      place_then = omega (arith, z);
      long = refl;
      within = omega (arith, e);
    }

-- the same rest under another name
pub toward : {row text now a b : List ℕ} {at k : ℕ} → a ≡ b → Putting row at text now k a → Putting row at text now k b
toward {row} {text} {now} {at = at} {k = k} e g = subst (Putting row at text now k) e g

pub putting_on : {row text now next a rest : List ℕ} {at k m : ℕ} → Putting row at text now k (a ++ rest) → Put now k a next m → Putting row at text next m rest
putting_on {row} {text} {now} {next} {a} {rest} {at} {k} {m} g p = record {
  row_then = g.row_then ∙ sym (rw (p.written, p.placed) (put_put now k a rest));
  place_then = g.place_then ∙ sym (rw (p.written, p.placed) (behind_behind now k a rest));
  long = ap length p.written ∙ put_length now k a ∙ g.long;
  within = omega (arith, p.placed, g.long);
}

pub putting_done : {row text now : List ℕ} {at k : ℕ} → Putting row at text now k [] → Put row at text now k
putting_done {row} {text} {now} {at} {k} g = record {
  written = sym (g.row_then ∙ put_nil now k);
  placed = sym (g.place_then ∙ (omega (arith, g.long, g.within)));
}

-- the same text under another name
pub same_text : {row a b after : List ℕ} {at k : ℕ} → a ≡ b → Put row at a after k → Put row at b after k
same_text {row} {after = after} {at = at} {k = k} e p = subst (λ (t : List ℕ). Put row at t after k) e p
