-- Laws of text in a row: one text behind the other is both at once, and what is cut off stays off.
-- Assumes nothing.
use Prim.Native.Nat.{ℕ, zero, suc, ◌≤◌, min}
use mathlib.Core.Path.{◌≡◌, refl, sym, ap, subst, ◌∙◌}
use mathlib.Core.List.{List, [], ◌∷◌, ◌++◌, append_assoc, append-nil}
use native.Mathlib.Omega.{arith}
use lib.ListN.{length, take, length-take}
use lib.Seq.{take_all}
use Rattle.lists.specs.Over.{over}
use Rattle.text.specs.Text.{put_at, behind, Put}
use Rattle.text.proofs.Puts.{put_kept}
use Rattle.script.specs.Rows.{text_in, cut, Grown}
use Rattle.script.specs.declared.row.Row.{Row}

-- ── what is taken ──

take_again : (n : ℕ) (a b : List ℕ) → take n (take n a ++ b) ≡ take n (a ++ b)
take_again zero a b = refl
take_again (suc n) [] b = refl
take_again (suc n) (x ∷ a) b = ap (λ (l : List ℕ). x ∷ l) (take_again n a b)

-- ── what is put into bytes ──

over_text : (row text : List ℕ) → take (min (length text) (length row)) (over row text) ≡ take (length row) text
over_text [] text = let z : min (length text) 0 ≡ 0 = omega arith in ap (λ (k : ℕ). take k []) z
over_text (x ∷ row) [] = let z : min 0 (suc (length row)) ≡ 0 = omega arith in ap (λ (k : ℕ). take k (x ∷ row)) z
over_text (x ∷ row) (t ∷ text) =
    let z : min (suc (length text)) (suc (length row)) ≡ suc (min (length text) (length row)) = omega arith in
    ap (λ (k : ℕ). take k (t ∷ over row text)) z ∙ ap (λ (l : List ℕ). t ∷ l) (over_text row text)

put_text : (row : List ℕ) (at : ℕ) (text : List ℕ) → take (behind row at text) (put_at row at text) ≡ take (length row) (take at row ++ text)
put_text [] at text = let z : behind [] at text ≡ 0 = omega arith in ap (λ (k : ℕ). take k []) z
put_text (x ∷ row) zero text =
    let z : behind (x ∷ row) 0 text ≡ min (length text) (suc (length row)) = omega arith in
    ap (λ (k : ℕ). take k (over (x ∷ row) text)) z ∙ over_text (x ∷ row) text
put_text (x ∷ row) (suc at) text =
    let z : behind (x ∷ row) (suc at) text ≡ suc (behind row at text) = omega arith in
    ap (λ (k : ℕ). take k (x ∷ put_at row at text)) z ∙ ap (λ (l : List ℕ). x ∷ l) (put_text row at text)

pub put_grown : (row : Row) {text after : List ℕ} {k : ℕ} → length row.bytes ≡ 64 → Put row.bytes row.place text after k
    → Grown row text (record { bytes = after; place = k })
put_grown row {text} h p =
    record {
      text = rw (p.written, p.placed) (put_text row.bytes row.place text) ∙ ap (λ (n : ℕ). take n (text_in row ++ text)) h;
      long = put_kept p ∙ h;
    }

-- ── a row grows ──

-- a text that fits is all there
pub all_fits : (row : Row) → length row.bytes ≡ 64 → text_in row ≡ cut (text_in row ++ [])
all_fits row h = sym (ap cut (append-nil (text_in row)) ∙ take_all 64 (text_in row) (rw (length-take row.place row.bytes) (omega (arith, h))))

-- nothing more
pub none_grown : (row : Row) → length row.bytes ≡ 64 → Grown row [] row
none_grown row h = record { text = all_fits row h; long = h }

-- a text that has grown, and what is still to come
growing : (row r : Row) (a rest : List ℕ) → Grown row a r → cut (text_in r ++ rest) ≡ cut (text_in row ++ (a ++ rest))
growing row r a rest p =
    ap (λ (t : List ℕ). cut (t ++ rest)) p.text ∙ take_again 64 (text_in row ++ a) rest ∙ ap cut (append_assoc (text_in row) a rest)

-- one text, and another behind it
pub then_grown : {row r s : Row} {a b : List ℕ} → Grown row a r → Grown r b s → Grown row (a ++ b) s
then_grown {row} {r} {a = a} {b = b} p q = record { text = q.text ∙ growing row r a b p; long = q.long }

-- the same text under another name
pub same_grown : {row r : Row} {a b : List ℕ} → a ≡ b → Grown row a r → Grown row b r
same_grown {row} {r} e p = subst (λ (t : List ℕ). Grown row t r) e p

-- a turn of a loop: the next text has come, and the rest is still to come
pub growing_on : (rest : List ℕ) {row r : Row} {a whole now : List ℕ} → Grown row a r → now ≡ a ++ rest → whole ≡ cut (text_in row ++ now) → whole ≡ cut (text_in r ++ rest)
growing_on rest {row} {r} {a} p e w = w ∙ ap (λ (t : List ℕ). cut (text_in row ++ t)) e ∙ sym (growing row r a rest p)

-- the end of a loop: nothing is still to come
pub growing_done : (row : Row) (whole rest : List ℕ) → length row.bytes ≡ 64 → rest ≡ [] → whole ≡ cut (text_in row ++ rest) → text_in row ≡ whole
growing_done row whole rest h e w = all_fits row h ∙ sym (w ∙ ap (λ (t : List ℕ). cut (text_in row ++ t)) e)

-- a row without text has the new text alone
pub alone : {row r : Row} {more : List ℕ} → text_in row ≡ [] → Grown row more r → text_in r ≡ cut more
alone {more = more} e p = p.text ∙ ap (λ (t : List ℕ). cut (t ++ more)) e

-- a text that fits is all there
pub fits_whole : (row : Row) {text : List ℕ} → text_in row ≡ cut text → length text ≤ 64 → text_in row ≡ text
fits_whole row {text} e h = e ∙ take_all 64 text h
