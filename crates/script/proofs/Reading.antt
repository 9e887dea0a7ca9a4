-- From what the parts of the reader promise to what a line says.
-- Assumes nothing.
use Prim.Native.Nat.{ℕ, ◌-◌, ◌≤◌, ◌<◌}
use mathlib.Core.Path.{◌≡◌, sym, ap, ◌∙◌}
use mathlib.Core.List.{List, [], ◌∷◌}
use native.Mathlib.Omega.{arith}
use lib.ListN.{length, length-take}
use lib.Seq.{take_all}
use Rattle.calls.specs.declared.Call as C
use Rattle.script.specs.CallText.{text_of}
use Rattle.script.specs.Rows.{text_in, cut, Grown}
use Rattle.script.specs.Says.{Fits, Says}
use Rattle.script.specs.Guess.{hear, unseen, guess_by, guess_of}
use Rattle.script.specs.declared.guess.Seen.{Seen}
use Rattle.script.specs.declared.row.Row.{Row}
use Rattle.script.specs.declared.Line.TheVariants as L
use Rattle.script.proofs.Growing.{then_grown, alone}
use Rattle.script.proofs.Back.{guess_back}
use Rattle.script.proofs.Shape.{text_short}

-- ── the guess ──

pub guess_is : (words : List ℕ) (s : Seen) (r : C.Call) → s ≡ hear unseen words → r ≡ guess_by s → r ≡ guess_of words
unfolding guess_of
guess_is words s r p e = e ∙ ap guess_by p

-- ── what words say ──

pub row_long : (row : Row) → length row.bytes ≡ 64 → row.place ≤ 64 → length (text_in row) ≡ row.place
row_long row g h = omega (arith, length-take row.place row.bytes, g)

-- the text of a call behind a blank is what was printed
pub printed : (c : C.Call) (e b row : Row) → Fits c → text_in e ≡ [] → Grown e (32 ∷ []) b → Grown b (text_of c) row → text_in row ≡ 32 ∷ text_of c
printed c e b row f p q r = let s = text_short c f in alone p (then_grown q r) ∙ take_all 64 (32 ∷ text_of c) (omega arith)

-- the print is what the words are
pub said : (words text : List ℕ) (c : C.Call) → Fits c → text ≡ 32 ∷ text_of c → words ≡ text → Says words (L.Says c)
said words text c f p e = (f, e ∙ p)

-- the print is not what the words are, so no call's text is
pub unsaid : (words text : List ℕ) (c : C.Call) → c ≡ guess_of words → text ≡ 32 ∷ text_of c → (words ≡ text → ⊥) → (length words ≡ 0 → ⊥)
    → Says words L.Unread
unsaid words text c g p e n = (
  λ z. n (ap length z),
  λ d f z.
      let same : c ≡ d = g ∙ ap guess_of z ∙ guess_back d f in
      let t : text ≡ words = p ∙ ap (λ (c : C.Call). 32 ∷ text_of c) same ∙ sym z in
      e (sym t),
)

-- words that fill the row are too long for a call
pub too_long : (words : List ℕ) (row : Row) → length row.bytes ≡ 64 → text_in row ≡ cut words → 64 ≤ row.place → Says words L.Unread
too_long words row g p h =
    let k : length (text_in row) ≡ length (cut words) = ap length p in
    let l : 64 ≤ length words = omega (arith, k, length-take row.place row.bytes, length-take 64 words, g) in
    (λ z. let k = ap length z in omega arith, λ d f z. let k = ap length z in let s = text_short d f in omega arith)

-- words that do not fill the row are in it
pub all_there : (words : List ℕ) (row : Row) → length row.bytes ≡ 64 → text_in row ≡ cut words → row.place < 64 → text_in row ≡ words
all_there words row g p h =
    let k : length (text_in row) ≡ length (cut words) = ap length p in
    p ∙ take_all 64 words (omega (arith, k, length-take row.place row.bytes, length-take 64 words, g))
