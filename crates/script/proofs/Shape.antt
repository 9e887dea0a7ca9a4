-- The text of a call is its words with one blank between them, and it is short.
-- Assumes nothing.
use Prim.Native.Nat.{ℕ, zero, suc, ◌^◌, ◌≤◌, ◌<◌}
use mathlib.Core.Path.{◌≡◌, refl, sym, ap, ◌∙◌}
use mathlib.Core.Bool.{true, false}
use mathlib.Core.List.{List, [], ◌∷◌, ◌++◌, append-nil, append_assoc}
use native.Mathlib.Omega.{arith}
use lib.Dec.{eqb}
use lib.IntN.{ℤ, pos, negsuc}
use lib.ListN.{length, length-append}
use borrow.Author.Tests.{ne_eqb}
use mir.Syntax.{w32}
use mir.Val.{SFits}
use Rattle.calls.specs.Record.{call_time, select_time}
use Rattle.calls.specs.declared.CallMode.{CallMode}
use Rattle.calls.specs.declared.CallMode.TheVariants.{Simple, Timed, Conditional}
use Rattle.calls.specs.declared.SelectMode.{SelectMode}
use Rattle.calls.specs.declared.SelectMode.TheVariants as S
use Rattle.calls.specs.declared.SelectMode.TheVariants.{Plain, Else}
use Rattle.calls.specs.declared.Call as C
use Rattle.calls.specs.declared.Call.TheVariants.{Create, Delay, Call, Select, End, Finish, Tick, Advance}
use Rattle.text.specs.Text.{decimal, spaced}
use Rattle.text.proofs.Decimals.{decimal_short}
use Rattle.script.specs.CallText.{spaced_time, entries, open_text, call_mode_text, select_mode_text, text_of}
use Rattle.script.specs.Words.{is_blank, words_from, words_of}
use Rattle.script.specs.Says.{Fits}
use Rattle.script.proofs.Digits.{AllPlain, decimal_plain, decimal_some}
use Rattle.script.proofs.Sets.{tail, set_text}

-- ── words ──

-- behind a word, these bytes are words with one blank in front of each
abbrev Tidy : List ℕ → Type 0
Tidy l = (r : List ℕ) → words_from true (l ++ r) ≡ l ++ words_from true r

tidy_append : (a b : List ℕ) → Tidy a → Tidy b → Tidy (a ++ b)
tidy_append a b p q r = rw (append_assoc a b r, append_assoc a b (words_from true r)) (p (b ++ r) ∙ ap (λ (l : List ℕ). a ++ l) (q r))

-- what stands in words is no blank
no_blank : (b : ℕ) → 32 < b → is_blank b ≡ false
no_blank b h = rw (ne_eqb b 32 (λ e. omega arith), ne_eqb b 9 (λ e. omega arith), ne_eqb b 13 (λ e. omega arith))

plain_on : (l : List ℕ) → AllPlain l → Tidy l
plain_on [] p r = refl
plain_on (b ∷ l) p r =
    let h = p.0.low in
    let n : b ≡ 35 → ⊥ = λ e. omega arith in
    rw (ne_eqb b 35 n, no_blank b (omega arith)) (ap (λ (l : List ℕ). b ∷ l) (plain_on l p.1 r))

tidy_word : (l : List ℕ) → AllPlain l → 0 < length l → Tidy (32 ∷ l)
tidy_word [] p h r = absurd (omega arith)
tidy_word (b ∷ l) p h r =
    let g = p.0.low in
    let n : b ≡ 35 → ⊥ = λ e. omega arith in
    rw (ne_eqb b 35 n, no_blank b (omega arith)) (ap (λ (l : List ℕ). 32 ∷ b ∷ l) (plain_on l p.1 r))

tidy_number : (n : ℕ) → Tidy (spaced n)
unfolding spaced
tidy_number n = tidy_word (decimal n) (decimal_plain n) (decimal_some n)

tidy_time : (d : ℤ) → Tidy (spaced_time d)
unfolding spaced_time
tidy_time (pos n) r = tidy_number n r
tidy_time (negsuc n) r = ap (λ (l : List ℕ). 32 ∷ 45 ∷ l) (plain_on (decimal (suc n)) (decimal_plain (suc n)) r)

tidy_open : (o : ℕ) → o < 256 → Tidy (open_text o)
unfolding open_text
tidy_open zero h r = refl
tidy_open (suc n) h r =
    let t = set_text (suc n) (omega arith) h in
    let e : eqb (suc n) 0 ≡ false = ne_eqb (suc n) 0 (λ z. omega arith) in
    rw (e, t.blank) (tidy_word (tail (entries 8 49 32 (suc n))) t.plain t.some r)

tidy_call_mode : (m : CallMode) → Tidy (call_mode_text m)
unfolding call_mode_text
tidy_call_mode Simple r = refl
tidy_call_mode (Timed d) r = tidy_append (32 ∷ 116 ∷ 105 ∷ 109 ∷ 101 ∷ 100 ∷ []) (spaced_time d) (λ r. refl) (tidy_time d) r
tidy_call_mode Conditional r = refl

tidy_select_mode : (m : SelectMode) → Tidy (select_mode_text m)
unfolding select_mode_text
tidy_select_mode Plain r = refl
tidy_select_mode (S.Delay d) r = tidy_append (32 ∷ 100 ∷ 101 ∷ 108 ∷ 97 ∷ 121 ∷ []) (spaced_time d) (λ r. refl) (tidy_time d) r
tidy_select_mode Else r = refl

whole : (l : List ℕ) → Tidy l → words_from true l ≡ l
whole l p = ap (words_from true) (sym (append-nil l)) ∙ p [] ∙ append-nil l

pub words_back : (c : C.Call) → Fits c → words_of (text_of c) ≡ 32 ∷ text_of c
unfolding text_of words_of
words_back (Create p n) f =
    ap (λ (l : List ℕ). 32 ∷ 67 ∷ 82 ∷ 69 ∷ 65 ∷ 84 ∷ 69 ∷ l) (whole (spaced p ++ spaced n) (tidy_append (spaced p) (spaced n) (tidy_number p) (tidy_number n)))
words_back (Delay d) f = ap (λ (l : List ℕ). 32 ∷ 68 ∷ 69 ∷ 76 ∷ 65 ∷ 89 ∷ l) (whole (spaced_time d) (tidy_time d))
words_back (Call t e m) f =
    ap (λ (l : List ℕ). 32 ∷ 67 ∷ 65 ∷ 76 ∷ 76 ∷ l)
    (whole (spaced t ++ (spaced e ++ call_mode_text m)) (tidy_append (spaced t) (spaced e ++ call_mode_text m) (tidy_number t) (tidy_append (spaced e) (call_mode_text m) (tidy_number e) (tidy_call_mode m))))
words_back (Select o m) f =
    ap (λ (l : List ℕ). 32 ∷ 83 ∷ 69 ∷ 76 ∷ 69 ∷ 67 ∷ 84 ∷ l)
    (whole (open_text o ++ select_mode_text m) (tidy_append (open_text o) (select_mode_text m) (tidy_open o f.0) (tidy_select_mode m)))
words_back End f = refl
words_back Finish f = refl
words_back Tick f = refl
words_back (Advance n) f = ap (λ (l : List ℕ). 32 ∷ 65 ∷ 68 ∷ 86 ∷ 65 ∷ 78 ∷ 67 ∷ 69 ∷ l) (whole (spaced n) (tidy_number n))

-- ── length ──

short_number : (n : ℕ) → n < 2 ^ 32 → length (spaced n) ≤ 12
unfolding spaced
short_number n h = let s = decimal_short n 10 (omega arith) (omega arith) in omega arith

short_time : (d : ℤ) → SFits w32 d → length (spaced_time d) ≤ 13
unfolding spaced_time
short_time (pos n) f = let h : n < 2 ^ 31 = f.sfits in let s = short_number n (omega arith) in omega arith
short_time (negsuc n) f = let h : n < 2 ^ 31 = f.sfits in let s = decimal_short (suc n) 10 (omega arith) (omega arith) in omega arith

short_open : (o : ℕ) → o < 256 → length (open_text o) ≤ 16
unfolding open_text
short_open zero h = omega arith
short_open (suc n) h =
    let t = set_text (suc n) (omega arith) h in
    let e : eqb (suc n) 0 ≡ false = ne_eqb (suc n) 0 (λ z. omega arith) in
    rw e t.short

short_call_mode : (m : CallMode) → SFits w32 (call_time m) → length (call_mode_text m) ≤ 19
unfolding call_mode_text
short_call_mode Simple f = omega arith
short_call_mode (Timed d) f = let s = short_time d f in omega arith
short_call_mode Conditional f = omega arith

short_select_mode : (m : SelectMode) → SFits w32 (select_time m) → length (select_mode_text m) ≤ 19
unfolding select_mode_text
short_select_mode Plain f = omega arith
short_select_mode (S.Delay d) f = let s = short_time d f in omega arith
short_select_mode Else f = omega arith

pub text_short : (c : C.Call) → Fits c → length (text_of c) ≤ 62
unfolding text_of
text_short (Create p n) f =
    let a = short_number p (omega arith) in
    let b = short_number n (omega arith) in
    omega (arith, length-append (spaced p) (spaced n))
text_short (Delay d) f = let a = short_time d f in omega arith
text_short (Call t e m) f =
    let a = short_number t (omega arith) in
    let b = short_number e (omega arith) in
    let d = short_call_mode m f.1.1 in
    omega (arith, length-append (spaced t) (spaced e ++ call_mode_text m), length-append (spaced e) (call_mode_text m))
text_short (Select o m) f =
    let a = short_open o f.0 in
    let b = short_select_mode m f.1 in
    omega (arith, length-append (open_text o) (select_mode_text m))
text_short End f = omega arith
text_short Finish f = omega arith
text_short Tick f = omega arith
text_short (Advance n) f = let a = short_number n f in omega arith
