-- The guess at the text of a call is that call.
-- Assumes nothing.
use Prim.Native.Nat.{ℕ, zero, suc, ◌^◌, ◌≤◌, ◌<◌}
use mathlib.Core.Path.{◌≡◌, refl, sym, ap, ◌∙◌}
use mathlib.Core.Bool.{Bool, true, false, cond}
use mathlib.Core.List.{List, [], ◌∷◌, ◌++◌, append-nil}
use native.Mathlib.Omega.{arith}
use lib.Dec.{eqb}
use lib.IntN.{ℤ, pos, negsuc}
use borrow.Author.Tests.{ne_eqb, le-ltb}
use mir.Syntax.{w32}
use mir.Val.{SFits}
use Rattle.calls.specs.Record.{call_time, select_time}
use Rattle.calls.specs.declared.CallMode.{CallMode}
use Rattle.calls.specs.declared.CallMode.TheVariants.{Simple, Timed, Conditional}
use Rattle.calls.specs.declared.SelectMode.{SelectMode}
use Rattle.calls.specs.declared.SelectMode.TheVariants as S
use Rattle.calls.specs.declared.Call as C
use Rattle.calls.specs.declared.Call.TheVariants.{Create, Delay, Call, Select, End, Finish, Tick, Advance}
use Rattle.text.specs.Text.{decimal, spaced}
use Rattle.script.specs.CallText.{spaced_time, entries, open_text, call_mode_text, select_mode_text, text_of}
use Rattle.script.specs.Says.{Fits}
use Rattle.script.specs.Guess.{fresh, grown_of, heard_of, hear, unseen, time_of, guess_by, guess_of}
use Rattle.script.specs.declared.guess.Word.{Word}
use Rattle.script.specs.declared.guess.Seen.{Seen}
use Rattle.script.proofs.Digits.{AllPlain, grow_all, decimal_plain, decimal_back, decimal_byte}
use Rattle.script.proofs.Sets.{tail, SetText, set_text}

-- ── what is seen of one text behind the other ──

hear_append : (s : Seen) (a b : List ℕ) → hear s (a ++ b) ≡ hear (hear s a) b
hear_append s [] b = refl
hear_append s (x ∷ a) b = hear_append (heard_of s x) a b

-- with another last word
abbrev with_last : Seen → Word → Seen
with_last s w = record { letters = s.letters; minus = s.minus; fourth = s.fourth; third = s.third; far = s.far; second = s.second; near = s.near; last = w }

-- with another word behind the last
abbrev behind : ℕ → Bool → Seen → Word → Seen
behind n minus s w =
    record { letters = n; minus = minus; fourth = s.third; third = s.second; far = s.near; second = s.last.byte; near = s.last.set; last = w }

-- behind a blank
abbrev shifted : Seen → Seen
shifted s = behind s.letters s.minus s fresh

-- a byte that is neither a blank nor a letter nor a minus changes the last word alone
quiet : (s : Seen) (b : ℕ) → (b ≡ 32 → ⊥) → b ≤ 64 → (b ≡ 45 → ⊥) → heard_of s b ≡ with_last s (grown_of s.last b)
quiet s b x y z = rw (ne_eqb b 32 x, le-ltb 64 b y, ne_eqb b 45 z) refl

hear_plain : (s : Seen) (l : List ℕ) → AllPlain l → hear s l ≡ with_last s (grow_all s.last l)
hear_plain s [] p = refl
hear_plain s (b ∷ l) p =
    let h = p.0.low in
    let g = p.0.high in
    let n : b ≡ 32 → ⊥ = λ e. omega arith in
    ap (λ (s : Seen). hear s l) (quiet s b n (omega arith) p.0.no_minus) ∙ hear_plain (with_last s (grown_of s.last b)) l p.1

-- a number as a word
numbered : ℕ → Word
numbered n = grow_all fresh (decimal n)

hear_number : (s : Seen) (n : ℕ) → hear s (spaced n) ≡ with_last (shifted s) (numbered n)
unfolding spaced numbered
hear_number s n = hear_plain (shifted s) (decimal n) (decimal_plain n)

byte_back : (n : ℕ) → n < 256 → (numbered n).byte ≡ n
unfolding numbered
byte_back n h = decimal_byte n h

word_back : (n : ℕ) → n < 2 ^ 32 → (numbered n).number ≡ n
unfolding numbered
word_back n h = decimal_back n (omega arith)

-- ── durations ──

-- whether a duration has a minus, and its number as a word
minus_of : ℤ → Bool
minus_of (pos n) = false
minus_of (negsuc n) = true

time_word : ℤ → Word
time_word (pos n) = numbered n
time_word (negsuc n) = numbered (suc n)

hear_time : (s : Seen) (d : ℤ) → s.minus ≡ false
    → hear s (spaced_time d) ≡ behind s.letters (minus_of d) s (time_word d)
unfolding spaced_time minus_of time_word numbered
hear_time s (pos n) e =
    hear_number s n ∙ ap (λ (m : Bool). behind s.letters m s (numbered n)) e
hear_time s (negsuc n) e = hear_plain (heard_of (shifted s) 45) (decimal (suc n)) (decimal_plain (suc n))

time_back : (d : ℤ) → SFits w32 d → time_of (minus_of d) (time_word d).number ≡ d
unfolding minus_of time_word numbered
time_back (pos n) f =
    let h : n < 2 ^ 31 = f.sfits in
    ap pos (rw (decimal_back n (omega arith)) (omega arith))
time_back (negsuc n) f =
    let h : n < 2 ^ 31 = f.sfits in
    ap negsuc (rw (decimal_back (suc n) (omega arith)) (omega arith))

-- ── each call ──

-- behind the first word
abbrev begun : ℕ → Seen
begun n = behind n false unseen fresh

-- behind two numbers, and behind an open set
abbrev paired : ℕ → ℕ → ℕ → Seen
paired n a b = behind n false (with_last unseen (numbered a)) (numbered b)

abbrev opened : ℕ → Word → Seen
opened n w = behind n false unseen w

hear_two : (n a b : ℕ) (rest : List ℕ) → hear (begun n) (spaced a ++ (spaced b ++ rest)) ≡ hear (paired n a b) rest
hear_two n a b rest =
    hear_append (begun n) (spaced a) (spaced b ++ rest)
    ∙ ap (λ (s : Seen). hear s (spaced b ++ rest)) (hear_number (begun n) a)
    ∙ hear_append (with_last (begun n) (numbered a)) (spaced b) rest
    ∙ ap (λ (s : Seen). hear s rest) (hear_number (with_last (begun n) (numbered a)) b)

call_mode_back : (t e : ℕ) (m : CallMode) → SFits w32 (call_time m)
    → guess_by (hear (paired 284 t e) (call_mode_text m)) ≡ Call (numbered t).byte (numbered e).byte m
unfolding call_mode_text
call_mode_back t e Simple f = refl
call_mode_back t e (Timed d) f =
    ap guess_by (hear_time (behind 815 false (paired 284 t e) fresh) d refl)
    ∙ ap (λ (d : ℤ). Call (numbered t).byte (numbered e).byte (Timed d)) (time_back d f)
call_mode_back t e Conditional f = refl

select_mode_back : (none : Bool) (w : Word) (m : SelectMode) → SFits w32 (select_time m)
    → guess_by (hear (opened (cond none 880 448) w) (select_mode_text m)) ≡ Select w.set m
unfolding select_mode_text
select_mode_back true w S.Plain f = refl
select_mode_back true w (S.Delay d) f =
    ap guess_by (hear_time (behind 1407 false (opened 880 w) fresh) d refl)
    ∙ ap (λ (d : ℤ). Select w.set (S.Delay d)) (time_back d f)
select_mode_back true w S.Else f = refl
select_mode_back false w S.Plain f = refl
select_mode_back false w (S.Delay d) f =
    ap guess_by (hear_time (behind 975 false (opened 448 w) fresh) d refl)
    ∙ ap (λ (d : ℤ). Select w.set (S.Delay d)) (time_back d f)
select_mode_back false w S.Else f = refl

-- an open set as a word
set_word : ℕ → Word
set_word o = grow_all fresh (tail (entries 8 49 32 o))

hear_entries : (o : ℕ) → SetText o → hear (begun 448) (entries 8 49 32 o) ≡ opened 448 (set_word o)
unfolding set_word
hear_entries o t = ap (hear (begun 448)) t.blank ∙ hear_plain (begun 448) (tail (entries 8 49 32 o)) t.plain

select_back : (o : ℕ) (m : SelectMode) → o < 256 → SFits w32 (select_time m)
    → guess_by (hear (begun 448) (open_text o ++ select_mode_text m)) ≡ Select o m
unfolding open_text set_word
select_back zero m h f = select_mode_back true fresh m f
select_back (suc n) m h f =
    let o = suc n in
    let t = set_text (suc n) (omega arith) h in
    let e : eqb (suc n) 0 ≡ false = ne_eqb (suc n) 0 (λ z. omega arith) in
    rw e
    (ap guess_by (hear_append (begun 448) (entries 8 49 32 (suc n)) (select_mode_text m))
    ∙ ap (λ (s : Seen). guess_by (hear s (select_mode_text m))) (hear_entries (suc n) t)
    ∙ select_mode_back false (set_word (suc n)) m f
    ∙ ap (λ (x : ℕ). Select x m) t.back)

pub guess_back : (c : C.Call) → Fits c → guess_of (32 ∷ text_of c) ≡ c
unfolding guess_of text_of
guess_back (Create p n) f =
    ap (λ (l : List ℕ). guess_by (hear (begun 436) (spaced p ++ l))) (sym (append-nil (spaced n)))
    ∙ ap guess_by (hear_two 436 p n [])
    ∙ ap (λ (x : ℕ). Create x (numbered n).byte) (byte_back p f.0)
    ∙ ap (Create p) (byte_back n f.1)
guess_back (Delay d) f = ap guess_by (hear_time (begun 367) d refl) ∙ ap Delay (time_back d f)
guess_back (Call t e m) f =
    ap guess_by (hear_two 284 t e (call_mode_text m))
    ∙ call_mode_back t e m f.1.1
    ∙ ap (λ (x : ℕ). Call x (numbered e).byte m) (byte_back t f.0)
    ∙ ap (λ (x : ℕ). Call t x m) (byte_back e f.1.0)
guess_back (Select o m) f = select_back o m f.0 f.1
guess_back End f = refl
guess_back Finish f = refl
guess_back Tick f = refl
guess_back (Advance n) f = ap guess_by (hear_number (begun 498) n) ∙ ap Advance (word_back n f)
