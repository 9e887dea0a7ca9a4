-- What the bench asks of text and records: a call's text is read as that call, no other call has it, and so the text printed for a record
-- reads back as that record.
-- Assumes nothing.
use Prim.Native.Nat.{ℕ, ◌+◌, ◌<◌, ◌^◌}
use mathlib.Core.Path.{◌≡◌, refl, sym, ap, subst, ◌∙◌}
use mathlib.Core.Bool.{Bool, true, false}
use mathlib.Core.List.{List, [], ◌∷◌}
use native.Mathlib.Omega.{arith}
use lib.Dec.{eqb}
use lib.ListN.{length, take}
use lib.IntN.{ℤ}
use mir.Syntax.{w32}
use mir.Val.{SFits}
use mir.Facts.{sfits_to_z}
use Rattle.lists.specs.Lists.{when◌then◌else◌}
use Rattle.lists.proofs.ListLaws.{by_test}
use Rattle.calls.specs.Duration.{signed}
use Rattle.calls.specs.Record.{byte, four_from, tag_of, call_time, select_time}
use Rattle.calls.specs.Reading.{call_in, read_of}
use Rattle.calls.specs.Range.{Bytes}
use Rattle.calls.specs.declared.CallMode.TheVariants.{Simple, Timed, Conditional}
use Rattle.calls.specs.declared.SelectMode.TheVariants as S
use Rattle.calls.specs.declared.Call as C
use Rattle.std.specs.Prelude.{Ok}
use Rattle.calls.proofs.Round.{accepted_as, accepted_is}
use Rattle.script.specs.CallText.{text_of}
use Rattle.script.specs.Words.{words_of}
use Rattle.script.specs.Says.{Fits, Says, record_of}
use Rattle.script.specs.Guess.{guess_of}
use Rattle.script.specs.declared.Line.{Line}
use Rattle.script.specs.declared.Line.TheVariants as L
use Rattle.script.proofs.Typed.{no_time}
use Rattle.script.proofs.Back.{guess_back}
use Rattle.script.proofs.Shape.{words_back}

-- a call's text is read as that call
pub text_read : (c : C.Call) → Fits c → Says (words_of (text_of c)) (L.Says c)
text_read c f = (f, words_back c f)

-- no two calls have the same text
pub one_text : (c d : C.Call) → Fits c → Fits d → text_of c ≡ text_of d → c ≡ d
one_text c d f g e = sym (guess_back c f) ∙ ap (λ (t : List ℕ). guess_of (32 ∷ t)) e ∙ guess_back d g

some : {words : List ℕ} {b : ℕ} {l : List ℕ} → words ≡ [] → words ≡ b ∷ l → ⊥
some p q = let z : ◌≡◌ {A = List ℕ} [] (_ ∷ _) = sym p ∙ q in let k = ap length z in omega arith

-- words say one thing
pub said_once : (words : List ℕ) (r r' : Line) → Says words r → Says words r' → r ≡ r'
said_once words L.Nothing L.Nothing p q = refl
said_once words L.Nothing (L.Says c) p q = absurd (some p q.1)
said_once words L.Nothing L.Unread p q = absurd (q.0 p)
said_once words (L.Says c) L.Nothing p q = absurd (some q p.1)
said_once words (L.Says c) (L.Says d) p q =
    ap L.Says (sym (guess_back c p.0) ∙ ap guess_of (sym p.1 ∙ q.1) ∙ guess_back d q.0)
said_once words (L.Says c) L.Unread p q = absurd (q.1 c p.0 p.1)
said_once words L.Unread L.Nothing p q = absurd (p.0 q)
said_once words L.Unread (L.Says c) p q = absurd (p.1 c q.0 q.1)
said_once words L.Unread L.Unread p q = refl

-- ── the numbers of a record ──

either : (P : C.Call → Type 0) (b : Bool) {x y : C.Call} → P x → P y → P (when b then x else y)
either P b p q = by_test P b (λ e. p) (λ e. q)

four_small : (s : List ℕ) → Bytes s → (i : ℕ) → four_from s i < 2 ^ 32
four_small s all i = omega (arith, all i, all (i + 1), all (i + 2), all (i + 3))

signed_fits : (n : ℕ) → n < 2 ^ 32 → SFits w32 (signed n)
signed_fits n h = sfits_to_z {w = w32} (record { fits = h })

call_mode_fits : (a b : Bool) (d : ℤ) → SFits w32 d → SFits w32 (call_time (when a then Simple else when b then Timed d else Conditional))
call_mode_fits true b d f = no_time
call_mode_fits false true d f = f
call_mode_fits false false d f = no_time

select_mode_fits : (a b : Bool) (d : ℤ) → SFits w32 d → SFits w32 (select_time (when a then S.Plain else when b then S.Delay d else S.Else))
select_mode_fits true b d f = no_time
select_mode_fits false true d f = f
select_mode_fits false false d f = no_time

call_in_fits : (s : List ℕ) → Bytes s → (tag : ℕ) → Fits (call_in tag s)
call_in_fits s all tag =
    let time : (i : ℕ) → SFits w32 (signed (four_from s i)) = λ i. signed_fits (four_from s i) (four_small s all i) in
    either Fits (eqb tag 1) (all 3, all 4)
    (either Fits (eqb tag 2) (time 3)
    (either Fits (eqb tag 3) (all 3, (all 4, call_mode_fits (eqb (byte s 5) 0) (eqb (byte s 5) 1) (signed (four_from s 6)) (time 6)))
    (either Fits (eqb tag 4) (all 3, select_mode_fits (eqb (byte s 4) 0) (eqb (byte s 4) 1) (signed (four_from s 5)) (time 5))
    (either Fits (eqb tag 5) tt
    (either Fits (eqb tag 6) tt
    (either Fits (eqb tag 7) tt (four_small s all 3)))))))

-- the text printed for a record reads back as that record: whatever its line is read as has the record's bytes
pub record_back : (s : List ℕ) (c : C.Call) (n : ℕ) (r : Line) → Bytes s → read_of s ≡ Ok (record { call = c; count = n }) → Says (words_of (text_of c)) r → record_of r ≡ take n s
record_back s c n r all e p =
    let f : Fits c = subst Fits (sym (accepted_as s c n e).call) (call_in_fits s all (tag_of s)) in
    ap record_of (said_once (words_of (text_of c)) r (L.Says c) p (text_read c f)) ∙ sym (accepted_is s c n all e)
