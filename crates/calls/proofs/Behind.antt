-- Bytes behind the record are not looked at. Assumes nothing.
use Prim.Native.Nat.{ℕ, zero, suc, ◌+◌, ◌-◌, ◌<◌, ◌≤◌}
use mathlib.Core.Path.{◌≡◌, refl, sym, ap, ◌∙◌}
use mathlib.Core.Bool.{Bool, true, false, ◌||◌}
use mathlib.Core.List.{List, ◌++◌}
use native.Mathlib.Omega.{arith}
use borrow.Author.Tests.{le-ltb, eqb-true}
use lib.Dec.{eqb}
use lib.ListN.{length, length-append, get_or-append}
use Rattle.lists.specs.Lists.{when◌then◌else◌}
use Rattle.lists.proofs.Tests.{differ}
use Rattle.lists.proofs.ListLaws.{by_bool}
use Rattle.calls.specs.Duration.{signed}
use Rattle.calls.specs.Record.{byte, four_from, tag_of, is_unknown, length_of}
use Rattle.calls.specs.Reading.{call_in, read_of}
use Rattle.calls.specs.Parts.{bad_frame, bad_body, body_read}
use Rattle.calls.specs.declared.Call as C
use Rattle.calls.specs.declared.Call.TheVariants.{Delay, Advance}
use Rattle.std.specs.Prelude.{Result, Ok, Err}
use Rattle.calls.specs.declared.Record.{Record}
use Rattle.calls.specs.declared.ReadError.{ReadError}
use Rattle.calls.specs.declared.ReadError.TheVariants.{BadRecord}
use Rattle.calls.proofs.Frame.{frame_is, found, above_eight}
use Rattle.calls.proofs.Round.{accepted_as}

-- a fault, or what is read of a call
abbrev or_bad : Bool → C.Call → ℕ → Result Record ReadError
or_bad b c n = when b then Err BadRecord else Ok (record { call = c; count = n })

module _ (s rest : List ℕ) where
  -- a byte of s, and four of them
  here : (i : ℕ) → i < length s → byte (s ++ rest) i ≡ byte s i
  here i h = get_or-append s rest 0 i h

  four_here : (i : ℕ) → i + 3 < length s → four_from (s ++ rest) i ≡ four_from s i
  four_here i h = rw (here i (omega arith), here (i + 1) (omega arith), here (i + 2) (omega arith), here (i + 3) (omega arith))

  -- the mode of a tag's record and its d
  body_here : (t : ℕ) → 3 + length_of t ≤ length s → bad_body t (s ++ rest) ≡ bad_body t s
  body_here t h =
      by_bool (eqb t 3)
      (λ e. let q = eqb-true t 3 e in at_three (rw q at h) q)
      (λ e. by_bool (eqb t 4) (λ f. let q = eqb-true t 4 f in at_four (rw q at h) q) (λ f. simp (e, f)))
    where
      at_three : 10 ≤ length s → t ≡ 3 → bad_body t (s ++ rest) ≡ bad_body t s
      at_three h q = rw q (rw (here 5 (omega arith), four_here 6 (omega arith)))

      at_four : 9 ≤ length s → t ≡ 4 → bad_body t (s ++ rest) ≡ bad_body t s
      at_four h q = rw q (rw (here 4 (omega arith), four_here 5 (omega arith)))

  -- the call of a tag's record
  call_here : (t : ℕ) → is_unknown t ≡ false → 3 + length_of t ≤ length s → call_in t (s ++ rest) ≡ call_in t s
  call_here zero u h = differ u
  call_here (suc zero) u h = rw (here 3 (omega arith), here 4 (omega arith))
  call_here (suc (suc zero)) u h = ap (λ (n : ℕ). Delay (signed n)) (four_here 3 (omega arith))
  call_here (suc (suc (suc zero))) u h = rw (here 3 (omega arith), here 4 (omega arith), here 5 (omega arith), four_here 6 (omega arith))
  call_here (suc (suc (suc (suc zero)))) u h = rw (here 3 (omega arith), here 4 (omega arith), four_here 5 (omega arith))
  call_here (suc (suc (suc (suc (suc zero))))) u h = refl
  call_here (suc (suc (suc (suc (suc (suc zero)))))) u h = refl
  call_here (suc (suc (suc (suc (suc (suc (suc zero))))))) u h = refl
  call_here (suc (suc (suc (suc (suc (suc (suc (suc zero)))))))) u h = ap Advance (four_here 3 (omega arith))
  call_here (suc (suc (suc (suc (suc (suc (suc (suc (suc t))))))))) u h = differ (sym (above_eight t) ∙ u)

  module _ (fits : 3 + length_of (tag_of s) ≤ length s) where
    -- tag, length and number of bytes
    frame_here : bad_frame (s ++ rest) ≡ bad_frame s
    unfolding bad_frame
    frame_here =
        let more = length-append s rest in
        let n = length_of (tag_of s) in
        rw (here 0 (omega arith), here 1 (omega arith), here 2 (omega arith))
        (simp (le-ltb (length s) 3 (omega arith), le-ltb (length (s ++ rest)) 3 (omega arith), le-ltb (length s - 3) n (omega arith), le-ltb (length (s ++ rest) - 3) n (omega arith)))

    -- where as many bytes stand as the tag's record has, those behind them make no difference
    not-looked-at : read_of (s ++ rest) ≡ read_of s
    unfolding body_read
    not-looked-at =
        let same : tag_of (s ++ rest) ≡ tag_of s = here 0 (omega arith) in
        let more = length-append s rest in
        sym (found (s ++ rest) (bad_frame s) (bad_body (tag_of s) s) (λ z. omega arith) frame_here (rw same (body_here (tag_of s) fits)))
        ∙ (rw same (by_bool (bad_frame s) (λ e. simp e)
        (λ e. ap (λ (c : C.Call). or_bad (bad_frame s || bad_body (tag_of s) s) c (3 + length_of (tag_of s))) (call_here (tag_of s) (frame_is s e).known fits))))
        ∙ found s (bad_frame s) (bad_body (tag_of s) s) (λ z. omega arith) refl refl

-- what is accepted is accepted whatever follows
pub accepted_ahead : (s rest : List ℕ) (c : C.Call) (n : ℕ) → read_of s ≡ Ok (record { call = c; count = n }) → read_of (s ++ rest) ≡ Ok (record { call = c; count = n })
accepted_ahead s rest c n e = not-looked-at s rest (accepted_as s c n e).frame.fits ∙ e

-- the longest record has ten bytes
at_most : {x y : ℕ} (b : Bool) → x ≤ 7 → y ≤ 7 → (when b then x else y) ≤ 7
at_most true h k = h
at_most false h k = k

at_most_seven : (t : ℕ) → length_of t ≤ 7
at_most_seven t =
    at_most (eqb t 1) (omega arith) (at_most (eqb t 2) (omega arith) (at_most (eqb t 3) (omega arith) (at_most (eqb t 4) (omega arith)
    (at_most (eqb t 5) (omega arith) (at_most (eqb t 6) (omega arith) (at_most (eqb t 7) (omega arith) (at_most (eqb t 8) (omega arith) (omega arith))))))))

-- so with ten bytes it is settled what is read
pub ten_ahead : (s rest : List ℕ) → 10 ≤ length s → read_of (s ++ rest) ≡ read_of s
ten_ahead s rest h = not-looked-at s rest (omega (arith, at_most_seven (tag_of s)))
