-- What a turn over the ended waits of a room knows, and how long a line is.
-- Assumes nothing.
use Prim.Native.Nat.{ℕ, zero, suc, ◌+◌, ◌-◌, ◌*◌, ◌^◌, ◌≤◌, ◌<◌}
use mathlib.Core.Path.{◌≡◌, refl, sym, subst}
use mathlib.Core.List.{List, [], ◌++◌}
use native.Mathlib.Omega.{arith}
use lib.Dec.{ltb}
use lib.ListN.{length, get_or, take, drop, length-append}
use lib.Seq.{get_or-drop}
use borrow.Author.Tests.{lt-ltb, le-ltb}
use Rattle.std.proofs.lemmas.List.{take_rest}
use Rattle.lists.proofs.ListLaws.{by_bool}
use Rattle.calls.specs.Range.{Bytes}
use Rattle.rules.specs.declared.Answer.{Answer}
use Rattle.text.specs.Text.{spaced}
use Rattle.text.proofs.Decimals.{decimal_short}
use Rattle.report.specs.Lines.{header, barred, waits, line_text, longest_line}

-- no wait is left to print
pub no_more : (room : List ℕ) (n : ℕ) → n ≤ 0 → waits n room ≡ []
unfolding waits
no_more room zero h = refl
no_more room (suc n) h = absurd (omega arith)

-- the room has no whole item left
pub none_left : (room : List ℕ) (n : ℕ) → length room < 4 → waits n room ≡ []
unfolding waits
none_left room zero h = refl
none_left room (suc n) h = rw (lt-ltb (length room) 4 h) refl

-- the first item of the room, and those behind it
one_more : (room : List ℕ) (n : ℕ) → 4 ≤ length room
    → waits (suc n) room ≡ barred (get_or room 0 0) (get_or room 1 0) (get_or room 2 0) (get_or room 3 0) ++ waits n (drop 4 room)
unfolding waits
one_more room n h = rw (le-ltb (length room) 4 h) refl

pub next_wait : (room : List ℕ) (k ended : ℕ) → k < ended → 4 ≤ length room
    → waits (ended - k) room
    ≡ barred (get_or room 0 0) (get_or room 1 0) (get_or room 2 0) (get_or room 3 0) ++ waits (ended - (k + 1)) (take (length room - 4) (drop 4 room))
next_wait room k ended l h =
    let z : ended - k ≡ suc (ended - (k + 1)) = omega arith in
    rw (z, take_rest room 4) (one_more room (ended - (k + 1)) h)

-- ── how long a line is ──

pub header_long : length header ≡ 44
unfolding header
header_long = refl

spaced_short : (n : ℕ) → n < 256 → length (spaced n) ≤ 4
unfolding spaced
spaced_short n h = let d = decimal_short n 3 (omega arith) (omega arith) in omega arith

barred_short : (t r e p : ℕ) → t < 256 → r < 256 → e < 256 → p < 256 → length (barred t r e p) ≤ 18
unfolding barred
barred_short t r e p ht hr he hp =
    simp length-append (omega (arith, spaced_short t ht, spaced_short r hr, spaced_short e he, spaced_short p hp))

waits_short : (n : ℕ) (room : List ℕ) → Bytes room → length (waits n room) ≤ n * 18
unfolding waits
waits_short zero room h = omega arith
waits_short (suc n) room h =
    let b : Bytes (drop 4 room) = λ i. subst (λ (x : ℕ). x < 256) (sym (get_or-drop 4 room i 0)) (h (4 + i)) in
    let ih = waits_short n (drop 4 room) b in
    let one = barred_short (get_or room 0 0) (get_or room 1 0) (get_or room 2 0) (get_or room 3 0) (h 0) (h 1) (h 2) (h 3) in
    by_bool (ltb (length room) 4) (λ e. rw e (omega arith)) (λ e. rw e (simp length-append (omega (arith, one, ih))))

-- the numbers of an answer are bytes
abbrev pub InBytes : Answer → Type 0
InBytes a = (a.refusal < 256) × (a.result < 256) × (a.task < 256) × (a.entry < 256) × (a.partner < 256) × (a.ended < 256) × (a.next < 256)

-- no line is longer than the longest one
pub line_fits : (step : ℕ) (a : Answer) (room : List ℕ) → step < 2 ^ 64 → InBytes a → Bytes room → length (line_text step a room) ≤ longest_line
unfolding line_text
line_fits step a room n b h =
    simp length-append
    (omega (arith, decimal_short step 20 (omega arith) (omega arith), spaced_short a.refusal b.0, spaced_short a.result b.1, spaced_short a.task b.2, spaced_short a.entry b.3, spaced_short a.partner b.4, spaced_short a.next b.6, waits_short a.ended room h, b.5))
