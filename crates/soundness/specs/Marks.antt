-- The word of the check: bit t says that task t is still to be met in a line.
-- Assumes nothing.
use Rattle.std.specs.Prelude.{ℕ, ◌+◌, ◌*◌, ◌/◌, ◌%◌, ◌^◌, ◌<◌, Bool, false, not, ◌&&◌, ◌||◌, ◌==◌, bit_xor, nat_lt, Option, None, Some}
use Rattle.lists.specs.Lists.{when◌then◌else◌, bit}

-- which tasks are still to be met
abbrev pub Marks : Type 0
Marks = ℕ

-- a word of 32 bits
abbrev pub Whole : Marks → Type 0
Whole m = m < 4294967296

-- none is to be met
abbrev pub no_marks : Marks
no_marks = 0

-- t is still to be met
unfoldable pub has_mark : Marks → ℕ → Bool
has_mark m t = m / 2 ^ t % 2 == 1

-- each mark one place on, and below them one more, which is to be met if so said
unfoldable pub next_mark : Marks → Bool → Marks
next_mark m here = m % 2147483648 * 2 + bit here

-- t, which was to be met, is no longer; the others as before
unfoldable pub without_mark : Marks → ℕ → Marks
without_mark m t = when nat_lt t 32 then bit_xor m (2 ^ t) else m

-- t is marked exactly if so said; the others as before
unfoldable pub put_mark : Marks → ℕ → Bool → Marks
put_mark m t here = when (has_mark m t && not here) || (here && not (has_mark m t)) then without_mark m t else m

-- the test of the word, if there is one
abbrev pub if_any : Option Marks → (Marks → Bool) → Bool
if_any None f = false
if_any (Some m) f = f m

-- no task is still to be met
unfoldable pub is_none : Marks → Bool
is_none m = m == 0
