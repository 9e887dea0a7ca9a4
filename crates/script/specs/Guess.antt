-- How a line is read: a guess at the call, which counts only where its text is the line's. So the guess has to be right for the texts of
-- calls, and may be anything for other words.
-- Assumes nothing.
use Rattle.std.specs.Prelude.{ℕ, ◌+◌, ◌*◌, ◌%◌, Bool, false, ◌&&◌, ◌||◌, List, [], ◌∷◌, eqb, leb, ltb, get_or, ℤ, pos, negsuc}
use Rattle.lists.specs.Lists.{when◌then◌else◌}
use Rattle.calls.specs.declared.CallMode.TheVariants.{Simple, Timed, Conditional}
use Rattle.calls.specs.declared.SelectMode.TheVariants as S
use Rattle.calls.specs.declared.Call as C
use Rattle.calls.specs.declared.Call.TheVariants.{Create, Delay, Call, Select, End, Finish, Tick, Advance}
use Rattle.script.specs.declared.guess.Word.{Word}
use Rattle.script.specs.declared.guess.Seen.{Seen}

-- the bit of an entry's digit in an open set
abbrev pub bit_of : ℕ → ℕ
bit_of d = get_or (0 ∷ 1 ∷ 2 ∷ 4 ∷ 8 ∷ 16 ∷ 32 ∷ 64 ∷ 128 ∷ 0 ∷ 0 ∷ 0 ∷ 0 ∷ 0 ∷ 0 ∷ 0 ∷ []) d 0

-- a word that begins
abbrev pub fresh : Word
fresh = record { byte = 0; set = 0; number = 0 }

-- a word with one byte more: a digit counts in its byte, its set and its number
abbrev pub grown_of : Word → ℕ → Word
grown_of w b =
    when leb 48 b && leb b 57
    then record {
      byte = (w.byte * 10 + b % 16) % 256;
      set = (w.set + bit_of (b % 16)) % 256;
      number = (w.number * 10 + b % 16) % 4294967296;
    }
    else w

-- the sum of the letters, with one byte more
abbrev pub added_of : ℕ → ℕ → ℕ
added_of n b = when ltb 64 b then n % 65536 + b else n

-- what is seen of a line, with one byte more: a blank begins a word, and the four last words are kept
abbrev pub heard_of : Seen → ℕ → Seen
heard_of s b =
    when eqb b 32
    then record {
      letters = s.letters;
      minus = s.minus;
      fourth = s.third;
      third = s.second;
      far = s.near;
      second = s.last.byte;
      near = s.last.set;
      last = fresh;
    }
    else record {
      letters = added_of s.letters b;
      minus = eqb b 45 || s.minus;
      fourth = s.fourth;
      third = s.third;
      far = s.far;
      second = s.second;
      near = s.near;
      last = grown_of s.last b;
    }

-- all bytes, one after the other
abbrev pub hear : Seen → List ℕ → Seen
hear s [] = s
hear s (b ∷ l) = hear (heard_of s b) l

-- nothing is seen yet
abbrev pub unseen : Seen
unseen = record { letters = 0; minus = false; fourth = 0; third = 0; far = 0; second = 0; near = 0; last = fresh }

-- a number with or without a minus, as a duration
abbrev pub time_of : Bool → ℕ → ℤ
time_of minus n = when minus then negsuc ((n + 2147483647) % 2147483648) else pos (n % 2147483648)

-- the call that what is seen looks like, by the sum of its letters: each form of a call has a sum of its own
abbrev pub call_by : ℕ → Seen → ℤ → C.Call
call_by letters s time =
    when eqb letters 4 then Create s.second s.last.byte
    else when eqb letters 367 then Delay time
    else when eqb letters 284 then Call s.second s.last.byte Simple
    else when eqb letters 383 then Call s.fourth s.third (Timed time)
    else when eqb letters 160 then Call s.third s.second Conditional
    else when eqb letters 215 then End
    else when eqb letters 17 then Finish
    else when eqb letters 299 then Tick
    else when eqb letters 16 then Select s.last.set S.Plain
    else when eqb letters 111 then Select s.far (S.Delay time)
    else when eqb letters 9 then Select s.near S.Else
    else Advance s.last.number

-- the sum of the letters of "none" is 432, so that word counts for nothing
abbrev pub guess_by : Seen → C.Call
guess_by s = call_by (s.letters % 432) s (time_of s.minus s.last.number)

-- the call that words look like
unfoldable pub guess_of : List ℕ → C.Call
guess_of words = guess_by (hear unseen words)
