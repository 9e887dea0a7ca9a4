-- What reading finds at the start of bytes (document 01, "Call records", "Refusal numbers").
use Rattle.std.specs.Prelude.{ℕ, ◌+◌, ◌-◌, Bool, not, ◌&&◌, ◌||◌, List, length, eqb, ltb, Result, Ok, Err}
use Rattle.lists.specs.Lists.{when◌then◌else◌}
use Rattle.calls.specs.Duration.{signed}
use Rattle.calls.specs.Record.{byte, four_from, tag_of, length_said, is_unknown, length_of, has_mode, mode_of, time_of}
use Rattle.calls.specs.declared.CallMode.{CallMode}
use Rattle.calls.specs.declared.CallMode.TheVariants.{Simple, Timed, Conditional}
use Rattle.calls.specs.declared.SelectMode.{SelectMode}
use Rattle.calls.specs.declared.SelectMode.TheVariants as S
use Rattle.calls.specs.declared.Call as C
use Rattle.calls.specs.declared.Call.TheVariants.{Create, Delay, Call, Select, End, Finish, Tick, Advance}
use Rattle.calls.specs.declared.Record.{Record}
use Rattle.calls.specs.declared.ReadError.{ReadError}
use Rattle.calls.specs.declared.ReadError.TheVariants.{BadRecord, EndOfLog}

-- ── the six faults of a record ──

-- fewer than 3 bytes
abbrev pub few_bytes : List ℕ → Bool
few_bytes s = ltb (length s) 3

-- an unknown tag
abbrev pub unknown_tag : List ℕ → Bool
unknown_tag s = is_unknown (tag_of s)

-- a length not the tag's
abbrev pub wrong_length : List ℕ → Bool
wrong_length s = not (eqb (length_said s) (length_of (tag_of s)))

-- fewer bytes than the length
abbrev pub cut_short : List ℕ → Bool
cut_short s = ltb (length s - 3) (length_of (tag_of s))

-- a mode above 2
abbrev pub high_mode : List ℕ → Bool
high_mode s = has_mode (tag_of s) && ltb 2 (mode_of (tag_of s) s)

-- d not 0 where it must be: in modes other than 1
abbrev pub unused_time : List ℕ → Bool
unused_time s = has_mode (tag_of s) && (not (eqb (mode_of (tag_of s) s) 1) && not (eqb (time_of (tag_of s) s) 0))

-- the bytes are no record
unfoldable pub faulty : List ℕ → Bool
faulty s = few_bytes s || unknown_tag s || wrong_length s || cut_short s || high_mode s || unused_time s

-- ── the call of a record without a fault ──

-- a CALL's mode, by its number and the bits of d
abbrev pub call_mode_of : ℕ → ℕ → CallMode
call_mode_of m d = when eqb m 0 then Simple else when eqb m 1 then Timed (signed d) else Conditional

-- a SELECT's mode, by its number and the bits of d
abbrev pub select_mode_of : ℕ → ℕ → SelectMode
select_mode_of m d = when eqb m 0 then S.Plain else when eqb m 1 then S.Delay (signed d) else S.Else

-- the call of a record with a tag
abbrev pub call_in : ℕ → List ℕ → C.Call
call_in tag s =
    when eqb tag 1 then Create (byte s 3) (byte s 4)
    else when eqb tag 2 then Delay (signed (four_from s 3))
    else when eqb tag 3 then Call (byte s 3) (byte s 4) (call_mode_of (mode_of 3 s) (time_of 3 s))
    else when eqb tag 4 then Select (byte s 3) (select_mode_of (mode_of 4 s) (time_of 4 s))
    else when eqb tag 5 then End
    else when eqb tag 6 then Finish
    else when eqb tag 7 then Tick
    else Advance (four_from s 3)

-- ── what reading finds ──

-- no bytes left: END_OF_LOG; a fault: BAD_RECORD; else the call and its record's bytes. Bytes behind the record are not looked at
unfoldable pub read_of : List ℕ → Result Record ReadError
read_of s =
    when eqb (length s) 0 then Err EndOfLog
    else when faulty s then Err BadRecord
    else Ok (record { call = call_in (tag_of s) s; count = 3 + length_of (tag_of s) })

-- ── the paper's numbers ──

-- a record with a fault
abbrev pub BAD_RECORD : ℕ
BAD_RECORD = 11

-- no bytes left
abbrev pub END_OF_LOG : ℕ
END_OF_LOG = 12

-- the number of each refusal
abbrev pub number_of : ReadError → ℕ
number_of BadRecord = BAD_RECORD
number_of EndOfLog = END_OF_LOG

-- the refusal number of each answer, 0 for none
abbrev pub refusal_of : Result Record ReadError → ℕ
refusal_of (Ok r) = 0
refusal_of (Err e) = number_of e

-- the bytes that each answer takes: a refused read takes 0
abbrev pub count_of : Result Record ReadError → ℕ
count_of (Ok r) = r.count
count_of (Err e) = 0

-- the refusal number that bytes call for
unfoldable pub refusal_for : List ℕ → ℕ
refusal_for s = when eqb (length s) 0 then END_OF_LOG else when faulty s then BAD_RECORD else 0

-- the bytes that are to be taken
unfoldable pub count_for : List ℕ → ℕ
count_for s = when eqb (refusal_for s) 0 then 3 + length_of (tag_of s) else 0
