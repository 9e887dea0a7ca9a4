-- What writing bytes answers, and leaves in the lent room (document 01, "Refusal numbers").
use Rattle.std.specs.Prelude.{ℕ, List, ◌++◌, length, drop, ltb, Result, Ok, Err}
use Rattle.lists.specs.Lists.{when◌then◌else◌}
use Rattle.calls.specs.declared.ShortRoom.{ShortRoom}

-- the room is below the record
abbrev pub short_room : ShortRoom
short_room = record {}

-- SHORT_ROOM where the room is below the record; else how many bytes were written
abbrev pub written_of : List ℕ → List ℕ → Result ℕ ShortRoom
written_of bytes room = when ltb (length room) (length bytes) then Err short_room else Ok (length bytes)

-- the refusal number of each answer, 0 for none
abbrev pub write_refusal_of : Result ℕ ShortRoom → ℕ
write_refusal_of (Ok n) = 0
write_refusal_of (Err e) = 1

-- a refused write leaves its room untouched; an accepted one changes only the record's bytes
abbrev pub room_written : List ℕ → List ℕ → List ℕ
room_written bytes room = when ltb (length room) (length bytes) then room else bytes ++ drop (length bytes) room
