-- The reader's parts: the faults of the frame, those of mode and d, and the fields of a record without a fault.
use Rattle.std.specs.Prelude.{ℕ, ◌+◌, Bool, not, ◌&&◌, ◌||◌, List, eqb, ltb}
use Rattle.calls.specs.Record.{length_of, has_mode, mode_of, time_of}
use Rattle.calls.specs.Reading.{few_bytes, unknown_tag, wrong_length, cut_short, call_in}
use Rattle.calls.specs.declared.Record.{Record}

-- the faults of tag, length and number of bytes
unfoldable pub bad_frame : List ℕ → Bool
bad_frame s = few_bytes s || unknown_tag s || wrong_length s || cut_short s

-- a mode's number and the bits of its d are those of no mode
abbrev pub bad_mode : ℕ → ℕ → Bool
bad_mode m d = ltb 2 m || not (eqb m 1) && not (eqb d 0)

-- the faults of mode and d
abbrev pub bad_body : ℕ → List ℕ → Bool
bad_body tag s = has_mode tag && bad_mode (mode_of tag s) (time_of tag s)

-- what is found where there is no fault
unfoldable pub body_read : ℕ → List ℕ → Record
body_read tag s = record { call = call_in tag s; count = 3 + length_of tag }
