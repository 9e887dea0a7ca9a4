-- Many logs, one behind the other: the rest of one is skipped, and the head of the next one says its clock and its length.
-- Assumes nothing.
use Rattle.std.specs.Prelude.{ℕ, ◌+◌, ◌-◌, ◌≡◌, not, ◌&&◌, cond, List, ◌++◌, length, take, drop, eqb, leb}
use Rattle.calls.specs.Record.{four_from}
use Rattle.stream.specs.Windows.{moved_to, unread_in, Grown}
use Rattle.stream.specs.declared.flow.Flow.{Flow}
use Rattle.stream.specs.declared.window.Window.{Window}
use Rattle.logs.specs.Logs.{part_of}
use Rattle.logs.specs.declared.Log.{Log}
use Rattle.logs.specs.declared.Rest.{Rest}

-- ── the rest of a log ──

-- what stands of a log in a buffer of n bytes is passed over
abbrev pub dropped_of : Window → ℕ → ℕ → Rest
dropped_of w left n =
    let p = part_of w left n in
    record { window = moved_to w p.end; left = left - (p.end - p.at); goes = not p.last }

-- as many bytes as the log still has are passed over, of those unread and those that came
pub record Skipped (w : Window) (left : ℕ) (b : List ℕ) (w' : Window) (b' : List ℕ) : Type 0 where
  pub came : List ℕ
  pub behind : unread_in w' b' ≡ drop left (unread_in w b ++ came)

-- ── the head of the next log ──

-- four bytes from a place on as a number; 0 where there are fewer
abbrev pub number_at : List ℕ → ℕ → ℕ
number_at b at = cond (leb (at + 4) (length b)) (four_from b at) 0

-- the log behind a head of eight bytes, a clock and a number of bytes; without a whole head it does not go on
unfoldable pub head_of : Flow → List ℕ → Log
head_of f b =
    let p = part_of f.window 8 (length b) in
    let head = take (p.end - p.at) (drop p.at b) in
    record {
      flow = record { window = moved_to f.window p.end; waits = f.waits; goes = f.goes };
      clock = number_at head 0;
      left = number_at head 4;
      goes = f.goes && eqb (p.end - p.at) 8;
    }

-- the log whose head stands next behind a window, with what came
pub record Headed (w : Window) (f : Flow) (b : List ℕ) (r : Log) (b' : List ℕ) : Type 0 where
  pub window : Window
  pub grown : Grown w b window b'
  pub head : r ≡ head_of (record { window = window; waits = f.waits; goes = f.goes }) b'
