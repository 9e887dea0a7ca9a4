-- Which bytes of a log a turn is given, and where the log goes on behind the turn.
-- Assumes nothing.
use Rattle.std.specs.Prelude.{ℕ, ◌+◌, ◌-◌, min, ◌≡◌, Bool, true, false, ◌&&◌, ◌||◌, List, length, take, leb}
use Rattle.text.specs.Text.{behind}
use Rattle.report.specs.Lines.{header}
use Rattle.stream.specs.Windows.{moved_to, unread_in, Grown}
use Rattle.stream.specs.Outputs.{waits_behind}
use Rattle.stream.specs.declared.window.Window.{Window}
use Rattle.session.specs.declared.turns.Next.{Next}
use Rattle.session.specs.declared.turns.Next.TheVariants.{Again, More, Stop}
use Rattle.logs.specs.declared.Log.{Log}

-- ── what a turn is given ──

-- the bytes of a log that stand unread in a buffer: no more than the log still has
abbrev pub bytes_in : Log → List ℕ → List ℕ
bytes_in l b = take l.left (unread_in l.flow.window b)

-- no more of its bytes come: the input has ended, or as many stand unread as the log still has
abbrev pub is_last : Log → List ℕ → Bool
is_last l b = l.flow.window.last || leb l.left (length (unread_in l.flow.window b))

-- the window on them, in a buffer of n bytes
abbrev pub part_of : Window → ℕ → ℕ → Window
part_of w left n =
    let end = min w.end n in
    let at = min w.at end in
    record { at = at; end = at + min (end - at) left; last = w.last || leb left (min (end - at) left) }

-- ── where the log goes on ──

-- the log with its header in the output
abbrev pub begun_of : Log → List ℕ → Log
begun_of l out = record {
  flow = record { window = l.flow.window; waits = behind out l.flow.waits header; goes = l.flow.goes };
  clock = l.clock;
  left = l.left;
  goes = l.goes;
}

-- where a window goes on behind so many of its bytes: no further than its end
abbrev pub place_behind : Window → ℕ → ℕ
place_behind w count = let at = min w.at w.end in at + min count (w.end - at)

-- so many bytes of it are taken, with output up to a place; it goes on if it is to and output can be written
pub record Moved (l : Log) (count place : ℕ) (onward : Bool) (out : List ℕ) (r : Log) : Type 0 where
  pub window : r.flow.window ≡ moved_to l.flow.window (place_behind l.flow.window count)
  pub waits : r.flow.waits ≡ waits_behind out place
  pub left : r.left ≡ l.left - count
  pub clock : r.clock ≡ l.clock
  pub goes : r.goes ≡ (onward && r.flow.goes)

-- none is taken, all output is written, and what came stands behind what stood unread
pub record Supplied (l : Log) (b : List ℕ) (r : Log) (b' : List ℕ) : Type 0 where
  pub window : Grown l.flow.window b r.flow.window b'
  pub waits : r.flow.waits ≡ 0
  pub left : r.left ≡ l.left
  pub clock : r.clock ≡ l.clock
  pub goes : r.goes ≡ r.flow.goes

-- behind a turn, by how it says to go on
abbrev pub Onward : Next → Log → ℕ → ℕ → List ℕ → List ℕ → Log → List ℕ → Type 0
Onward Again l count place out b r b' = Moved l count place true out r
Onward More l count place out b r b' = Supplied l b r b'
Onward Stop l count place out b r b' = Moved l count place false out r
