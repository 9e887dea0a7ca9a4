-- The window on the input, and the flow of input and output.
-- Assumes nothing.
use Rattle.std.specs.Prelude.{◌≡◌, ℕ, ◌-◌, min, true, false, List, ◌++◌, length, take, drop}
use Rattle.stream.specs.declared.flow.Flow.{Flow}
use Rattle.stream.specs.declared.window.Window.{Window}

-- nothing has been read yet
abbrev pub no_window : Window
no_window = record { at = 0; end = 0; last = false }

-- nothing has been read, and nothing waits to be written
abbrev pub no_flow : Flow
no_flow = record { window = no_window; waits = 0; goes = true }

-- what is taken of the input ends at `at`
abbrev pub moved_to : Window → ℕ → Window
moved_to w at = record { at = at; end = w.end; last = w.last }

-- the bytes from at to end, moved to the front; those behind them stay
abbrev pub shifted : List ℕ → ℕ → ℕ → List ℕ
shifted b at end = take (end - at) (drop at b) ++ drop (end - at) b

-- where what stands unread in a buffer begins and ends: a window that reaches outside its buffer is cut to it
abbrev pub end_in : Window → List ℕ → ℕ
end_in w b = min w.end (length b)

abbrev pub start_in : Window → List ℕ → ℕ
start_in w b = min w.at (end_in w b)

-- a window, cut to a buffer of so many bytes
abbrev pub within : Window → ℕ → Window
within w room = record { at = min w.at (min w.end room); end = min w.end room; last = w.last }

-- what stands unread
abbrev pub unread_in : Window → List ℕ → List ℕ
unread_in w b = take (end_in w b - start_in w b) (drop (start_in w b) b)

-- what was unread still is, and what came since stands behind it
pub record Grown (w : Window) (b : List ℕ) (w' : Window) (b' : List ℕ) : Type 0 where
  pub came : List ℕ
  pub behind : unread_in w' b' ≡ unread_in w b ++ came
