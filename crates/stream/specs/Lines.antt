-- The lines of the input.
-- Assumes nothing.
use Rattle.std.specs.Prelude.{◌≡◌, ℕ, suc, ◌+◌, ◌-◌, Bool, true, false, cond, ◌&&◌, ◌||◌, List, [], ◌∷◌, length, ◌==◌, nat_lt}
use Rattle.text.specs.Text.{number_after}
use Rattle.stream.specs.Windows.{no_flow, moved_to, end_in, start_in, unread_in, Grown}
use Rattle.stream.specs.declared.line.Kind.{Kind}
use Rattle.stream.specs.declared.line.Kind.TheVariants.{Line, Rest, Long, More, Over}
use Rattle.stream.specs.declared.line.Lines.{Lines}
use Rattle.stream.specs.declared.line.Piece.{Piece}
use Rattle.stream.specs.declared.window.Window.{Window}

-- nothing has been read, and the first line comes next
abbrev pub no_lines : Lines
no_lines = record { flow = no_flow; number = 1; skips = false }

-- a whole line, or the rest of one; else nothing more comes, or the buffer is full, or there is room for more
abbrev pub kind_of : Bool → Bool → Bool → Bool → Kind
kind_of whole skips last fills = cond whole (cond skips Rest Line) (cond last Over (cond fills Long More))

-- how many stand in front of the first that is c: all of them where none is
abbrev pub index_of : ℕ → List ℕ → ℕ
index_of c [] = 0
index_of c (x ∷ xs) = cond (x == c) 0 (suc (index_of c xs))

-- where the line at the front of a window ends: before its line end, or with the window
abbrev pub stop_in : Window → List ℕ → ℕ
stop_in w b = start_in w b + index_of 10 (unread_in w b)

-- all of a line stands there: it has its line end, or it is the last one and not empty
abbrev pub whole_in : Window → List ℕ → Bool
whole_in w b = nat_lt (stop_in w b) (end_in w b) || (w.last && nat_lt (start_in w b) (end_in w b))

-- no more bytes fit the buffer
abbrev pub fills_in : Window → List ℕ → Bool
fills_in w b = end_in w b - start_in w b == length b

-- what stands at the front of the window
unfoldable pub front_of : Lines → List ℕ → Piece
front_of l b =
    let w : Window = l.flow.window in
    record { from = start_in w b; to = stop_in w b; kind = kind_of (whole_in w b) l.skips w.last (fills_in w b) }

-- the number of the line that comes behind
abbrev pub number_behind : Kind → ℕ → ℕ
number_behind Line n = number_after n
number_behind Rest n = number_after n
number_behind Long n = n
number_behind More n = n
number_behind Over n = n

-- whether that is the rest of one that is too long
abbrev pub skips_behind : Kind → Bool → Bool
skips_behind Line skips = false
skips_behind Rest skips = false
skips_behind Long skips = true
skips_behind More skips = skips
skips_behind Over skips = skips

-- the window behind: past a line and its line end, past what fills the buffer, or what stood there with what came
abbrev pub WindowBehind : Kind → ℕ → Window → List ℕ → Window → List ℕ → Type 0
WindowBehind Line stop w b w' b' = w' ≡ moved_to w (number_after stop)
WindowBehind Rest stop w b w' b' = w' ≡ moved_to w (number_after stop)
WindowBehind Long stop w b w' b' = w' ≡ moved_to w stop
WindowBehind More stop w b w' b' = Grown w b w' b'
WindowBehind Over stop w b w' b' = w' ≡ w
