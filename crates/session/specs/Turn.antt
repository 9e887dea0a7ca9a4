-- One turn of stepper: the record at the start of the input is read, its call taken, and its line printed. With either engine.
-- Assumes nothing.
use Rattle.std.specs.Prelude.{ℕ, Bool, cond, not, ◌&&◌, List, [], length, ◌==◌, nat_lt, Result, Ok, Err}
use Rattle.calls.specs.declared.Call as C
use Rattle.calls.specs.declared.Record.{Record}
use Rattle.calls.specs.declared.ReadError.{ReadError}
use Rattle.calls.specs.Reading.{END_OF_LOG, read_of, number_of}
use Rattle.rules.specs.Questions.{number_in}
use Rattle.rules.specs.Step.{room_after}
use Rattle.rules.specs.Whole.{answer_of, refused_answer}
use Rattle.report.specs.Lines.{line_text}
use Rattle.text.specs.Text.{number_after, behind}
use Rattle.session.specs.Engines.{Rules}
use Rattle.session.specs.declared.turns.Session.{Session}
use Rattle.session.specs.declared.turns.Turned.{Turned}
use Rattle.session.specs.declared.turns.Next.{Next}
use Rattle.session.specs.declared.turns.Next.TheVariants.{Again, More, Stop}

-- what a turn does: the session and the room afterwards, the bytes taken, the text printed, and how it goes on
pub record Turn (E : Type 0) : Type 0 where
  pub session : Session E
  pub count : ℕ
  pub next : Next
  pub text : List ℕ
  pub room : List ℕ

-- a call is taken: its record's bytes are consumed, and its line is printed
unfoldable pub took : {E : Type 0} → Rules E → Session E → C.Call → ℕ → List ℕ → Turn E
took e s c k room =
    let w = e.step s.state c (length room) in
    let after : List ℕ = room_after room w.ended in
    record {
      session = record { state = w.state; step = number_after s.step };
      count = k;
      next = Again;
      text = line_text s.step (answer_of w) after;
      room = after;
    }

-- nothing is taken, and this is printed
abbrev pub left : {E : Type 0} → Session E → Next → List ℕ → List ℕ → Turn E
left s next text room = record { session = s; count = 0; next = next; text = text; room = room }

-- no record: fewer than ten bytes with more to come ask for them; no bytes end it silently; else a last line says so
unfoldable pub leaves : {E : Type 0} → Rules E → Session E → ℕ → ℕ → Bool → List ℕ → Turn E
leaves e s n many last room =
    cond (not last && nat_lt many 10) (left s More [] room)
    (cond (n == END_OF_LOG) (left s Stop [] room)
    (left s Stop (line_text s.step (refused_answer n (number_in (e.running s.state))) room) room))

-- a turn by what was read
abbrev pub turn_by : {E : Type 0} → Rules E → Session E → Result Record ReadError → ℕ → Bool → List ℕ → Turn E
turn_by e s (Ok r) many last room = took e s r.call r.count room
turn_by e s (Err error) many last room = leaves e s (number_of error) many last room

-- one turn on the input; `last` says that no more bytes come behind it
abbrev pub turn_of : {E : Type 0} → Rules E → Session E → List ℕ → Bool → List ℕ → Turn E
turn_of e s input last room = turn_by e s (read_of input) (length input) last room

-- the code's answer, with the place behind the text that was put into out at `at`
abbrev pub turned_of : {E : Type 0} → Turn E → List ℕ → ℕ → Turned E
turned_of t out at = record { session = t.session; count = t.count; place = behind out at t.text; next = t.next }
