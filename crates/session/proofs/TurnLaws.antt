-- From what the parts of a turn promise to what the turn promises.
-- Assumes nothing.
use denote.Enum.Bare.{sameb}
use Rattle.std.proofs.Common.{◌≡◌, ℕ, ◌≤◌, Bool, true, false, not, ◌&&◌, eqb, ltb, List, [], length, sym, refl, ap, ◌∙◌, subst}
use Rattle.calls.specs.declared.Call as C
use Rattle.calls.specs.declared.Record.{Record}
use Rattle.calls.specs.declared.ReadError.{ReadError}
use Rattle.calls.specs.declared.ReadError.TheVariants.{BadRecord, EndOfLog}
use Rattle.calls.specs.contracts.ReadError.{the_type}
use Rattle.std.specs.Prelude.{Result, Ok, Err}
use Rattle.calls.specs.Reading.{read_of, number_of}
use Rattle.lists.proofs.ListLaws.{by_bool}
use Rattle.rules.specs.Step.{room_after}
use Rattle.rules.specs.Questions.{number_in}
use Rattle.rules.specs.Whole.{refused_answer, stepped_of}
use Rattle.rules.specs.declared.Stepped.{Stepped}
use Rattle.report.specs.Lines.{line_text, longest_line}
use Rattle.text.specs.Text.{Put, put_at, number_after}
use Rattle.session.specs.Engines.{Rules}
use Rattle.session.specs.Turn.{Turn, took, left, leaves, turn_by, turn_of, turned_of}
use Rattle.session.specs.declared.turns.Session.{Session}
use Rattle.session.specs.declared.turns.Turned.{Turned}
use Rattle.session.specs.declared.turns.Next.TheVariants.{Again, More, Stop}

-- `==` with the end of the log is the test of the number
pub is_over : (error : ReadError) → sameb the_type error EndOfLog ≡ eqb (number_of error) 12
is_over BadRecord = refl
is_over EndOfLog = refl

-- what a turn prints, and that it is no longer than a line
abbrev pub Prints : {E : Type 0} → Turn E → List ℕ → ℕ → List ℕ → Type 0
Prints t out at after = (after ≡ put_at out at t.text) × (length t.text ≤ longest_line)

-- what it answers and prints
abbrev pub Says : {E : Type 0} → Turn E → List ℕ → ℕ → Turned E → List ℕ → Type 0
Says t out at r after = (r ≡ turned_of t out at) × Prints t out at after

module _ {E : Type 0} where
  abbrev made : Turn E → ℕ → Turned E
  made u k = record { session = u.session; count = u.count; place = k; next = u.next }

  pub says : {out after : List ℕ} {at k : ℕ} (t u : Turn E) → u ≡ t → Put out at u.text after k → length u.text ≤ longest_line
      → Says t out at (record { session = u.session; count = u.count; place = k; next = u.next }) after
  says {out} {after} {at} {k} t u e p h = subst (λ (x : Turn E). Says x out at (made u k) after) e (λ i. made u (p.placed i), (p.written, h))

  -- the promise of one turn is that of another under the same name
  pub same_turn : (out : List ℕ) (at : ℕ) {after room : List ℕ} {r : Turned E} (t u : Turn E) → t ≡ u → r ≡ turned_of t out at → room ≡ t.room → Prints t out at after
      → (r ≡ turned_of u out at) × ((room ≡ u.room) × Prints u out at after)
  same_turn out at {after} {room} {r} t u e a b c =
      subst (λ (x : Turn E). (r ≡ turned_of x out at) × ((room ≡ x.room) × Prints x out at after)) e (a, (b, c))

module _ {E : Type 0} (g : Rules E) (s : Session E) where
  module _ (n many : ℕ) (last : Bool) (room : List ℕ) where
    pub asks_more : (not last && ltb many 10) ≡ true → left s More [] room ≡ leaves g s n many last room
    unfolding leaves
    asks_more e = rw e refl

    pub ends : (not last && ltb many 10) ≡ false → eqb n 12 ≡ true → left s Stop [] room ≡ leaves g s n many last room
    unfolding leaves
    ends e f = rw (e, f) refl

    pub says_bad : (not last && ltb many 10) ≡ false → eqb n 12 ≡ false → left s Stop (line_text s.step (refused_answer n (number_in (g.running s.state))) room) room ≡ leaves g s n many last room
    unfolding leaves
    says_bad e f = rw (e, f) refl

    -- a record that was refused leaves the room as it was
    pub leaves_room : room ≡ (leaves g s n many last room).room
    leaves_room = by_bool (not last && ltb many 10)
        (λ e. ap (λ (t : Turn E). t.room) (asks_more e))
        (λ e. by_bool (eqb n 12)
        (λ f. ap (λ (t : Turn E). t.room) (ends e f))
        (λ f. ap (λ (t : Turn E). t.room) (says_bad e f)))

  -- a call that was taken
  pub took_is : (c : C.Call) (k : ℕ) (room after : List ℕ) (r : Stepped E) (number : ℕ)
      → r ≡ stepped_of (g.step s.state c (length room)) → after ≡ room_after room (g.step s.state c (length room)).ended → number ≡ number_after s.step
      → ◌≡◌ {A = Turn E} (record { session = record { state = r.state; step = number }; count = k; next = Again; text = line_text s.step r.answer after; room = after }) (took g s c k room)
  unfolding took
  took_is c k room after r number e f h =
      λ i. record { session = record { state = (e i).state; step = h i }; count = k; next = Again; text = line_text s.step (e i).answer (f i); room = f i }

  -- what was read decides the turn
  module _ (input : List ℕ) (last : Bool) (room : List ℕ) (got : Result Record ReadError) (e : got ≡ read_of input) where
    by_read : (r : Result Record ReadError) → got ≡ r → turn_by g s r (length input) last room ≡ turn_of g s input last room
    by_read r f = ap (λ (x : Result Record ReadError). turn_by g s x (length input) last room) (sym f ∙ e)

    pub turn_refused : (error : ReadError) → got ≡ Err error → leaves g s (number_of error) (length input) last room ≡ turn_of g s input last room
    turn_refused error f = by_read (Err error) f

    pub turn_took : (c : C.Call) (k : ℕ) → got ≡ Ok (record { call = c; count = k }) → took g s c k room ≡ turn_of g s input last room
    turn_took c k f = by_read (Ok (record { call = c; count = k })) f
