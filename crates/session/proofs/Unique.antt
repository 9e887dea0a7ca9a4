-- Any two answers that the contract of a turn allows are equal, and so is each byte of the room and of the output: with any engine, and so
-- with the first and with the second. So are any two answers of an engine, as code over any engine learns them, and as each impl gives them; and
-- the rules of each impl are that engine's. Assumes nothing.
use Rattle.std.proofs.Common.{◌≡◌, ◌≤◌, length, refl, sym, ◌∙◌}
use denote.Struct.Declared.{row}
use Rattle.lists.specs.Once.{Once}
use Rattle.report.specs.Lines.{longest_line}
use Rattle.text.specs.Text.{put_at}
use Rattle.rules.specs.contracts.Supervisor as supervisor
use Rattle.rules.specs.contracts.Second as second_struct
use Rattle.session.specs.Engines.{first, second}
use Rattle.session.specs.Turn.{turn_of, turned_of}
use Rattle.session.specs.contracts.engines.SupervisorEngine.TheImpl as first_impl
use Rattle.session.specs.contracts.engines.SecondEngine.TheImpl as second_impl
use Rattle.session.proofs.engines.Engine.empty.Reads as engine_empty
use Rattle.session.proofs.engines.Engine.step.Reads as engine_step
use Rattle.session.proofs.engines.Engine.running.Reads as engine_running
use Rattle.session.proofs.engines.SupervisorEngine.empty.Reads as first_empty
use Rattle.session.proofs.engines.SupervisorEngine.step.Reads as first_step
use Rattle.session.proofs.engines.SupervisorEngine.running.Reads as first_running
use Rattle.session.proofs.engines.SecondEngine.empty.Reads as second_empty
use Rattle.session.proofs.engines.SecondEngine.step.Reads as second_step
use Rattle.session.proofs.engines.SecondEngine.running.Reads as second_running
use Rattle.session.proofs.turns.turn.Reads as turn

-- ---- a turn

-- E has the states of the engine, and n what its trait says of it
pub engine_turn_once : (E : _) (l : _) (c : _) (n : _) (d : _) (k : _) (d' : _) (κs : _) (x : _) (r r' : _) (y y' : _)
    → turn.Learnt E l c n d k d' κs x r y → turn.Learnt E l c n d k d' κs x r' y'
    → (r ≡ r') × ((y.1.1.1.0.now ≡ y'.1.1.1.0.now) × (y.1.1.1.1.0.now ≡ y'.1.1.1.1.0.now))
engine_turn_once E l c n d k d' κs x r r' y y' p q = (p.0 ∙ sym q.0, (p.1.0 ∙ sym q.1.0, p.1.1.0 ∙ sym q.1.1.0))

pub turn_once : (l : _) (c : _) (d : _) (k : _) (d' : _) (κs : _) (x : _) (r r' : _) (y y' : _)
    → turn.Learnt (row supervisor.the_type) l c (record { ruled = first }) d k d' κs x r y → turn.Learnt (row supervisor.the_type) l c (record { ruled = first }) d k d' κs x r' y'
    → (r ≡ r') × ((y.1.1.1.0.now ≡ y'.1.1.1.0.now) × (y.1.1.1.1.0.now ≡ y'.1.1.1.1.0.now))
turn_once l c d k d' κs x r r' y y' p q = engine_turn_once (row supervisor.the_type) l c (record { ruled = first }) d k d' κs x r r' y y' p q

pub second_turn_once : (l : _) (c : _) (d : _) (k : _) (d' : _) (κs : _) (x : _) (r r' : _) (y y' : _)
    → turn.Learnt (row second_struct.the_type) l c (record { ruled = second }) d k d' κs x r y → turn.Learnt (row second_struct.the_type) l c (record { ruled = second }) d k d' κs x r' y'
    → (r ≡ r') × ((y.1.1.1.0.now ≡ y'.1.1.1.0.now) × (y.1.1.1.1.0.now ≡ y'.1.1.1.1.0.now))
second_turn_once l c d k d' κs x r r' y y' p q = engine_turn_once (row second_struct.the_type) l c (record { ruled = second }) d k d' κs x r r' y y' p q

-- ---- an engine, whatever its rules are: E and n as above

pub engine_empty_once : (E : _) (l : _) (c : _) (n : _) (d : _) (k : _) (d' : _) (κs : _) (x : _) (r r' : _) (y y' : _)
    → engine_empty.Learnt E l c n d k d' κs x r y → engine_empty.Learnt E l c n d k d' κs x r' y' → r ≡ r'
engine_empty_once E l c n d k d' κs x r r' y y' p q = p ∙ sym q

pub engine_step_once : (E : _) (l : _) (c : _) (n : _) (d : _) (k : _) (d' : _) (κs : _) (x : _) (r r' : _) (y y' : _)
    → engine_step.Learnt E l c n d k d' κs x r y → engine_step.Learnt E l c n d k d' κs x r' y' → (r ≡ r') × (y.1.1.0.now ≡ y'.1.1.0.now)
engine_step_once E l c n d k d' κs x r r' y y' p q = (p.0 ∙ sym q.0, p.1 ∙ sym q.1)

pub engine_running_once : (E : _) (l : _) (c : _) (n : _) (d : _) (k : _) (d' : _) (κs : _) (x : _) (r r' : _) (y y' : _)
    → engine_running.Learnt E l c n d k d' κs x r y → engine_running.Learnt E l c n d k d' κs x r' y' → r ≡ r'
engine_running_once E l c n d k d' κs x r r' y y' p q = p ∙ sym q

-- ---- the impl of the first engine

pub first_empty_once : Once first_empty.Learnt
first_empty_once κs x r r' y y' p q = p ∙ sym q

pub first_step_once : (κs : _) (x : _) (r r' : _) (y y' : _) → first_step.Learnt κs x r y → first_step.Learnt κs x r' y' → (r ≡ r') × (y.1.1.0.now ≡ y'.1.1.0.now)
first_step_once κs x r r' y y' p q = (p.0 ∙ sym q.0, p.1 ∙ sym q.1)

pub first_running_once : Once first_running.Learnt
first_running_once κs x r r' y y' p q = p ∙ sym q

-- ---- the impl of the second engine

pub second_empty_once : Once second_empty.Learnt
second_empty_once κs x r r' y y' p q = p ∙ sym q

pub second_step_once : (κs : _) (x : _) (r r' : _) (y y' : _) → second_step.Learnt κs x r y → second_step.Learnt κs x r' y' → (r ≡ r') × (y.1.1.0.now ≡ y'.1.1.0.now)
second_step_once κs x r r' y y' p q = (p.0 ∙ sym q.0, p.1 ∙ sym q.1)

pub second_running_once : Once second_running.Learnt
second_running_once κs x r r' y y' p q = p ∙ sym q

-- ---- which rules these are

pub first_ruled : first_impl.ghosts.ruled ≡ first
first_ruled = refl

pub second_ruled : second_impl.ghosts.ruled ≡ second
second_ruled = refl

-- so what is learnt of a turn with the first engine's impl is the contract of `turn` over `first`, and with the second's over `second`
pub turn_by_first : (l : _) (c : _) (d : _) (k : _) (d' : _) (κs : _) (x : _) (r : _) (y : _)
    → turn.Learnt (row supervisor.the_type) l c first_impl.ghosts d k d' κs x r y
    → (let t = turn_of first x.0 x.1.0.now x.1.1.0 x.1.1.1.0.now in
    (r ≡ turned_of t x.1.1.1.1.0.now x.1.1.1.1.1.0) × ((y.1.1.1.0.now ≡ t.room) × ((y.1.1.1.1.0.now ≡ put_at x.1.1.1.1.0.now x.1.1.1.1.1.0 t.text) × (length t.text ≤ longest_line))))
turn_by_first l c d k d' κs x r y p = (p.0, (p.1.0, (p.1.1.0, p.1.1.1)))

pub turn_by_second : (l : _) (c : _) (d : _) (k : _) (d' : _) (κs : _) (x : _) (r : _) (y : _)
    → turn.Learnt (row second_struct.the_type) l c second_impl.ghosts d k d' κs x r y
    → (let t = turn_of second x.0 x.1.0.now x.1.1.0 x.1.1.1.0.now in
    (r ≡ turned_of t x.1.1.1.1.0.now x.1.1.1.1.1.0) × ((y.1.1.1.0.now ≡ t.room) × ((y.1.1.1.1.0.now ≡ put_at x.1.1.1.1.0.now x.1.1.1.1.1.0 t.text) × (length t.text ≤ longest_line))))
turn_by_second l c d k d' κs x r y p = (p.0, (p.1.0, (p.1.1.0, p.1.1.1)))
