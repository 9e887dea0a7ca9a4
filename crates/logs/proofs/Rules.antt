-- One turn of a log with the impl of the first engine is said by `first`, and with that of the second by `second`. Assumes nothing.
use Rattle.std.proofs.Common.{◌≡◌}
use denote.Struct.Declared.{row}
use Rattle.rules.specs.contracts.Supervisor as supervisor
use Rattle.rules.specs.contracts.Second as second_struct
use Rattle.text.specs.Text.{Uncut}
use Rattle.session.specs.Engines.{first, second}
use Rattle.session.specs.Turn.{turn_of, turned_of}
use Rattle.session.specs.contracts.engines.SupervisorEngine.TheImpl as first_impl
use Rattle.session.specs.contracts.engines.SecondEngine.TheImpl as second_impl
use Rattle.logs.specs.Logs.{bytes_in, is_last}
use Rattle.logs.proofs.run_turn.Reads as run_turn

pub run_turn_by_first : (l : _) (c : _) (d : _) (k : _) (d' : _) (κs : _) (x : _) (r : _) (y : _)
    → run_turn.Learnt (row supervisor.the_type) l c first_impl.ghosts d k d' κs x r y
    → (let t = turn_of first x.1.0 (bytes_in x.0 x.1.1.0.now) (is_last x.0 x.1.1.0.now) x.1.1.1.0.now in
    (r ≡ turned_of t x.1.1.1.1.0.now x.0.flow.waits) × ((y.1.1.1.0.now ≡ t.room) × Uncut x.1.1.1.1.0.now x.0.flow.waits t.text y.1.1.1.1.0.now))
run_turn_by_first l c d k d' κs x r y p = (p.0, (p.1.0, p.1.1))

pub run_turn_by_second : (l : _) (c : _) (d : _) (k : _) (d' : _) (κs : _) (x : _) (r : _) (y : _)
    → run_turn.Learnt (row second_struct.the_type) l c second_impl.ghosts d k d' κs x r y
    → (let t = turn_of second x.1.0 (bytes_in x.0 x.1.1.0.now) (is_last x.0 x.1.1.0.now) x.1.1.1.0.now in
    (r ≡ turned_of t x.1.1.1.1.0.now x.0.flow.waits) × ((y.1.1.1.0.now ≡ t.room) × Uncut x.1.1.1.1.0.now x.0.flow.waits t.text y.1.1.1.1.0.now))
run_turn_by_second l c d k d' κs x r y p = (p.0, (p.1.0, p.1.1))
