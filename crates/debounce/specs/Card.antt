-- The card: what a sample does to a contact, when a card is damaged, and what a tick does, by the supervisor's steps.
-- Assumes nothing.
use Rattle.std.specs.Prelude.{ℕ, zero, suc, ◌+◌, ◌-◌, Bool, true, false, ◌&&◌, ltb, List, [], ◌∷◌, map, pos, ◌==◌, nat_le, nat_lt, slice_index_or, slice_set}
use Rattle.lists.specs.Lists.{when◌then◌else◌}
use Rattle.calls.specs.declared.Call as C
use Rattle.calls.specs.declared.Call.TheVariants.{Create, Delay, Tick}
use Rattle.rules.specs.State.{empty, ticks_left}
use Rattle.rules.specs.Whole.{Whole, pack, sound_whole, step_whole}
use Rattle.rules.specs.declared.Supervisor.{Supervisor}
use Rattle.rules.specs.declared.Task.{Task}
use Rattle.rules.specs.declared.Place.{Place}
use Rattle.rules.specs.declared.Place.TheVariants.{Blank, Ready, Delayed, Queued, Held, Accepting, Completed}
use Rattle.debounce.specs.declared.Card.{Card}
use Rattle.debounce.specs.declared.Contact.{Contact}
use Rattle.debounce.specs.declared.Ticked.{Ticked}
use Rattle.debounce.specs.declared.turns.Turned.{Turned}
use Rattle.debounce.specs.Rule.{Setting, closed_in, differs, byte_of}

-- ── a contact ──

-- the contact of a setting at the start: open, and nothing said against it
abbrev pub opened : Setting → Contact
opened x = record { n = x.n; p = x.p; closed = false; against = 0 }

-- a contact that is not there
abbrev pub no_setting : Setting
no_setting = record { n = 0; p = 0 }

abbrev pub no_contact : Contact
no_contact = opened no_setting

-- the contact with another report, and another number of samples against it
abbrev pub told : Contact → Bool → ℕ → Contact
told c closed against = record { n = c.n; p = c.p; closed = closed; against = against }

-- one more sample: where it differs from the report it is one more in a row, and the n-th turns the report
abbrev pub sampled : Contact → Bool → Contact
sampled c x =
    when differs x c.closed then (when ltb (c.against + 1) c.n then told c c.closed (c.against + 1) else told c x 0)
    else told c c.closed 0

-- whether the contact is reported closed
abbrev pub is_closed : Contact → Bool
is_closed c = c.closed

-- ── when a card is damaged ──

-- n is 1 to 16, p is 1 to 65535
abbrev pub good_setting : ℕ → ℕ → Bool
good_setting n p = nat_le 1 n && nat_le n 16 && nat_le 1 p && nat_le p 65535

-- a task in this place delays
abbrev pub is_delayed : Place → Bool
is_delayed Blank = false
is_delayed Ready = false
is_delayed Delayed = true
is_delayed (Queued q) = false
is_delayed (Held m) = false
is_delayed (Accepting o) = false
is_delayed Completed = false

-- the contact's setting is in range, and its task delays with 1 to p ticks left
abbrev pub waits_for : ℕ → Task → Contact → Bool
waits_for now x c = good_setting c.n c.p && is_delayed x.place && nat_le 1 (ticks_left now x.timer) && nat_le (ticks_left now x.timer) c.p

-- each contact's task does so; the first task is that of the first contact
abbrev pub all_wait : ℕ → List Task → List Contact → Bool
all_wait now xs [] = true
all_wait now [] (c ∷ cs) = false
all_wait now (x ∷ xs) (c ∷ cs) = waits_for now x c && all_wait now xs cs

-- not damaged: the supervisor is sound, its tasks are 1 to 8, and each delays with 1 to p ticks left, its contact's setting in range
unfoldable pub whole : Card → Bool
whole c = sound_whole c.supervisor && c.supervisor.core.created == 8 && all_wait c.supervisor.core.clock c.supervisor.core.tasks c.contacts

-- ── a tick ──

-- the bytes of room that a step asks for
abbrev pub room : ℕ
room = 124

-- a call of the supervisor, with a room of its own
abbrev pub takes : Supervisor → C.Call → Whole
takes s call = step_whole s call room

-- contact k
abbrev pub nth_of : List Contact → ℕ → Contact
nth_of cs k = slice_index_or cs (k - 1) no_contact

-- the turn of the running task t: it samples contact t, and delays p ticks again
abbrev pub turn_of : Card → ℕ → ℕ → Turned
turn_of c t bits =
    let k = nth_of c.contacts t in
    let w = takes c.supervisor (Delay (pos k.p)) in
    record { card = record { supervisor = w.state; contacts = slice_set c.contacts (t - 1) (sampled k (closed_in bits t)) }; next = w.next }

-- turn by turn, at most so many, until no task of a contact runs
abbrev pub serve : ℕ → Card → ℕ → ℕ → Card
serve zero c t bits = c
serve (suc k) c t bits = when nat_lt 0 t && nat_le t 8 then serve k (turn_of c t bits).card (turn_of c t bits).next bits else c

-- turn by turn, until nobody runs: there are eight tasks
unfoldable pub all_served : Card → ℕ → ℕ → Card
all_served c t bits = serve 8 c t bits

-- the card after TICK, and the turns of those whose time has come
unfoldable pub ticked_card : Card → ℕ → Card
ticked_card c bits =
    let w = takes c.supervisor Tick in
    all_served (record { supervisor = w.state; contacts = c.contacts }) w.next bits

-- the answer with this card: the report is bit k - 1 for contact k, 1 for closed
abbrev pub answered : Card → Ticked
answered c = record { card = c; refusal = 0; reported = byte_of (map is_closed c.contacts) }

-- a damaged card is given back unchanged with all contacts reported 0
abbrev pub damaged : Card → Ticked
damaged c = record { card = c; refusal = 2; reported = 0 }

-- one tick with the raw bits
abbrev pub tick_of : Card → ℕ → Ticked
tick_of c bits = when whole c then answered (ticked_card c bits) else damaged c

-- ── the start ──

-- a supervisor with no tasks, its clock at 0
abbrev pub no_tasks : Supervisor
no_tasks = pack (empty 0)

-- one more task, of the same priority as all others and with no entries, which delays p ticks
abbrev pub start_one : Supervisor → ℕ → Supervisor
start_one s p = (takes (takes s (Create 1 0)).state (Delay (pos p))).state

-- a task for each contact
abbrev pub start_all : Supervisor → List Contact → Supervisor
start_all s [] = s
start_all s (c ∷ cs) = start_all (start_one s c.p) cs
