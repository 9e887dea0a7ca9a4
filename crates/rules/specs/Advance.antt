-- ADVANCE: that it is n ticks, for every n; that these wake all whose time comes at once, which is what the code does; what holds of it.
-- Assumes nothing.
use Rattle.std.specs.Prelude.{ℕ, zero, suc, ◌+◌, ◌≤◌, ◌<◌, ◌≡◌, Bool, true, not, ◌&&◌, List, [], ◌∷◌, ◌++◌, map, length, eqb, ltb, leb}
use Rattle.lists.specs.Lists.{when◌then◌else◌, bit, count, filter}
use Rattle.rules.specs.State.{State, timer_of, ticks_left, after, wake_all, set_clock}
use Rattle.rules.specs.Sound.{sound}
use Rattle.rules.specs.Step.{expired, advanced, advance_ends, readings}
use Rattle.rules.specs.Whole.{Typed, Whole, step_whole}
use Rattle.rules.specs.Runs.{Ask, Entry, log_whole, reach_whole, reasons, tick_count}
use Rattle.rules.specs.declared.Item.{Item}
use Rattle.rules.specs.declared.Supervisor.{Supervisor}
use Rattle.rules.specs.declared.Timer.{Timer}
use Rattle.calls.specs.declared.Call as C
use Rattle.calls.specs.declared.Call.TheVariants.{Create, Delay, Call, Select, End, Finish, Tick, Advance}

-- ── all at once ──

-- a time comes within n ticks from now
abbrev pub comes_in : ℕ → ℕ → Timer → Bool
comes_in now n w = ltb 0 (ticks_left now w) && leb (ticks_left now w) n

-- those whose time comes within n ticks, in delay-queue order
abbrev pub due_within : State → ℕ → List ℕ
due_within s n = filter (λ t. comes_in s.clock n (timer_of s t)) s.delays

-- how many of a list have another number than the one before them; before the first stands k
abbrev pub changes : (ℕ → ℕ) → ℕ → List ℕ → ℕ
changes f k [] = 0
changes f k (t ∷ ts) = bit (not (eqb (f t) k)) + changes f (f t) ts

-- how many different numbers of ticks are left to those whose time comes within n ticks; all of them are above 0
abbrev pub due_moments : State → ℕ → ℕ
due_moments s n = changes (λ t. ticks_left s.clock (timer_of s t)) 0 (due_within s n)

-- ── as ticks ──

-- n TICKs in a row
abbrev pub tick_asks : ℕ → ℕ → List Ask
tick_asks zero room = []
tick_asks (suc n) room = record { call = Tick; room = room } ∷ tick_asks n room

-- the lists of a log joined
abbrev pub joined : List Entry → List Item
joined [] = []
joined (x ∷ xs) = x.out.ended ++ joined xs

-- the clock readings at which a step of the log ended a wait
abbrev pub moments : List Entry → List ℕ
moments [] = []
moments (x ∷ xs) = when ltb 0 (length x.out.ended) then x.out.state.clock ∷ moments xs else moments xs

-- a call as it stands; ADVANCE n as n TICKs
abbrev pub spread : C.Call → ℕ → List Ask
spread (Create p n) room = record { call = Create p n; room = room } ∷ []
spread (Delay d) room = record { call = Delay d; room = room } ∷ []
spread (Call g e m) room = record { call = Call g e m; room = room } ∷ []
spread (Select o m) room = record { call = Select o m; room = room } ∷ []
spread End room = record { call = End; room = room } ∷ []
spread Finish room = record { call = Finish; room = room } ∷ []
spread Tick room = record { call = Tick; room = room } ∷ []
spread (Advance n) room = tick_asks n room

-- a run in which each ADVANCE n is n TICKs
abbrev pub expand : List Ask → List Ask
expand [] = []
expand (a ∷ rest) = spread a.call a.room ++ expand rest

-- ── what holds of it ──

-- state and list are those of n TICKs with their lists joined; the entry field counts the clock readings at which a wait ended,
-- all different, never above 31
pub record AsTicks (s : Supervisor) (n room : ℕ) : Type 0 where
  pub state : (step_whole s (Advance n) room).state ≡ reach_whole s (tick_asks n room)
  pub ends : (step_whole s (Advance n) room).ended ≡ joined (log_whole s (tick_asks n room))
  pub readings : (step_whole s (Advance n) room).answer.entry ≡ length (moments (log_whole s (tick_asks n room)))
  pub different : n < 4294967296 → (r : ℕ) → count r (moments (log_whole s (tick_asks n room))) ≤ 1
  pub few : (step_whole s (Advance n) room).answer.entry ≤ 31

-- the same over a run: one ADVANCE and its TICKs leave the same state, end the same waits and count as many ticks
pub record Expanded (s : Supervisor) (run : List Ask) : Type 0 where
  pub state : reach_whole s run ≡ reach_whole s (expand run)
  pub ends : joined (log_whole s run) ≡ joined (log_whole s (expand run))
  pub ticks : tick_count (log_whole s run) ≡ tick_count (log_whole s (expand run))

-- ADVANCE a, then ADVANCE b: together ADVANCE a + b
pub record Cut (x y z : Whole) : Type 0 where
  pub state : z.state ≡ y.state
  pub ends : z.ended ≡ x.ended ++ y.ended
  pub readings : z.answer.entry ≡ x.answer.entry + y.answer.entry
  pub refusals : (z.refusal ≡ x.refusal) × (z.refusal ≡ y.refusal)
  pub next : z.next ≡ y.next

-- ADVANCE 0 changes nothing
pub record Nothing (s : Supervisor) (w : Whole) : Type 0 where
  pub state : w.state ≡ s
  pub ends : w.ended ≡ []
  pub readings : w.answer.entry ≡ 0

-- n ticks wake those whose time comes within n ticks and set the clock, and nothing else: for every n, and across the clock's last reading
pub record AtOnce (s : State) (n : ℕ) : Type 0 where
  pub state : advanced n s ≡ set_clock (wake_all s (due_within s n)) (after s.clock n)
  pub ends : advance_ends n s ≡ map (expired s) (due_within s n)
  pub readings : readings n s ≡ due_moments s n

-- no wait ends twice: no task in two items, at most 31 items, so 124 bytes suffice, and no more readings than items
pub record Fits (s : State) (n : ℕ) : Type 0 where
  pub once : (t : ℕ) → length (reasons t (advance_ends n s)) ≤ 1
  pub items : length (advance_ends n s) ≤ 31
  pub readings : readings n s ≤ length (advance_ends n s)

-- of every struct of the type, sound or not, and of any room: where the one step is refused, so are the others
pub record Advances : Type 0 where
  pub as_ticks : (s : Supervisor) → Typed s → (n room : ℕ) → AsTicks s n room
  pub expanded : (s : Supervisor) → Typed s → (run : List Ask) → Expanded s run
  pub cut : (s : Supervisor) → Typed s → (a b room : ℕ)
      → let x = step_whole s (Advance a) room in Cut x (step_whole x.state (Advance b) room) (step_whole s (Advance (a + b)) room)
  pub nothing : (s : Supervisor) → Typed s → (room : ℕ) → Nothing s (step_whole s (Advance 0) room)
  -- of every sound state
  pub at_once : (s : State) (n : ℕ) → s.clock < 4294967296 → sound s ≡ true → AtOnce s n
  pub fits : (s : State) (n : ℕ) → s.clock < 4294967296 → sound s ≡ true → Fits s n
