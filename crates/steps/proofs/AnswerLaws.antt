-- From what the small functions answer to the rules' outcomes: what every call needs.
-- Assumes nothing.
use Rattle.std.proofs.Common.{◌≡◌, ℕ, zero, suc, ◌≤◌, Bool, List, [], length, Result, Ok, Err, sym, refl, ap, ◌∙◌}
use Rattle.std.specs.Prelude.{is_ok, IsErrAnd}
use Rattle.lists.proofs.Tests.{differ}
use Rattle.rules.specs.State.{State, task_of, move, running}
use Rattle.rules.specs.Step.{Outcome, refused, took, of_running, room_after}
use Rattle.rules.specs.declared.Refusal.{Refusal}
use Rattle.rules.specs.declared.Refusal.TheVariants.{NoTask}
use Rattle.rules.specs.Whole.{view_core, pack_core}
use Rattle.rules.specs.declared.Item.{Item}
use Rattle.rules.specs.declared.Task.{Task}
use Rattle.rules.specs.declared.Core.{Core}
use Rattle.rules.specs.declared.Place.{Place}
use Rattle.rules.specs.declared.Timer.{Timer}
use Rattle.rules.specs.Callers.{with_callers, core_of}
use Rattle.rules.proofs.Apart.{running_core}
use Rattle.rules.proofs.Members.{Runs, runs}
use Rattle.table.specs.Moved.{moved_of}
use Rattle.steps.specs.Taken.{Stands, taken_as, taken_of, ended_by}
use Rattle.steps.specs.declared.answers.Taken.{Taken}
use Rattle.steps.proofs.MoveLaws.{moved_packed}

-- ---- the running task

pub runner : (s : Core) (t : ℕ) → Stands s → t ≡ running (view_core s) → (t ≡ 0 → ⊥) → Runs (view_core s) t
runner s zero h e z = absurd (z refl)
runner s (suc t) h e z =
    let r = runs (with_callers (view_core s) h.callers) t h.sound (running_core (view_core s) h.callers ∙ sym e) in record { low = r.low; high = r.high; place = r.place }

pub no_runner : (st : State) (f : ℕ → Outcome) → running st ≡ 0 → of_running (running st) f ≡ refused NoTask
no_runner st f z = rw z

-- and what the `?` then hands on
pub unrun : {Q : Refusal → Type 0} (r : Result Taken Refusal) (why : Refusal) → IsErrAnd r Q → ((y : Refusal) → Q y → y ≡ why) → why ≡ NoTask → r ≡ Err NoTask
unrun (Ok k) why h f e = absurd h
unrun (Err y) why h f e = ap Err (f y h ∙ e)

pub of_runner : (st : State) (t : ℕ) (f : ℕ → Outcome) → t ≡ running st → (t ≡ 0 → ⊥) → of_running (running st) f ≡ f t
of_runner st zero f e z = absurd (z refl)
of_runner st (suc t) f e z = rw (← e)

-- ---- answers

-- the outcome is another one
pub by_outcome : {o q : Outcome} {r : Result Taken Refusal} → o ≡ q → r ≡ taken_of q → r ≡ taken_of o
by_outcome e h = h ∙ sym (ap taken_of e)

pub by_ended : (x y : List ℕ) {o q : Outcome} → o ≡ q → x ≡ room_after y (ended_by q) → x ≡ room_after y (ended_by o)
by_ended x y e k = k ∙ sym (ap (λ (o : Outcome). room_after y (ended_by o)) e)

-- what is answered does not tell of the callers
taken_core : (o : Outcome) → taken_of o ≡ taken_of (core_of o)
taken_core (refused r) = refl
taken_core (took st a l) = refl

ended_core : (o : Outcome) → ended_by o ≡ ended_by (core_of o)
ended_core (refused r) = refl
ended_core (took st a l) = refl

-- the outcome is another one, but for the callers
pub by_core : (o q : Outcome) {r : Result Taken Refusal} → core_of o ≡ core_of q → r ≡ taken_of q → r ≡ taken_of o
by_core o q e h = h ∙ taken_core q ∙ sym (ap taken_of e) ∙ sym (taken_core o)

pub by_core_ended : (o q : Outcome) (x y : List ℕ) → core_of o ≡ core_of q → x ≡ room_after y (ended_by q) → x ≡ room_after y (ended_by o)
by_core_ended o q x y e k = k ∙ ap (room_after y) (ended_core q ∙ sym (ap ended_by e) ∙ sym (ended_core o))

-- an answer, its state and its list
pub answers : (m : Core) (st : State) (a : Item) (l : List Item) {n : ℕ} {r : Taken} → r ≡ taken_as m a n → m ≡ pack_core st → n ≡ length l → Ok r ≡ taken_of (took st a l)
answers m st a l e q k = ap Ok (e ∙ λ i. taken_as (q i) a (k i))

-- an answer after one move, and one that leaves the state as it is
pub move-answers : (s m : Core) (t : ℕ) (p : Place) (w : Timer) (a : Item) (l : List Item) {r : Taken} → Stands s → t ≤ length (view_core s).tasks
    → r ≡ taken_as m a (length l) → m ≡ moved_of s t p w → Ok r ≡ taken_of (took (move (view_core s) t p w) a l)
move-answers s m t p w a l h k e q = answers m (move (view_core s) t p w) a l e (q ∙ moved_packed s t p w h k) refl

pub stay_answers : (s : Core) (a : Item) (l : List Item) {r : Taken} → Stands s → r ≡ taken_as s a (length l) → Ok r ≡ taken_of (took (view_core s) a l)
stay_answers s a l h e = answers s (view_core s) a l e h.packs refl

-- what is known of a call that was taken: its outcome is no refusal, and it gave what that says
kept : Taken → Result Taken Refusal → Taken
kept d (Ok k) = k
kept d (Err r) = d

pub record WasTaken (o : Outcome) (k : Taken) : Type 0 where
  pub state : State
  pub answer : Item
  pub list : List Item
  pub outcome : o ≡ took state answer list
  pub gave : k ≡ taken_as (pack_core state) answer (length list)

pub was_taken : (o : Outcome) (k : Taken) → Ok k ≡ taken_of o → WasTaken o k
unfolding kept
was_taken (refused r) k e = differ (ap is_ok e)
was_taken (took st a l) k e = record { state = st; answer = a; list = l; outcome = refl; gave = ap (kept k) e }

-- and of one that was refused
reason : Refusal → Result Taken Refusal → Refusal
reason d (Ok k) = d
reason d (Err r) = r

pub was_refused : (o : Outcome) (r : Refusal) → Err r ≡ taken_of o → o ≡ refused r
unfolding reason
was_refused (refused q) r e = ap refused (sym (ap (reason r) e))
was_refused (took st a l) r e = differ (sym (ap is_ok e))

-- a test of the called task, made on its record
pub of_task : (v : State) (g : ℕ) (x : Task) (f : Task → Bool) (b c : Bool) → x ≡ task_of v g → b ≡ f x → b ≡ c → f (task_of v g) ≡ c
of_task v g x f b c ex e z = sym (ap f ex) ∙ sym e ∙ z

-- ---- the room

-- nothing is listed: the room stays
pub quiet_room : (x : List ℕ) {l : List Item} → l ≡ [] → x ≡ room_after x l
quiet_room x e = sym (ap (room_after x) e)

-- a call that ends no wait
abbrev pub Quiet : Outcome → Type 0
Quiet o = ended_by o ≡ []

pub quiet_runner : (t : ℕ) (f : ℕ → Outcome) → ((t : ℕ) → Quiet (f t)) → Quiet (of_running t f)
quiet_runner zero f h = refl
quiet_runner (suc t) f h = h (suc t)
