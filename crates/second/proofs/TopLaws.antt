-- The step of the second engine, in a sound state: the shared step, with the row of the running task, and the rows afterwards; and the questions.
-- Assumes nothing.
use Prim.Native.Nat.{ℕ, ◌+◌, ◌<◌}
use mathlib.Core.Path.{◌≡◌, sym, ap, subst, ◌∙◌}
use mathlib.Core.Bool.{Bool, true, false, not, ◌&&◌}
use mathlib.Core.List.{List, [], ◌++◌}
use native.Mathlib.Omega.{arith}
use lib.Dec.{ltb}
use lib.ListN.{length, get_or}
use lib.Seq.{length-take-le}
use Rattle.calls.specs.declared.Call as C
use Rattle.lists.specs.Line.{line, pad}
use Rattle.lists.specs.Lists.{filter}
use Rattle.lists.specs.Marks.{no_marks, marked}
use Rattle.lists.proofs.Tests.{and_first, and_second, if-true}
use Rattle.rules.specs.State.{State, created, is_task, place_of, is_completed, queue, waits_on, running}
use Rattle.rules.specs.Sound.{sound}
use Rattle.std.specs.Prelude.{Result}
use Rattle.rules.specs.Step.{took, take_call, room_after}
use Rattle.rules.specs.declared.Item.{Item}
use Rattle.rules.specs.declared.Refusal.{Refusal}
use Rattle.rules.specs.declared.Refusal.TheVariants.{ShortRoom, BadState}
use Rattle.rules.specs.Callers.{asks, calling, callers_of, accepted_in, gone_by, left_by, Told}
use Rattle.rules.specs.Whole.{view_core, pack_core, packed_core, StepOf, decline, done_by, stepped_of}
use Rattle.rules.specs.Second.{gathered, view_second, pack_second, rows_right, sound_second, step_second}
use Rattle.rules.specs.declared.Row.{Row}
use Rattle.rules.specs.declared.Second.{Second}
use Rattle.rules.specs.declared.Stepped.{Stepped}
use Rattle.rules.proofs.Apart.{queue_of, running_core, same_step, tells}
use Rattle.rules.proofs.Fate.{FateOf, fate}
use Rattle.rules.proofs.Invariant.{Sound}
use Rattle.rules.proofs.Leaving.{NamedIn, names}
use Rattle.rules.proofs.SecondLaws.{row_is}
use Rattle.rules.proofs.SoundTest.{sound_props}
use Rattle.rules.proofs.StepSound.{Kept, call_sound}
use Rattle.rules.proofs.WholeLaws.{core_packed, core_parts}
use Rattle.steps.specs.Change.{one, task_at, partner_at, bytes_in, joined_of}
use Rattle.steps.specs.Engine.{callable_in}
use Rattle.steps.specs.Taken.{SeesFor, seen, taken_as, taken_of, ended_by}
use Rattle.steps.specs.declared.answers.Taken.{Taken}
use Rattle.steps.proofs.AnswerLaws.{by_core, by_core_ended}
use Rattle.steps.proofs.ChangeLaws.{tasks_written, partners_written}
use Rattle.second.specs.Rows.{no_row, row_of, row_looked, next_rows, TypedSecond}
use Rattle.second.proofs.RowLaws.{sees_row, row_get, row_tidy}
use Rattle.second.proofs.NextLaws.{RowOf, rows_next}

module _ (x : Second) (h : TypedSecond x) (ok : sound_second x ≡ true) where
  abbrev pub v : State
  v = view_second x

  abbrev right : Bool
  right = rows_right (view_core x.core) 1 x.rows

  packed_here : packed_core x.core ≡ true
  packed_here = and_first (packed_core x.core) right (and_first (packed_core x.core && right) (sound v) ok)

  right_here : right ≡ true
  right_here = and_second (packed_core x.core) right (and_first (packed_core x.core && right) (sound v) ok)

  pub sound_here : Sound v
  sound_here = sound_props v h.core.clock (and_second (packed_core x.core && right) (sound v) ok)

  -- ── LOOK: the row of the running task has its callers ──

  row_seen : (c : C.Call) (mine : List ℕ) → mine ≡ row_looked x.core x.rows c → asks c ≡ true → callers_of v (running (view_core x.core)) ≡ callers_of (seen x.core mine) (running (view_core x.core))
  row_seen c mine em y =
      let t = running (view_core x.core) in
      let q : mine ≡ row_of x.rows t = em ∙ if-true (asks c) (row_of x.rows t) (pad []) y in
      sees_row (view_core x.core) x.rows t right_here h.rows
      ∙ ap (λ (l : List ℕ). filter (calling (view_core x.core) t) (line l)) (sym q)

  pub sees_second : (c : C.Call) (mine : List ℕ) → mine ≡ row_looked x.core x.rows c → SeesFor x.core mine c
  sees_second c mine em = record {
    stands = record { packs = core_packed x.core h.core packed_here; callers = gathered x.rows; sound = sound_here };
    calls = row_seen c mine em;
  }

  -- what the shared step gives is what the rules give on the state of the struct
  pub taken_here : (c : C.Call) (mine : List ℕ) (k : Result Taken Refusal) (a b : List ℕ) → mine ≡ row_looked x.core x.rows c
      → k ≡ taken_of (take_call (seen x.core mine) c) → a ≡ room_after b (ended_by (take_call (seen x.core mine) c))
      → (k ≡ taken_of (take_call v c)) × (a ≡ room_after b (ended_by (take_call v c)))
  taken_here c mine k a b em ek ea =
      let o = take_call v c in
      let q = take_call (seen x.core mine) c in
      let same = same_step v (line mine) c (λ y. subst (λ (u : ℕ). callers_of v u ≡ callers_of (seen x.core mine) u) (sym (running_core (view_core x.core) (gathered x.rows))) (row_seen c mine em y)) in
      (by_core o q same ek, by_core_ended o q a b same ea)

  -- ── CHANGE: the core and the rows afterwards are those of the next state ──

  row_here : (j : ℕ) → j < 31 → RowOf (callers_of v (1 + j)) (get_or x.rows j no_row).line
  row_here j l = record {
    long = h.lines j l;
    blank = row_tidy (view_core x.core) x.rows 1 j right_here (omega (arith, h.rows));
    holds = row_get x.rows j ∙ sym (row_is (view_core x.core) x.rows 1 j right_here);
  }

  pub second_state : (c : C.Call) (st : State) (b : Item) (y : List Item) (k : Taken) (room after left gone : List ℕ) (g : ℕ) (rs : List Row) → take_call v c ≡ took st b y → k ≡ taken_as (pack_core st) b (length y)
      → after ≡ room_after room y → gone ≡ marked one (accepted_in k.result k.partner ++ bytes_in task_at k.ended after) no_marks → left ≡ marked one (accepted_in k.result k.task ++ bytes_in partner_at k.ended after) no_marks
      → g ≡ joined_of c k.refusal k.result k.ended → rs ≡ next_rows left gone g k.task 1 x.rows → ◌≡◌ {A = Second} (record { core = k.state; rows = rs }) (pack_second st)
  second_state c st b y k room after left gone g rs o e ae eo el eg er =
      let p = subst (Told c v.callers) o (tells v c sound_here) in
      let q = subst Kept o (call_sound v c sound_here) in
      let f : (u : ℕ) → FateOf v c u (took st b y) = λ u. subst (FateOf v c u) o (fate v c u sound_here) in
      let n = subst (NamedIn v) o (names v c) in
      let G : gone ≡ marked one (gone_by b y) no_marks =
      eo ∙ (λ i. marked one (accepted_in (e i).result (e i).partner ++ bytes_in task_at (e i).ended (ae i)) no_marks) ∙ ap (λ (m : List ℕ). marked one (accepted_in b.result b.partner ++ m) no_marks) (tasks_written room y) in
      let L : left ≡ marked one (left_by b y) no_marks =
      el ∙ (λ i. marked one (accepted_in (e i).result (e i).task ++ bytes_in partner_at (e i).ended (ae i)) no_marks) ∙ ap (λ (m : List ℕ). marked one (accepted_in b.result b.task ++ m) no_marks) (partners_written room y) in
      let J : g ≡ joined_of c 0 b.result (length y) = eg ∙ ap (λ (z : Taken). joined_of c z.refusal z.result z.ended) e in
      λ i. record {
        core = (e i).state;
        rows = (er ∙ (λ j. next_rows (L j) (G j) (J j) (e j).task 1 x.rows) ∙ rows_next v st c b y sound_here q p f n x.rows 31 1 (omega arith) (omega arith) h.rows row_here) i;
      }

  -- ── the questions ──

  pub created_here : created v ≡ x.core.created
  created_here = length-take-le x.core.created x.core.tasks (omega (arith, (core_parts x.core packed_here).few, h.core.tasks))

  -- the queue of an entry, picked out of the row of its task
  pub queue_here : (t e : ℕ) → queue v t e ≡ filter (waits_on (view_core x.core) t e) (line (row_of x.rows t))
  queue_here t e =
      queue_of v t e ∙ ap (filter (waits_on v t e)) (sees_row (view_core x.core) x.rows t right_here h.rows)
      ∙ sym (queue_of (seen x.core (row_of x.rows t)) t e)

pub callable_is : (x : Second) (t : ℕ) → TypedSecond x → sound_second x ≡ true → callable_in x.core t ≡ (is_task (view_second x) t && not (is_completed (place_of (view_second x) t)))
callable_is x t h ok = rw (created_here x h ok)

-- ── the whole step ──

module _ (x : Second) (c : C.Call) (n : ℕ) where
  pub step_short : ltb n 124 ≡ true → step_second x c n ≡ decline x ShortRoom 0
  unfolding step_second
  step_short e = rw e

  pub step_unsound : ltb n 124 ≡ false → sound_second x ≡ false → step_second x c n ≡ decline x BadState 0
  unfolding step_second
  step_unsound e q = rw (e, q)

  pub step_sound : ltb n 124 ≡ false → sound_second x ≡ true → step_second x c n ≡ done_by pack_second x (view_second x) (take_call (view_second x) c)
  unfolding step_second
  step_sound e q = rw (e, q)

pub by_state : {w q : StepOf Second} {r : Stepped Second} → w ≡ q → r ≡ stepped_of q → r ≡ stepped_of w
by_state e h = h ∙ sym (ap stepped_of e)

pub by_room : {w q : StepOf Second} (x y : List ℕ) → w ≡ q → x ≡ room_after y q.ended → x ≡ room_after y w.ended
by_room x y e k = k ∙ sym (ap (λ (w : StepOf Second). room_after y w.ended) e)
