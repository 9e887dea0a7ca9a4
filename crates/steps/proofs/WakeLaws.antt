-- All of a list become ready: one after the other as the rules say it, at once as the code does it.
-- Assumes nothing.
use Rattle.std.proofs.Common.{◌≡◌, ℕ, ◌-◌, ◌<◌, ◌≤◌, Bool, List, [], ◌∷◌, ◌++◌, map, length, take, replicate, sym, refl, ap, ◌∙◌, append-nil, arith, take_at, eq-eqb}
use Rattle.lists.specs.Line.{pad}
use Rattle.lists.specs.Lists.{filter, count}
use Rattle.lists.specs.Marks.{no_marks, marked, with_mark}
use Rattle.lists.proofs.MarkLaws.{filter_same, filter_all, out, unmarked, out_cons, out_rejoin}
use Rattle.rules.specs.State.{State, blank, nth, set_nth, task_of, placed, wake, wake_all}
use Rattle.rules.specs.Step.{room_after}
use Rattle.rules.specs.Whole.{view_core, pack_core}
use Rattle.rules.specs.declared.Task.{Task}
use Rattle.rules.specs.declared.Core.{Core}
use Rattle.rules.specs.declared.Place.TheVariants.{Ready}
use Rattle.rules.specs.declared.Timer.TheVariants.{Off}
use Rattle.rules.proofs.MoveLaws.{length_set_nth}
use Rattle.table.specs.Moved.{with_task, readied_of, woken_of}
use Rattle.steps.specs.Taken.{Stands, EachOnce, item_of, WokenAs}
use Rattle.steps.proofs.MoveLaws.{set_first}

-- ── in the rules ──

-- those of the list are ready in the table
ready_tasks : List Task → List ℕ → List Task
ready_tasks ts [] = ts
ready_tasks ts (t ∷ l) = ready_tasks (set_nth ts t (placed (nth ts t) Ready Off)) l

-- all of the list at once
awake : State → List ℕ → State
awake v l = record {
  clock = v.clock;
  tasks = ready_tasks v.tasks l;
  ready = filter (out l) v.ready ++ l;
  callers = filter (out l) v.callers;
  held = filter (out l) v.held;
  delays = filter (out l) v.delays;
}

-- nobody is in the empty list
all_out : (r : List ℕ) → r ≡ filter (out []) r
all_out r = sym (filter_all (out []) r (λ x. refl))

wakes : (l : List ℕ) (v : State) → ((u : ℕ) → count u l ≤ 1) → wake_all v l ≡ awake v l
unfolding ready_tasks awake
wakes [] v h = λ i. record {
  clock = v.clock;
  tasks = v.tasks;
  ready = (all_out v.ready ∙ sym (append-nil (filter (out []) v.ready))) i;
  callers = all_out v.callers i;
  held = all_out v.held i;
  delays = all_out v.delays i;
}
wakes (t ∷ ts) v h =
    wakes ts (wake v t) (λ u. omega (arith, h u))
    ∙ λ i. record {
      clock = v.clock;
      tasks = ready_tasks (set_nth v.tasks t (placed (nth v.tasks t) Ready Off)) ts;
      ready = out_rejoin t ts v.ready (omega (arith, rw (eq-eqb t t refl) at (h t))) i;
      callers = out_cons t ts v.callers i;
      held = out_cons t ts v.held i;
      delays = out_cons t ts v.delays i;
    }

-- ── in the struct ──

ready_length : (l : List ℕ) (ts : List Task) → length (ready_tasks ts l) ≡ length ts
unfolding ready_tasks
ready_length [] ts = refl
ready_length (t ∷ l) ts = ready_length l (set_nth ts t (placed (nth ts t) Ready Off)) ∙ length_set_nth ts t (placed (nth ts t) Ready Off)

-- clock and number of tasks stay
readied_clock : (l : List ℕ) (s : Core) → (readied_of s l).clock ≡ s.clock
readied_clock [] s = refl
readied_clock (t ∷ l) s = readied_clock l (with_task s t (placed (task_of (view_core s) t) Ready Off))

readied_created : (l : List ℕ) (s : Core) → (readied_of s l).created ≡ s.created
readied_created [] s = refl
readied_created (t ∷ l) s = readied_created l (with_task s t (placed (task_of (view_core s) t) Ready Off))

-- the table, blank behind the created tasks
readied_tasks : (l : List ℕ) (s : Core) (ts rest : List Task) → s.created ≡ length ts → s.tasks ≡ ts ++ rest → ((u : ℕ) → 0 < count u l → u ≤ length ts)
    → (readied_of s l).tasks ≡ ready_tasks ts l ++ rest
unfolding ready_tasks
readied_tasks [] s ts rest n e k = e
readied_tasks (t ∷ l) s ts rest n e k =
    let here : take s.created s.tasks ≡ ts = ap (take s.created) e ∙ take_at ts rest s.created (sym n) in
    let x : Task = placed (nth ts t) Ready Off in
    let y : Task = placed (task_of (view_core s) t) Ready Off in
    let q : y ≡ x = ap (λ (z : List Task). placed (nth z t) Ready Off) here in
    let fit : t ≤ length ts = k t (rw (eq-eqb t t refl) (omega arith)) in
    readied_tasks l (with_task s t y) (set_nth ts t x) rest (n ∙ sym (length_set_nth ts t x))
    ((λ i. set_nth (e i) t (q i)) ∙ set_first ts rest t x fit)
    (λ u j. omega (arith, k u (omega arith), length_set_nth ts t x))

-- the code's way is the rules' way
pub woken_packed : (s : Core) (l : List ℕ) → Stands s → EachOnce (view_core s) l → woken_of s l ≡ pack_core (wake_all (view_core s) l)
unfolding woken_of awake
woken_packed s l h k = path ∙ ap pack_core (sym (wakes l v k.1))
  where
    v : State
    v = view_core s

    created : s.created ≡ length v.tasks
    created = ap (λ (r : Core). r.created) h.packs

    long : length (ready_tasks v.tasks l) ≡ length v.tasks
    long = ready_length l v.tasks

    tasks : (readied_of s l).tasks ≡ ready_tasks v.tasks l ++ replicate (31 - length v.tasks) blank
    tasks = readied_tasks l s v.tasks (replicate (31 - length v.tasks) blank) created (ap (λ (r : Core). r.tasks) h.packs) (λ u j. (k.0 u j).1)

    line_out : (r : List ℕ) → with_mark (marked (λ _. 1) l no_marks) 0 r ≡ filter (out l) r
    line_out r = filter_same _ _ r (λ x j. unmarked l x (λ c. omega (arith, (k.0 x c).1, h.sound.few)))

    path : woken_of s l ≡ pack_core (awake v l)
    path = λ i. record {
      clock = readied_clock l s i;
      created = (readied_created l s ∙ created ∙ sym long) i;
      tasks = (tasks ∙ ap (λ (n : ℕ). ready_tasks v.tasks l ++ replicate (31 - n) blank) (sym long)) i;
      ready = pad (line_out v.ready i ++ l);
      held = pad (line_out v.held i);
      delays = pad (line_out v.delays i);
    }

-- where the list is empty
pub woken_none : (v : State) (s : Core) (failed : Bool) (l room : List ℕ) → s ≡ pack_core v → l ≡ [] → WokenAs v failed l s 0 room room
woken_none v s failed l room e z = record {
  state = e ∙ ap (λ (x : List ℕ). pack_core (wake_all v x)) (sym z);
  number = ap length (sym z);
  written = ap (λ (x : List ℕ). room_after room (map (item_of v failed) x)) (sym z);
}
