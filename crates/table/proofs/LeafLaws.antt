-- Laws for the leaf functions: the table of tasks, and lines.
-- Assumes nothing.
use Rattle.std.proofs.Common.{◌≡◌, ℕ, zero, suc, ◌+◌, ◌-◌, ◌<◌, ◌≤◌, Bool, eqb, ltb, leb, List, ◌∷◌, ◌++◌, length, get_or, take, set, sym, refl, ap, ◌∙◌, arith, length-set, length-take, get_or-take, ltb-false, ltb-true, lt-ltb, le-leb, leb-false, leb-true}
use native.Mathlib.Numerals.{unary_clauses}
use lib.Seq.{set_out, set-get_or}
use Rattle.lists.specs.Line.{line, pad}
use Rattle.lists.proofs.ListLaws.{by_bool}
use Rattle.lists.proofs.LineLaws.{left_over, line_picked}
use Rattle.lists.proofs.MarkLaws.{insert_by_lem}
use Rattle.lists.specs.Lists.{when◌then◌else◌, remove, rejoin}
use Rattle.lists.specs.Marks.{no_marks, mark_of, marked, with_mark, insert_by}
use Rattle.rules.specs.State.{blank, nth, set_nth, task_of, is_ready, is_held, kept_of, retime, ticks_left, placed, ranked, higher, meeting}
use Rattle.rules.specs.Whole.{view_core}
use Rattle.rules.specs.declared.Core.{Core}
use Rattle.rules.specs.declared.Place.{Place}
use Rattle.rules.specs.declared.Timer.{Timer}
use Rattle.rules.specs.declared.Timer.TheVariants.{Off, Due}
use Rattle.rules.specs.declared.Place.TheVariants.{Ready, Held}
use Rattle.rules.specs.declared.Task.{Task}
use Rattle.rules.proofs.Members.{nth_beyond}
use Rattle.table.specs.Moved.{with_tasks, moved_of, changed_task, readied_of, woken_of, ready_ranked, ranked_of, met_of, parted_of, left_of}
use Rattle.table.specs.Numbers.{is_number, index_of, shown_of}

-- ---- the table

module _ (ts : List Task) (n t : ℕ) where
  pub task_in : (t ≡ 0 → ⊥) → t ≤ n → get_or ts (t - 1) blank ≡ nth (take n ts) t
  task_in z h = go t z h
    where
      go : (t : ℕ) → (t ≡ 0 → ⊥) → t ≤ n → get_or ts (t - 1) blank ≡ nth (take n ts) t
      go zero z h = absurd (z refl)
      go (suc k) z h = simp unary_clauses (sym (get_or-take n ts k blank (omega arith)))

  pub task_past : n < t → blank ≡ nth (take n ts) t
  task_past h = sym (nth_beyond (take n ts) t (omega (arith, length-take n ts)))

  pub task_out : length ts < t → blank ≡ nth (take n ts) t
  task_out h = sym (nth_beyond (take n ts) t (omega (arith, length-take n ts)))

module _ (ts : List Task) (x : Task) where
  pub set_in : (t : ℕ) → (t ≡ 0 → ⊥) → set ts (t - 1) x ≡ set_nth ts t x
  set_in zero z = absurd (z refl)
  set_in (suc k) z = simp unary_clauses

  pub set_beyond : (t : ℕ) → length ts < t → ts ≡ set_nth ts t x
  set_beyond zero h = refl
  set_beyond (suc k) h = sym (set_out ts k x (omega arith))

-- what stands at the place of t is task t, where t is the number of one
pub shown_is : (ts : List Task) (n t : ℕ) → length ts ≡ 31 → shown_of n t (get_or ts (index_of t) blank) ≡ nth (take n ts) t
shown_is ts n t l =
    by_bool (ltb 0 t)
    (λ p. by_bool (leb t 31)
    (λ r. by_bool (leb t n)
    (λ q. rw (p, q, r) (task_in ts n t (λ z. omega (arith, ltb-true 0 t p)) (leb-true t n q)))
    (λ q. rw (p, q, r) (task_past ts n t (leb-false t n q))))
    (λ r. rw (p, r) (task_out ts n t (omega (arith, leb-false t 31 r, l)))))
    (λ p. let z : t ≡ 0 = omega (arith, ltb-false 0 t p) in rw (p, z))

pub shown_at : (s : Core) (t at : ℕ) (x : Task) → length s.tasks ≡ 31 → at ≡ index_of t → x ≡ shown_of s.created t (get_or s.tasks at blank) → x ≡ task_of (view_core s) t
shown_at s t at x l e q = q ∙ ap (λ (i : ℕ). shown_of s.created t (get_or s.tasks i blank)) e ∙ shown_is s.tasks s.created t l

pub left_at : (s : Core) (t at d : ℕ) → length s.tasks ≡ 31 → at ≡ index_of t → d ≡ ticks_left s.clock (shown_of s.created t (get_or s.tasks at blank)).timer → d ≡ left_of s t
left_at s t at d l e q = q ∙ ap (λ (x : Task). ticks_left s.clock x.timer) (shown_at s t at (shown_of s.created t (get_or s.tasks at blank)) l e refl)

-- where t is no task's number, what stood at the place is put back
pub put_back : (ts : List Task) (t : ℕ) (x : Task) → length ts ≡ 31 → set ts (index_of t) (when is_number t then x else get_or ts (index_of t) blank) ≡ set_nth ts t x
put_back ts t x l =
    by_bool (ltb 0 t)
    (λ p. by_bool (leb t 31)
    (λ r. rw (p, r) (set_in ts x t (λ z. omega (arith, ltb-true 0 t p))))
    (λ r. rw (p, r) (set-get_or ts 0 blank ∙ set_beyond ts x t (omega (arith, leb-false t 31 r, l)))))
    (λ p. let z : t ≡ 0 = omega (arith, ltb-false 0 t p) in rw (p, z) (set-get_or ts 0 blank))

-- task t, put back into the table as f changes it
pub changed_put : (f : Task → Task) (s : Core) (t at : ℕ) (z : Task) → length s.tasks ≡ 31 → at ≡ index_of t → z ≡ changed_task f s.created t (get_or s.tasks at blank)
    → set s.tasks at z ≡ set_nth s.tasks t (f (task_of (view_core s) t))
changed_put f s t at z l ea ez =
    let back : ℕ → Task = λ i. when is_number t then f (task_of (view_core s) t) else get_or s.tasks i blank in
    let e : z ≡ back at =
    ez ∙ ap (λ (k : Task). when is_number t then f k else get_or s.tasks at blank) (shown_at s t at (shown_of s.created t (get_or s.tasks at blank)) l ea refl) in
    ap (set s.tasks at) e ∙ ap (λ (i : ℕ). set s.tasks i (back i)) ea ∙ put_back s.tasks t (f (task_of (view_core s) t)) l

-- ---- the move, from what its parts answer

-- the delay queue with t in its place: ordered insertion by the ticks left
pub retime_due : (s : Core) (t d n : ℕ) (l keys : List ℕ) → length s.tasks ≡ 31 → length s.delays ≡ 31 → l ≡ pad (remove t (line s.delays)) → keys ≡ marked (left_of s) (line l) no_marks → n ≡ ticks_left s.clock (Due d)
    → pad (insert_by keys n t (line l)) ≡ pad (retime s.clock (view_core s).tasks (Due d) t (line s.delays))
retime_due s t d n l keys long k e em q =
    rw (em, q, insert_by_lem (left_of s) (ticks_left s.clock (Due d)) t (line l) none, left_over s.delays t l k e)
  where
    -- a number above 31 is nobody's, and has no ticks left
    none : (x : ℕ) → 32 ≤ x → left_of s x ≡ 0
    none x h = ap (λ (y : Task). ticks_left s.clock y.timer) (sym (task_out s.tasks s.created x (omega arith)))

pub moved_law :
    (s : Core) (t : ℕ) (p : Place) (w : Timer) (at : ℕ) (y : Task) (b1 b3 : Bool) (r h d : List ℕ) → length s.tasks ≡ 31
    → at ≡ index_of t → y ≡ changed_task (λ x. placed x p w) s.created t (get_or s.tasks at blank) → b1 ≡ is_ready p → b3 ≡ is_held p
    → r ≡ pad (rejoin b1 t (line s.ready)) → h ≡ pad (rejoin b3 t (line s.held)) → d ≡ pad (retime s.clock (view_core s).tasks w t (line s.delays))
    → record { clock = s.clock; created = s.created; tasks = set s.tasks at y; ready = r; held = h; delays = d }
    ≡ moved_of s t p w
unfolding moved_of
moved_law s t p w at y b1 b3 r h d l ea ey e1 e3 er eh ed = λ i. record {
  clock = s.clock;
  created = s.created;
  tasks = changed_put (λ x. placed x p w) s t at y l ea ey i;
  ready = (er ∙ ap (λ (a : Bool). pad (rejoin a t (line s.ready))) e1) i;
  held = (eh ∙ ap (λ (a : Bool). pad (rejoin a t (line s.held))) e3) i;
  delays = ed i;
}

-- ---- another current priority, and a rendezvous, from what their parts answer

-- the table, the ready line and the others of `movedOf (rankedOf s g n) c p Off`
pub ranked_moved_law :
    (s : Core) (g n c : ℕ) (p : Place) (at to : ℕ) (x y z : Task) (b1 b3 : Bool) (k r h d : List ℕ) → length s.tasks ≡ 31
    → at ≡ index_of g → x ≡ shown_of s.created g (get_or s.tasks at blank) → k ≡ ready_ranked s.ready g (ltb n x.current)
    → y ≡ changed_task (λ v. ranked v n) s.created g (get_or s.tasks at blank)
    → to ≡ index_of c → z ≡ changed_task (λ v. placed v p Off) s.created c (get_or (set s.tasks at y) to blank) → b1 ≡ is_ready p → b3 ≡ is_held p
    → r ≡ pad (rejoin b1 c (line k)) → h ≡ pad (rejoin b3 c (line s.held)) → d ≡ pad (remove c (line s.delays))
    → record { clock = s.clock; created = s.created; tasks = set (set s.tasks at y) to z; ready = r; held = h; delays = d }
    ≡ moved_of (ranked_of s g n) c p Off
unfolding moved_of ranked_of
ranked_moved_law s g n c p at to x y z b1 b3 k r h d l ea ex ek ey eo ez e1 e3 er eh ed = λ i. record {
  clock = s.clock;
  created = s.created;
  tasks = (changed_put (λ v. placed v p Off) (with_tasks s (set s.tasks at y)) c to z (length-set {A = Task} s.tasks at y ∙ l) eo ez
      ∙ ap (λ (ts : List Task). set_nth ts c (placed (nth (take s.created ts) c) p Off)) (changed_put (λ v. ranked v n) s g at y l ea ey)) i;
  ready = (er ∙ λ j. pad (rejoin (e1 j) c (line ((ek ∙ ap (λ (v : Task). ready_ranked s.ready g (ltb n v.current)) (shown_at s g at x l ea ex)) j)))) i;
  held = (eh ∙ ap (λ (a : Bool). pad (rejoin a c (line s.held))) e3) i;
  delays = ed i;
}

-- the place of the caller, as the function that changes both was given it
abbrev pub place_given : {r : Core} (s : Core) (g n c : ℕ) (p : Place) → r ≡ moved_of (ranked_of s g n) c p Off → Place
place_given s g n c p e = p

pub met_law : (s : Core) (g c e : ℕ) (r : Core) (x y : Task) (n : ℕ) (p : Place) → x ≡ task_of (view_core s) g → y ≡ task_of (view_core s) c → n ≡ higher x.current y.current
    → p ≡ Held (meeting g e x.current) → r ≡ moved_of (ranked_of s g n) c p Off → r ≡ met_of s g c e
met_law s g c e r x y n p ex ey en ep er =
    er ∙ λ i. moved_of (ranked_of s g ((en ∙ λ j. higher (ex j).current (ey j).current) i)) c ((ep ∙ ap (λ (z : Task). Held (meeting g e z.current)) ex) i) Off

pub parted_law : (s : Core) (g c : ℕ) (r : Core) (y : Task) (n : ℕ) (p : Place) → y ≡ task_of (view_core s) c → n ≡ kept_of y.place → p ≡ Ready
    → r ≡ moved_of (ranked_of s g n) c p Off → r ≡ parted_of s g c
parted_law s g c r y n p ey en ep er = er ∙ λ i. moved_of (ranked_of s g ((en ∙ ap (λ (z : Task). kept_of z.place) ey) i)) c (ep i) Off

-- ---- all of a line ready

-- one turn: the next of the list is ready in the table
pub readied_on : (n : Core) (t : ℕ) (xs ys : List ℕ) (ts : List Task) → xs ≡ t ∷ ys → ts ≡ set_nth n.tasks t (placed (task_of (view_core n) t) Ready Off)
    → readied_of n xs ≡ readied_of (with_tasks n ts) ys
readied_on n t xs ys ts q e =
    ap (readied_of n) q ∙ ap (λ (k : List Task). readied_of (with_tasks n k) ys) (sym e)

-- the lines, from what their parts answer
pub woken_law : (s n : Core) (l m still r h d : List ℕ) → length s.ready ≡ 31 → n ≡ readied_of s l → m ≡ marked (λ _. 1) l no_marks
    → still ≡ pad (with_mark m 0 (line s.ready)) → r ≡ pad (line still ++ l)
    → h ≡ pad (with_mark m 0 (line s.held)) → d ≡ pad (with_mark m 0 (line s.delays))
    → record { clock = n.clock; created = n.created; tasks = n.tasks; ready = r; held = h; delays = d }
    ≡ woken_of s l
unfolding woken_of
woken_law s n l m still r h d k en em es er eh ed = λ i. record {
  clock = (en i).clock;
  created = (en i).created;
  tasks = (en i).tasks;
  ready = (er ∙ ap (λ (x : List ℕ). pad (x ++ l)) (ap line es ∙ line_picked (λ t. eqb (mark_of m t) 0) s.ready k) ∙ ap (λ (x : List ℕ). pad (with_mark x 0 (line s.ready) ++ l)) em) i;
  held = (eh ∙ ap (λ (x : List ℕ). pad (with_mark x 0 (line s.held))) em) i;
  delays = (ed ∙ ap (λ (x : List ℕ). pad (with_mark x 0 (line s.delays))) em) i;
}

-- ---- an index

pub index_next : (i : ℕ) → i < 31 → i ≡ index_of (i + 1)
index_next i h = rw (lt-ltb 0 (i + 1) (omega arith), le-leb (i + 1) 31 (omega arith)) (omega arith)
