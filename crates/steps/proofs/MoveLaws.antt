-- The struct of a sound state: a move in it is the rules' move, and its lines read back.
-- Assumes nothing.
use Rattle.std.proofs.Common.{◌≡◌, ℕ, zero, suc, ◌-◌, ◌<◌, ◌≤◌, Bool, true, false, ltb, List, ◌++◌, length, replicate, sym, refl, ap, ◌∙◌, subst, arith}
use lib.Seq.{set-append_left}
use Rattle.lists.proofs.LineLaws.{length_pad, line_picked}
use Rattle.lists.specs.Line.{line, pad}
use Rattle.lists.specs.Lists.{when◌then◌else◌, filter, to_head}
use Rattle.rules.specs.State.{State, blank, set_nth, task_of, place_of, current_of, created, is_ready, kept_of, move, ranked, rank, higher, meeting, meet, part}
use Rattle.rules.specs.Whole.{view_core, pack_core}
use Rattle.rules.specs.declared.Task.{Task}
use Rattle.rules.specs.declared.Core.{Core}
use Rattle.rules.specs.declared.Meeting.{Meeting}
use Rattle.rules.specs.declared.Place.{Place}
use Rattle.rules.specs.declared.Place.TheVariants.{Ready, Held}
use Rattle.rules.specs.declared.Timer.{Timer}
use Rattle.rules.specs.declared.Timer.TheVariants.{Off}
use Rattle.rules.proofs.Invariant.{Sound}
use Rattle.rules.proofs.MoveLaws.{length_set_nth, moved, rank_length, raise_sound, restore_sound}
use Rattle.rules.proofs.WholeLaws.{view_core_lem}
use Rattle.rules.specs.Callers.{with_callers}
use Rattle.table.specs.Moved.{moved_of, ready_ranked, ranked_of, met_of, parted_of, passes_of}
use Rattle.table.specs.declared.queues.Test.{Test}
use Rattle.steps.specs.Taken.{Stands}

stands_pack : (st : State) (l : List ℕ) → Sound (with_callers st l) → Stands (pack_core st)
stands_pack st l h = record {
  packs = ap pack_core (sym (view_core_lem (with_callers st l) h));
  callers = l;
  sound = subst (λ (z : State). Sound (with_callers z l)) (sym (view_core_lem (with_callers st l) h)) h;
}

pub set_first : (xs ys : List Task) (t : ℕ) (x : Task) → t ≤ length xs → set_nth (xs ++ ys) t x ≡ set_nth xs t x ++ ys
set_first xs ys zero x h = refl
set_first xs ys (suc t) x h = set-append_left xs ys t x (omega arith)

-- the table of the struct with task t as x
table_packed : (s : Core) (t : ℕ) (x : Task) → Stands s → t ≤ length (view_core s).tasks → set_nth s.tasks t x ≡ set_nth (view_core s).tasks t x ++ replicate (31 - length (set_nth (view_core s).tasks t x)) blank
table_packed s t x h k =
    let v = (view_core s).tasks in
    let e : s.tasks ≡ v ++ replicate (31 - length v) blank = ap (λ (r : Core). r.tasks) h.packs in
    ap (λ (l : List Task). set_nth l t x) e ∙ set_first v (replicate (31 - length v) blank) t x k ∙ ap (λ (m : ℕ). set_nth v t x ++ replicate (31 - m) blank) (sym (length_set_nth v t x))

created_packed : (s : Core) (t : ℕ) (x : Task) → Stands s → s.created ≡ length (set_nth (view_core s).tasks t x)
created_packed s t x h = ap (λ (r : Core). r.created) h.packs ∙ sym (length_set_nth (view_core s).tasks t x)

pub moved_packed : (s : Core) (t : ℕ) (p : Place) (w : Timer) → Stands s → t ≤ length (view_core s).tasks → moved_of s t p w ≡ pack_core (move (view_core s) t p w)
unfolding moved_of
moved_packed s t p w h k =
    λ i. record {
      clock = s.clock;
      created = created_packed s t (moved (view_core s) t p w) h i;
      tasks = table_packed s t (moved (view_core s) t p w) h k i;
      ready = pad (move (view_core s) t p w).ready;
      held = pad (move (view_core s) t p w).held;
      delays = pad (move (view_core s) t p w).delays;
    }

-- the same where the struct is known to be that of a sound state: the form for the second move and for loops
pub moved_state : (n : Core) (st : State) (l : List ℕ) (t : ℕ) (p : Place) (w : Timer) → n ≡ pack_core st → Sound (with_callers st l) → t ≤ length st.tasks → moved_of n t p w ≡ pack_core (move st t p w)
moved_state n st l t p w e h k =
    let v = view_core_lem (with_callers st l) h in
    ap (λ (z : Core). moved_of z t p w) e
    ∙ moved_packed (pack_core st) t p w (stands_pack st l h) (subst (λ (z : State). t ≤ length z.tasks) (sym v) k)
    ∙ ap (λ (z : State). pack_core (move z t p w)) v

-- ── another current priority, and a rendezvous ──

ranked_packed : (s : Core) (t n : ℕ) → Stands s → t ≤ length (view_core s).tasks → ranked_of s t n ≡ pack_core (rank (view_core s) t n)
unfolding ranked_of
ranked_packed s t n h k =
    λ i. record {
      clock = s.clock;
      created = created_packed s t (ranked (task_of (view_core s) t) n) h i;
      tasks = table_packed s t (ranked (task_of (view_core s) t) n) h k i;
      ready = ready (ltb n (current_of (view_core s) t)) i;
      held = (h.packs i).held;
      delays = (h.packs i).delays;
    }
  where
    ready : (b : Bool) → ready_ranked s.ready t b ≡ pad (when b then to_head t (line s.ready) else line s.ready)
    ready true = refl
    ready false = ap (λ (r : Core). r.ready) h.packs

module _ (s : Core) (g c : ℕ) (h : Stands s) (low : 0 < g) (high : g ≤ length (view_core s).tasks) (pos : 0 < c) (fit : c ≤ length (view_core s).tasks) where
  pub met_packed : (e : ℕ) → met_of s g c e ≡ pack_core (meet (view_core s) g c e)
  met_packed e =
      let v = view_core s in
      let n = higher (current_of v g) (current_of v c) in
      moved_state (ranked_of s g n) (rank v g n) h.callers c (Held (meeting g e (current_of v g))) Off (ranked_packed s g n h high)
      (raise_sound (with_callers v h.callers) g c low high pos fit e h.sound) (omega (arith, fit, rank_length v g n low high))

  pub parted_packed : (m : Meeting) → place_of (view_core s) c ≡ Held m → is_ready (place_of (view_core s) g) ≡ true → parted_of s g c ≡ pack_core (part (view_core s) g c)
  parted_packed m q r =
      let v = view_core s in
      let k = kept_of (place_of v c) in
      moved_state (ranked_of s g k) (rank v g k) h.callers c Ready Off (ranked_packed s g k h high)
      (restore_sound (with_callers v h.callers) g c low high pos fit m q r h.sound) (omega (arith, fit, rank_length v g k low high))

-- the same where the struct is known to be that of a sound state
pub met_state : (n : Core) (st : State) (l : List ℕ) (g c e : ℕ) → n ≡ pack_core st → Sound (with_callers st l) → 0 < g → g ≤ length st.tasks → 0 < c → c ≤ length st.tasks → met_of n g c e ≡ pack_core (meet st g c e)
met_state n st l g c e en h low high pos fit =
    let v = view_core_lem (with_callers st l) h in
    let there : (t : ℕ) → t ≤ length st.tasks → t ≤ length (view_core (pack_core st)).tasks = λ t k. subst (λ (z : State). t ≤ length z.tasks) (sym v) k in
    ap (λ (z : Core). met_of z g c e) en
    ∙ met_packed (pack_core st) g c (stands_pack st l h) low (there g high) pos (there c fit) e
    ∙ ap (λ (z : State). pack_core (meet z g c e)) v

module _ (s : Core) (h : Stands s) where
  pub long_held : length s.held ≡ 31
  long_held = ap (λ (r : Core). length r.held) h.packs ∙ length_pad (line s.held)

  pub long_delays : length s.delays ≡ 31
  long_delays = ap (λ (r : Core). length r.delays) h.packs ∙ length_pad (line s.delays)

  pub created_is : s.created ≡ created (view_core s)
  created_is = ap (λ (r : Core). r.created) h.packs

-- a queue that was picked out of a line, read back
pub picked_line : (s : Core) (a : List ℕ) (q : Test) (l : List ℕ) → length a ≡ 31 → l ≡ pad (filter (passes_of (view_core s) q) (line a)) → line l ≡ filter (passes_of (view_core s) q) (line a)
picked_line s a q l k e = ap line e ∙ line_picked (passes_of (view_core s) q) a k
