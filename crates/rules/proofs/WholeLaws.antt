-- The struct of the code and the state of the rules: a step of the one is a step of the other.
-- Assumes nothing.
use Prim.Native.Nat.{ℕ, zero, suc, ◌-◌, ◌≤◌, ◌<◌}
use mathlib.Core.Path.{◌≡◌, refl, sym, ◌∙◌, ap}
use mathlib.Core.Bool.{Bool, true, false, not, ◌&&◌}
use mathlib.Core.List.{List, [], ◌∷◌, ◌++◌}
use native.Mathlib.Omega.{arith}
use lib.ListN.{length, take, drop, replicate, length-drop, take-append-drop}
use Rattle.lists.specs.Line.{line, pad, tidy}
use Rattle.lists.proofs.LineLaws.{line_pad, tidy_pad, pad_tidy}
use lib.Seq.{take-append_seam, drop-append_seam, length-take-le}
use lib.Dec.{eqb, ltb, leb}
use borrow.Author.Tests.{eqb-true, leb-true, leb-false, le-leb}
use Rattle.lists.specs.Lists.{bit, count, every}
use Rattle.rules.specs.State.{State, blank, nth, created, is_ready, is_queued, is_held, has_time}
use Rattle.rules.specs.Sound.{sound}
use Rattle.rules.specs.Step.{Outcome, refused, took, take_call}
use Rattle.rules.specs.Whole.{TypedCore, Typed, view_core, view, pack_core, pack, is_blank, unused, packed_core, sound_whole, Whole, done_by, step_whole}
use Rattle.rules.specs.Callers.{with_callers, core}
use Rattle.rules.specs.declared.Core.{Core}
use Rattle.rules.specs.declared.Supervisor.{Supervisor}
use Rattle.calls.specs.declared.Call as C
use Rattle.rules.specs.declared.Task.{Task}
use Rattle.lists.proofs.Tests.{each, and_first, and_second, bit_le}
use Rattle.lists.proofs.ListLaws.{by_bool, every_alike, at_most}
use Rattle.rules.proofs.Invariant.{Sound}
use Rattle.rules.proofs.Members.{nth_beyond}
use Rattle.rules.specs.declared.Place.{Place}
use Rattle.rules.specs.declared.Place.TheVariants.{Blank, Ready, Delayed, Queued, Held, Accepting, Completed}
use Rattle.rules.specs.declared.Timer.{Timer}
use Rattle.rules.specs.declared.Timer.TheVariants.{Off, Due}
use Rattle.rules.proofs.SoundTest.{sound_test, sound_props, tree_props}
use Rattle.rules.proofs.TreeLaws.{Tree}
use Rattle.rules.specs.Runs.{Ask, Given, Entry, viewed, entry_whole, log_whole, reach_whole}
use Rattle.rules.proofs.StateRuns.{stepped, step, entry, log_of, reach}
use Rattle.rules.proofs.OverRuns.{step_sound}

-- ── a line has no more places than there are tasks ──

-- a line of the tasks that pass a test, each once, is no longer than there are tasks, and has no 0
pub lined_short : (ts : List Task) (q : Task → Bool) (l : List ℕ) → q blank ≡ false → ((u : ℕ) → count u l ≡ bit (q (nth ts u))) → length l ≤ length ts
lined_short ts q l b h = at_most (length ts) l (λ u. omega (arith, h u, bit_le (q (nth ts u)))) inside
  where
    out : (u : ℕ) → nth ts u ≡ blank → count u l ≡ 0
    out u e = h u ∙ rw (e, b)

    inside : (u : ℕ) → 0 < count u l → (0 < u) × (u ≤ length ts)
    inside zero k = absurd (omega (arith, out 0 refl, k))
    inside (suc u) k = by_bool (leb (suc u) (length ts)) (λ e. (omega arith, leb-true (suc u) (length ts) e))
        (λ e. absurd (omega (arith, out (suc u) (nth_beyond ts (suc u) (leb-false (suc u) (length ts) e)), k)))

pub no_zero : (l : List ℕ) → count 0 l ≡ 0 → line l ≡ l
no_zero [] h = refl
no_zero (zero ∷ xs) h = absurd (omega arith)
no_zero (suc x ∷ xs) h = ap (◌∷◌ (suc x)) (no_zero xs (omega arith))

-- the four lines of a sound state can be laid out and read back
module _ (s : State) (h : Sound s) where
  pub ready_fits : length s.ready ≤ 31
  ready_fits = omega (arith, h.few, lined_short s.tasks (λ x. is_ready x.place) s.ready refl h.ready)

  pub callers_fit : length s.callers ≤ 31
  callers_fit = omega (arith, h.few, lined_short s.tasks (λ x. is_queued x.place) s.callers refl h.callers)

  pub held_fit : length s.held ≤ 31
  held_fit = omega (arith, h.few, lined_short s.tasks (λ x. is_held x.place) s.held refl h.held)

  pub delays_fit : length s.delays ≤ 31
  delays_fit = omega (arith, h.few, lined_short s.tasks (λ x. has_time x.timer) s.delays refl h.delays)

pub view_core_lem : (s : State) → Sound s → view_core (pack_core s) ≡ core s
view_core_lem s h = λ i. record {
  clock = s.clock;
  tasks = take-append_seam s.tasks (replicate (31 - created s) blank) i;
  ready = line_pad s.ready (no_zero s.ready (h.ready 0)) (ready_fits s h) i;
  callers = [];
  held = line_pad s.held (no_zero s.held (h.held 0)) (held_fit s h) i;
  delays = line_pad s.delays (no_zero s.delays (h.delays 0)) (delays_fit s h) i;
}

pub view_pack : (s : State) → Sound s → view (pack s) ≡ s
view_pack s h = λ i. with_callers (view_core_lem s h i) (line_pad s.callers (no_zero s.callers (h.callers 0)) (callers_fit s h) i)

every_unused : (n : ℕ) → every unused (replicate n blank) ≡ true
every_unused zero = refl
every_unused (suc n) = every_unused n

pub behind : (l : List ℕ) → count 0 l ≡ 0 → tidy (pad l) ≡ true
behind l z = pad_tidy l (no_zero l z)

pub packed_core_lem : (s : State) → Sound s → packed_core (pack_core s) ≡ true
packed_core_lem s h =
    rw (le-leb (created s) 31 h.few, drop-append_seam s.tasks (replicate (31 - created s) blank), every_unused (31 - created s), behind s.ready (h.ready 0), behind s.held (h.held 0), behind s.delays (h.delays 0))

-- ── a sound struct is the pack of what it stands for, and that is sound ──

pub blank_is : (x : Task) → unused x ≡ true → x ≡ blank
blank_is x e =
    let p = each (eqb x.priority 0) (eqb x.entries 0 ∷ is_blank x.place ∷ not (has_time x.timer) ∷ eqb x.current 0 ∷ []) e in
    λ i. record {
      priority = eqb-true x.priority 0 (p 0) i;
      current = eqb-true x.current 0 (p 4) i;
      entries = eqb-true x.entries 0 (p 1) i;
      place = place x.place (p 2) i;
      timer = timer x.timer (p 3) i;
    }
  where
    place : (p : Place) → is_blank p ≡ true → p ≡ Blank
    place Blank h = refl
    place Ready h = cc
    place Delayed h = cc
    place (Queued q) h = cc
    place (Held m) h = cc
    place (Accepting o) h = cc
    place Completed h = cc

    timer : (w : Timer) → not (has_time w) ≡ true → w ≡ Off
    timer Off h = refl
    timer (Due d) h = cc

pub tasks_packed : (n : ℕ) (ts : List Task) → n ≤ 31 → length ts ≡ 31 → every unused (drop n ts) ≡ true → ts ≡ take n ts ++ replicate (31 - length (take n ts)) blank
tasks_packed n ts a l h =
    let k : length (take n ts) ≡ n = length-take-le n ts (omega arith) in
    let m : length (drop n ts) ≡ 31 - n = length-drop n ts ∙ ap (λ (x : ℕ). x - n) l in
    sym (take-append-drop n ts) ∙ ap (λ (r : List Task). take n ts ++ r) (every_alike unused blank blank_is (drop n ts) h ∙ ap (λ (x : ℕ). replicate x blank) (m ∙ ap (λ (x : ℕ). 31 - x) (sym k)))

-- the parts of the test of a core
pub record CoreParts (k : Core) : Type 0 where
  pub few : k.created ≤ 31
  pub blank_behind : every unused (drop k.created k.tasks) ≡ true
  pub ready : tidy k.ready ≡ true
  pub held : tidy k.held ≡ true
  pub delays : tidy k.delays ≡ true

pub core_parts : (k : Core) → packed_core k ≡ true → CoreParts k
core_parts k e =
    let p = each (leb k.created 31) (every unused (drop k.created k.tasks) ∷ tidy k.ready ∷ tidy k.held ∷ tidy k.delays ∷ []) e in
    record { few = leb-true k.created 31 (p 0); blank_behind = p 1; ready = p 2; held = p 3; delays = p 4 }

-- a core whose unused places are blank is that of what it stands for
pub core_packed : (k : Core) → TypedCore k → packed_core k ≡ true → k ≡ pack_core (view_core k)
core_packed k t e =
    let p = core_parts k e in
    λ i. record {
      clock = k.clock;
      created = sym (length-take-le k.created k.tasks (omega (arith, p.few, t.tasks))) i;
      tasks = tasks_packed k.created k.tasks p.few t.tasks p.blank_behind i;
      ready = tidy_pad k.ready t.ready p.ready i;
      held = tidy_pad k.held t.held p.held i;
      delays = tidy_pad k.delays t.delays p.delays i;
    }

-- the parts of the test of a struct that is sound
pub record Parts (s : Supervisor) : Type 0 where
  pub core : packed_core s.core ≡ true
  pub callers : tidy s.callers ≡ true
  pub state : sound (view s) ≡ true

pub parts : (s : Supervisor) → sound_whole s ≡ true → Parts s
parts s e =
    let a = and_first (packed_core s.core && tidy s.callers) (sound (view s)) e in
    record { core = and_first (packed_core s.core) (tidy s.callers) a; callers = and_second (packed_core s.core) (tidy s.callers) a; state = and_second (packed_core s.core && tidy s.callers) (sound (view s)) e }

pub whole_packed : (s : Supervisor) → Typed s → sound_whole s ≡ true → s ≡ pack (view s)
whole_packed s t e =
    let p = parts s e in λ i. record { core = core_packed s.core t.core p.core i; callers = tidy_pad s.callers t.callers p.callers i }

pub sound_view : (s : Supervisor) → Typed s → sound_whole s ≡ true → Sound (view s)
sound_view s t e = sound_props (view s) t.core.clock (parts s e).state

pub tree_view : (s : Supervisor) → Typed s → sound_whole s ≡ true → Tree (view s)
tree_view s t e = tree_props (view s) (sound_view s t e) (parts s e).state

-- the step of the rules, with its state in the code's struct
abbrev pub whole_of : Given → Whole
whole_of r = record { refusal = r.refusal; answer = r.answer; ended = r.ended; next = r.next; state = pack r.state }

pub step_whole_lem : (s : State) (c : C.Call) (room : ℕ) → Sound s → step_whole (pack s) c room ≡ whole_of (step s c room)
unfolding step_whole
step_whole_lem s c room h =
    by_bool (ltb room 124)
    (λ e. rw e)
    (λ e. by_bool (sound s)
    (λ q. rw (e, packed_core_lem s h, behind s.callers (h.callers 0), view_pack s h, q) (go (take_call s c)))
    (λ q. rw (e, packed_core_lem s h, behind s.callers (h.callers 0), view_pack s h, q)))
  where
    go : (o : Outcome) → done_by pack (pack s) s o ≡ whole_of (stepped s o)
    go (refused r) = refl
    go (took t a l) = refl

-- ── runs ──

pub state_whole : (s : State) (a : Ask) → Sound s → (step_whole (pack s) a.call a.room).state ≡ pack (entry s a).out.state
state_whole s a h = ap (λ (r : Whole). r.state) (step_whole_lem s a.call a.room h)

pub entry_whole_lem : (s : State) (a : Ask) → Sound s → entry_whole (pack s) a ≡ entry s a
entry_whole_lem s a h = λ k. record {
  before = view_pack s h k;
  call = a.call;
  out = (ap viewed (step_whole_lem s a.call a.room h) ∙ λ j. record {
    refusal = (entry s a).out.refusal;
    answer = (entry s a).out.answer;
    ended = (entry s a).out.ended;
    next = (entry s a).out.next;
    state = view_pack (entry s a).out.state (step_sound s a h) j;
  }) k;
}

pub log_whole_lem : (run : List Ask) (s : State) → Sound s → log_whole (pack s) run ≡ log_of s run
log_whole_lem [] s h = refl
log_whole_lem (a ∷ rest) s h =
    ap (λ (x : Entry). x ∷ log_whole (step_whole (pack s) a.call a.room).state rest) (entry_whole_lem s a h)
    ∙ ap (λ (t : Supervisor). entry s a ∷ log_whole t rest) (state_whole s a h)
    ∙ ap (λ (l : List Entry). entry s a ∷ l) (log_whole_lem rest (entry s a).out.state (step_sound s a h))

pub reach_whole_lem : (run : List Ask) (s : State) → Sound s → reach_whole (pack s) run ≡ pack (reach s run)
reach_whole_lem [] s h = refl
reach_whole_lem (a ∷ rest) s h =
    ap (λ (t : Supervisor). reach_whole t rest) (state_whole s a h) ∙ reach_whole_lem rest (entry s a).out.state (step_sound s a h)

pub sound_pack : (s : State) → Sound s → Tree s → sound_whole (pack s) ≡ true
sound_pack s h g = rw (packed_core_lem s h, behind s.callers (h.callers 0), view_pack s h) (sound_test s h g)
