-- The priority that marks tell is that of the tree, where all stand right.
-- Assumes nothing.
use Rattle.std.proofs.Common.{◌≡◌, ℕ, zero, suc, ◌-◌, ◌<◌, ◌≤◌, true, false, ◌&&◌, eqb, List, length, sym, refl, ap, ◌∙◌, arith, length-take-le, lt-ltb, le-leb}
use native.Mathlib.Numerals.{unary_clauses}
use Rattle.lists.specs.Line.{line}
use Rattle.lists.specs.Lists.{down_from}
use Rattle.lists.specs.Marks.{no_marks, mark_of, with_mark}
use Rattle.lists.proofs.Tests.{between, and_both}
use Rattle.lists.proofs.ListLaws.{by_bool, clash, not_in, down_once}
use Rattle.lists.proofs.MarkLaws.{filter_same, mark_in, mark_out, none_marked}
use Rattle.rules.specs.State.{State, place_of, created, priority_of, partner_of, is_task, is_held, holds, held_by}
use Rattle.rules.specs.Callers.{with_callers}
use Rattle.rules.specs.Sound.{sound}
use Rattle.rules.specs.Tree.{highest_from, highest_of}
use Rattle.rules.specs.Whole.{view_core, packed_core}
use Rattle.rules.specs.declared.Core.{Core}
use Rattle.rules.specs.declared.Task.{Task}
use Rattle.rules.proofs.Invariant.{Sound}
use Rattle.rules.proofs.Members.{bit_true}
use Rattle.rules.proofs.SoundTest.{in_down, sound_props}
use Rattle.rules.proofs.TreeLaws.{from_alike}
use Rattle.rules.proofs.TreeMoves.{held_in}
use Rattle.rules.proofs.TreeTest.{not-task}
use Rattle.rules.proofs.WholeLaws.{core_parts}
use Rattle.table.specs.Tree.{holders_of, priorities_of, highest_in}

-- ── one level ──

pub in_here : (l m p : List ℕ) (n t : ℕ) → n ≡ 0 → highest_in l m p n t ≡ mark_of p t
unfolding highest_in
in_here l m p n t e = rw e

pub in_down_one : (l m p : List ℕ) (n t : ℕ) → (n ≡ 0 → ⊥) → highest_in l m p n t ≡ highest_from (highest_in l m p (n - 1)) (mark_of p t) (with_mark m t l)
unfolding highest_in
in_down_one l m p zero t h = absurd (h refl)
in_down_one l m p (suc n) t h = simp unary_clauses

-- ── in a sound state, whatever its callers ──

module _ (s : Core) (callers : List ℕ) (h : Sound (with_callers (view_core s) callers)) (n : s.created ≡ created (with_callers (view_core s) callers)) where
  abbrev v : State
  v = with_callers (view_core s) callers

  -- the mark of each task is its priority
  priority_mark : (t : ℕ) → mark_of (priorities_of s) t ≡ priority_of v t
  priority_mark t =
      let few = h.few in
      by_bool (is_task v t)
      (λ e. let i = between t (length v.tasks) e in
      mark_in (priority_of v) (down_from s.created) no_marks t (omega (arith, down_once t s.created i.0 (omega (arith, i.1, n)))) (omega (arith, i.1, few)))
      (λ e. mark_out (priority_of v) (down_from s.created) no_marks t (not_in t (down_from s.created) (λ j. outside e (in_down t s.created j)))
      ∙ none_marked t ∙ sym (ap (λ (x : Task). x.priority) (not-task v t e)))
    where
      outside : {t : ℕ} → is_task v t ≡ false → (0 < t) × (t ≤ s.created) → ⊥
      outside e i = clash (and_both (lt-ltb 0 _ i.0) (le-leb _ (length v.tasks) (omega (arith, i.1, n)))) e

  -- those marked with t are those that it holds
  callers_mark : (t : ℕ) → with_mark (holders_of s) t (line s.held) ≡ held_by v t
  callers_mark t =
      filter_same (λ x. eqb (mark_of (holders_of s) x) t) (holds v t) (line s.held) λ x j.
      let e = bit_true (is_held (place_of v x)) (omega (arith, j, h.held x)) in
      let few = h.few in
      ap (λ (g : ℕ). eqb g t) (mark_in (λ c. partner_of (place_of v c)) (line s.held) no_marks x j (omega (arith, (held_in v x h e).1, few)))
      ∙ sym (ap (λ b. b && eqb (partner_of (place_of v x)) t) e)

  highest_told : (k t : ℕ) → highest_in (line s.held) (holders_of s) (priorities_of s) k t ≡ highest_of v k t
  unfolding highest_in highest_of
  highest_told zero t = priority_mark t
  highest_told (suc k) t =
      (λ i. highest_from (highest_in (line s.held) (holders_of s) (priorities_of s) k) (priority_mark t i) (callers_mark t i))
      ∙ from_alike (highest_in (line s.held) (holders_of s) (priorities_of s) k) (highest_of v k) (priority_of v t) (held_by v t) (λ c j. highest_told k c)

-- what the code works out is the priority down the tree, for either engine
pub highest_sound : (s : Core) (callers : List ℕ) (t : ℕ) → s.clock < 4294967296 → length s.tasks ≡ 31 → packed_core s ≡ true → sound (with_callers (view_core s) callers) ≡ true
    → highest_in (line s.held) (holders_of s) (priorities_of s) 30 t ≡ highest_of (with_callers (view_core s) callers) 30 t
highest_sound s callers t clock long packed e =
    let few = (core_parts s packed).few in
    highest_told s callers (sound_props (with_callers (view_core s) callers) clock e) (sym (length-take-le s.created s.tasks (omega arith))) 30 t
