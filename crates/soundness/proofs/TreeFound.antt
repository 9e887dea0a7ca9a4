-- What the check of the tree finds is what the rules say of it, where all stand right.
-- Assumes nothing.
use Rattle.std.proofs.Common.{◌≡◌, ℕ, ◌<◌, ◌≤◌, Bool, true, false, not, ◌&&◌, eqb, List, [], length, sym, refl, ap, ◌∙◌, arith, length-take-le}
use mathlib.Core.Bool.{and-true}
use Rattle.lists.specs.Lists.{bit, count, every, down_from}
use Rattle.lists.specs.Line.{line}
use Rattle.lists.specs.Marks as M
use Rattle.lists.proofs.Tests.{same_test, and_both, and_first, and_second}
use Rattle.lists.proofs.ListLaws.{by_bool, clash, nobody, every_of, down_at}
use Rattle.lists.proofs.MarkLaws.{mark_in}
use Rattle.rules.specs.State.{State, task_of, place_of, priority_of, current_of, created, is_held, partner_of, held_by}
use Rattle.rules.specs.Callers.{with_callers}
use Rattle.rules.specs.Sound.{tree_right}
use Rattle.rules.specs.Tree.{highest_from, keeps}
use Rattle.rules.specs.Whole.{view_core}
use Rattle.rules.specs.declared.Core.{Core}
use Rattle.rules.specs.declared.Task.{Task}
use Rattle.rules.proofs.Invariant.{Sound}
use Rattle.rules.proofs.Members.{bit_true}
use Rattle.rules.proofs.SoundTest.{in_down}
use Rattle.rules.proofs.TreeLaws.{Tree}
use Rattle.rules.proofs.TreeMoves.{held_in}
use Rattle.rules.proofs.TreeTest.{keeps_test, keeps_of, tree_test, tree_of}
use Rattle.table.specs.Tree.{holders_of}
use Rattle.soundness.specs.Marks.{Marks, has_mark, next_mark, is_none}
use Rattle.soundness.specs.Check.{Held, belongs, is_changed, marked_in, changed_in}
use Rattle.soundness.specs.TreeCheck.{top_of, passed, all_climbed, tree_found}
use Rattle.soundness.proofs.MarkLaws.{next_whole, next_none, none_has}
use Rattle.soundness.proofs.TaskLaws.{named, called_none}
use Rattle.soundness.proofs.LineLaws.{has_wanted}
use Rattle.soundness.proofs.TreePass.{AllHeld, Apart, start_top, pass_good, good_pass, passed_core}
use Rattle.soundness.proofs.TreeClimb.{Within, Known, all_known, all_climb}

-- the words of the check: bit t is task t's
abbrev held_word : Core → Marks
held_word s = next_mark (marked_in s Held) false

abbrev changed_word : Core → Marks
changed_word s = next_mark (changed_in s) false

-- a test that fails of a blank task is told of every number
word_tells : (s : Core) (f : Task → Bool) (t : ℕ) → f (task_of (view_core s) 0) ≡ false → (named s.created t && f (task_of (view_core s) t)) ≡ f (task_of (view_core s) t)
word_tells s f t e =
    by_bool (named s.created t)
    (λ p. rw p)
    (λ p. rw p (sym (ap f (sym (called_none s t p)) ∙ e)))

module _ (s : Core) (callers : List ℕ) (few : s.created ≤ 31) (long : length s.tasks ≡ 31) (h : Sound (with_callers (view_core s) callers)) where
  abbrev v : State
  v = with_callers (view_core s) callers

  abbrev l : List ℕ
  l = line s.held

  created_is : created v ≡ s.created
  created_is = length-take-le s.created s.tasks (omega arith)

  line_held : (c : ℕ) → 0 < count c l → is_held (place_of v c) ≡ true
  line_held c k = bit_true (is_held (place_of v c)) (omega (arith, k, h.held c))

  all_held : AllHeld v l
  all_held c k = let e = line_held c k in (e, omega (arith, (held_in v c h e).2, few, created_is))

  held_told : (t : ℕ) → has_mark (held_word s) t ≡ is_held (place_of v t)
  held_told t = has_wanted (λ u. is_held (place_of v u)) s.created t few ∙ word_tells s (belongs Held) t refl

  changed_told : (t : ℕ) → has_mark (changed_word s) t ≡ not (eqb (current_of v t) (top_of v M.no_marks t))
  changed_told t =
      has_wanted (λ u. is_changed (task_of v u)) s.created t few ∙ word_tells s is_changed t refl ∙ sym (ap (λ (x : ℕ). not (eqb (current_of v t) x)) (start_top v t))

  apart : Apart v M.no_marks (changed_word s)
  apart = record { whole = next_whole (changed_in s) false; has = changed_told }

  holder : (t : ℕ) → is_held (place_of v t) ≡ true → M.mark_of (holders_of s) t ≡ partner_of (place_of v t)
  holder t e = mark_in (λ c. partner_of (place_of v c)) l M.no_marks t (omega (arith, h.held t ∙ ap bit e)) (omega (arith, (held_in v t h e).1, few, created_is))

  within : Within v h (holders_of s) holder (held_word s)
  within = record { whole = next_whole (marked_in s Held) false; held = λ t e. sym (held_told t) ∙ e }

  known : Known v h (holders_of s) holder (held_word s)
  known t e = (0, sym (held_told t) ∙ e)

  -- ── the two parts, of any line ──

  abbrev good : List ℕ → Bool
  good x = passed v M.no_marks (changed_word s) x

  abbrev free : List ℕ → Bool
  free x = all_climbed (holders_of s) (held_word s) x

  found_tree : (good l && free l) ≡ true → Tree v
  found_tree e =
      let p = pass_good v l M.no_marks (changed_word s) refl apart all_held (and_first (good l) (free l) e) in
      let c = all_known v h (holders_of s) holder l (held_word s) within known (and_second (good l) (free l) e) in
      record {
        agree = λ t. record {
          kept = keeps_of v (priority_of v t) (held_by v t) (sym (ap (λ (x : ℕ). keeps v x (held_by v t)) (start_top v t)) ∙ (p t).kept);
          current = (p t).current ∙ ap (λ (x : ℕ). highest_from (current_of v) x (held_by v t)) (start_top v t);
        };
        no_ring = λ t. by_bool (is_held (place_of v t)) (λ y. c t (omega (arith, h.held t ∙ ap bit y))) (λ y. (0, y));
      }

  tree_found_lem : Tree v → (good l && free l) ≡ true
  tree_found_lem g =
      and_both
      (good_pass v l M.no_marks (changed_word s) refl apart all_held λ t. record {
        kept = ap (λ (x : ℕ). keeps v x (held_by v t)) (start_top v t) ∙ keeps_test v (priority_of v t) (held_by v t) (g.agree t).kept;
        current = (g.agree t).current ∙ sym (ap (λ (x : ℕ). highest_from (current_of v) x (held_by v t)) (start_top v t));
      })
      (all_climb v h (holders_of s) holder l (held_word s) within g.no_ring (λ c j. let i = held_in v c h (line_held c j) in (i.0, i.1)))

  -- ── the whole ──

  abbrev right : Bool
  right = every (tree_right v) (down_from (created v))

  both_right : (good l && free l) ≡ right
  both_right =
      same_test (good l && free l) right
      (λ e. every_of (tree_right v) (down_from (created v)) (λ t j. let i = in_down t (created v) j in tree_test v h (found_tree e) t i.0 i.1))
      (λ e. tree_found_lem (tree_of v h (λ t a b. down_at (tree_right v) (created v) e t a b)))

  -- where the word of those held has nobody, their line is empty
  none_held : is_none (marked_in s Held) ≡ true → l ≡ []
  none_held e = nobody l λ c k. clash (line_held c k) (sym (held_told c) ∙ none_has (held_word s) c (next_none (marked_in s Held) e))

  pub found_is : tree_found s (marked_in s Held) (changed_in s) ≡ right
  found_is =
      by_bool (is_none (marked_in s Held))
      (λ e. rw e (sym (and-true (is_none (changed_word s))) ∙ sym (ap (λ (x : List ℕ). good x && free x) (none_held e)) ∙ both_right))
      (λ e. rw e (ap (λ (b : Bool). b && free l) (passed_core (view_core s) callers M.no_marks (changed_word s) l) ∙ both_right))
