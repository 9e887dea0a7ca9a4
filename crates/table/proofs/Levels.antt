-- One pass that keeps the first task of the highest priority finds the head of the highest ready queue.
-- Assumes nothing.
use Rattle.std.proofs.Common.{◌≡◌, ℕ, zero, suc, ◌-◌, ◌<◌, ◌≤◌, Bool, true, false, eqb, ltb, leb, List, [], ◌∷◌, length, get_or, take, sym, refl, ap, ◌∙◌, arith, ltb-false, ltb-true, le-ltb, ne_eqb, eqb-true, le-leb, leb-false, leb-true}
use borrow.Author.Tests.{eqb-false, lt-leb}
use Rattle.lists.specs.Lists.{when◌then◌else◌, filter}
use Rattle.lists.proofs.ListLaws.{by_bool}
use Rattle.rules.specs.State.{State, blank, nth, level, head_up_to, current_of, running}
use Rattle.rules.specs.Whole.{view_core}
use Rattle.rules.specs.declared.Core.{Core}
use Rattle.table.specs.Best.{best_of, better_of, last_of}
use Rattle.table.proofs.LeafLaws.{task_in, task_past, task_out}
use Rattle.table.specs.declared.dispatch.Best.{Best}
use Rattle.rules.specs.declared.Task.{Task}

abbrev head_or : List ℕ → ℕ → ℕ
head_or [] d = d
head_or (x ∷ xs) d = x

module _ (f : ℕ → ℕ) where
  -- the head of the highest of the levels m + 1 .. p that is not empty, d where there is none
  abbrev head_in : List ℕ → ℕ → ℕ → ℕ → ℕ
  head_in l m zero d = d
  head_in l m (suc p) d = when leb (suc p) m then d else head_or (filter (λ t. eqb (f t) (suc p)) l) (head_in l m p d)

  none : (m p d : ℕ) → head_in [] m p d ≡ d
  none m zero d = refl
  none m (suc p) d = go (leb (suc p) m) (none m p d)
    where
      go : (b : Bool) → head_in [] m p d ≡ d → (when b then d else head_in [] m p d) ≡ d
      go true ih = refl
      go false ih = ih

  module _ (x : ℕ) (l : List ℕ) where
    skip : (m p d : ℕ) → ((q : ℕ) → m < q → q ≤ p → f x ≡ q → ⊥) → head_in (x ∷ l) m p d ≡ head_in l m p d
    skip m zero d h = refl
    skip m (suc p) d h = go (leb (suc p) m) refl (skip m p d (λ q a b. h q a (omega arith)))
      where
        go : (b : Bool) → leb (suc p) m ≡ b → head_in (x ∷ l) m p d ≡ head_in l m p d
            → (when b then d else head_or (filter (λ t. eqb (f t) (suc p)) (x ∷ l)) (head_in (x ∷ l) m p d))
            ≡ (when b then d else head_or (filter (λ t. eqb (f t) (suc p)) l) (head_in l m p d))
        go true e ih = refl
        go false e ih = rw (ne_eqb (f x) (suc p) (h (suc p) (leb-false (suc p) m e) (omega arith)), ih)

    hit : (m p d : ℕ) → m < f x → f x ≤ p → head_in (x ∷ l) m p d ≡ head_in l (f x) p x
    hit m zero d a b = absurd (omega arith)
    hit m (suc p) d a b = rw (lt-leb (suc p) m (omega arith)) (go (eqb (f x) (suc p)) refl (λ c. hit m p d a c))
      where
        go : (t : Bool) → eqb (f x) (suc p) ≡ t → (f x ≤ p → head_in (x ∷ l) m p d ≡ head_in l (f x) p x)
            → head_or (when t then x ∷ filter (λ t. eqb (f t) (suc p)) l else filter (λ t. eqb (f t) (suc p)) l) (head_in (x ∷ l) m p d)
            ≡ (when leb (suc p) (f x) then x else head_or (filter (λ t. eqb (f t) (suc p)) l) (head_in l (f x) p x))
        go true e ih = rw (le-leb (suc p) (f x) (omega (arith, eqb-true (f x) (suc p) e)))
        go false e ih =
            let ne : f x ≡ suc p → ⊥ = eqb-false (f x) (suc p) e in
            rw (lt-leb (suc p) (f x) (omega arith), ih (omega arith))

  one_pass : (l : List ℕ) (b : Best) → (best_of f b l).task ≡ head_in l b.priority 15 b.task
  one_pass [] b = sym (none b.priority 15 b.task)
  one_pass (x ∷ l) b =
      let on : (c : Best) → better_of b x (f x) ≡ c → (best_of f b (x ∷ l)).task ≡ head_in l c.priority 15 c.task
      = λ c e. ap (λ (a : Best). (best_of f a l).task) e ∙ one_pass l c in
      by_bool (leb (f x) 15)
      (λ e. by_bool (ltb b.priority (f x))
      (λ y. on (record { task = x; priority = f x }) (rw (e, y)) ∙ sym (hit x l b.priority 15 b.task (ltb-true b.priority (f x) y) (leb-true (f x) 15 e)))
      (λ y. on b (rw (e, y)) ∙ sym (skip x l b.priority 15 b.task (λ q a c z. omega (arith, ltb-false b.priority (f x) y)))))
      (λ e. on b (rw (e, le-ltb b.priority 0 (omega arith))) ∙ sym (skip x l b.priority 15 b.task (λ q a c z. omega (arith, leb-false (f x) 15 e))))

from_zero : (s : State) (p : ℕ) → head_in (current_of s) s.ready 0 p 0 ≡ head_up_to s p
from_zero s zero = refl
from_zero s (suc p) = rw (lt-leb (suc p) 0 (omega arith), from_zero s p) (go (level s (suc p)))
  where
    go : (l : List ℕ) → head_or l (head_up_to s p) ≡ elim l as (λ _. ℕ) [ [] ↦ head_up_to s p | t ∷ ts ↦ t ]
    go [] = refl
    go (x ∷ xs) = refl

pub one_pass_running : (s : State) → running s ≡ (best_of (current_of s) (record { task = 0; priority = 0 }) s.ready).task
unfolding running
one_pass_running s = sym (one_pass (current_of s) s.ready (record { task = 0; priority = 0 }) ∙ from_zero s 15)

-- ── one turn ──

pub last_low : (n : ℕ) → (last_of n ≤ n) × (last_of n ≤ 31)
last_low n = by_bool (leb n 31) (λ e. rw e (omega arith, leb-true n 31 e)) (λ e. rw e (omega (arith, leb-false n 31 e), omega arith))

module _ (s : Core) (b : Best) (t n : ℕ) (xs ys : List ℕ) (q : xs ≡ t ∷ ys) where
  -- a task of the table
  pub best_turn : (c : Best) (p : ℕ) → (t ≡ 0 → ⊥) → n ≡ last_of s.created → t ≤ n → p ≡ (get_or s.tasks (t - 1) blank).current → c ≡ better_of b t p
      → (best_of (current_of (view_core s)) b xs).task ≡ (best_of (current_of (view_core s)) c ys).task
  best_turn c p z en h ep ec =
      let k = last_low s.created in
      let x = task_in s.tasks s.created t z (omega arith) in
      let e : better_of b t (current_of (view_core s) t) ≡ c = sym (ec ∙ ap (better_of b t) (ep ∙ ap (λ (y : Task). y.current) x)) in
      rw q (ap (λ (a : Best). (best_of (current_of (view_core s)) a ys).task) e)

  -- a number that no task has
  pub best_skip : length s.tasks ≡ 31 → n ≡ last_of s.created → n < t → (best_of (current_of (view_core s)) b xs).task ≡ (best_of (current_of (view_core s)) b ys).task
  best_skip l en h =
      let x : blank ≡ nth (take s.created s.tasks) t =
      by_bool (leb s.created 31)
      (λ e. task_past s.tasks s.created t (omega (arith, rw e at en)))
      (λ e. task_out s.tasks s.created t (omega (arith, rw e at en, l))) in
      let e : better_of b t (current_of (view_core s) t) ≡ b = ap (λ (y : Task). better_of b t y.current) (sym x) ∙ rw (le-ltb b.priority 0 (omega arith)) in
      rw q (ap (λ (a : Best). (best_of (current_of (view_core s)) a ys).task) e)
