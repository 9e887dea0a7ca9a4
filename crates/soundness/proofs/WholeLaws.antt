-- The whole check: its parts, line by line, against the rules, which go task by task.
-- Assumes nothing.
use Rattle.std.proofs.Common.{◌≡◌, ℕ, ◌<◌, ◌≤◌, Bool, true, ◌&&◌, eqb, leb, List, [], ◌∷◌, ◌++◌, length, drop, sym, refl, ap, ◌∙◌, arith, length-take-le, le-leb, leb-true}
use mathlib.Core.Bool.{and-false, and_assoc, and_comm}
use Rattle.lists.specs.Line.{line, tidy}
use Rattle.lists.specs.Lists.{bit, count, every, in_order_by, down_from}
use Rattle.lists.proofs.ListLaws.{by_bool, clash}
use Rattle.rules.specs.State.{State, created, is_task, task_of}
use Rattle.rules.specs.Sound.{stands_right, tree_right, standing, sound}
use Rattle.rules.specs.Callers.{with_callers}
use Rattle.rules.specs.Whole.{view_core, unused, packed_core, sound_whole}
use Rattle.rules.specs.declared.Supervisor.{Supervisor}
use Rattle.rules.specs.declared.Core.{Core}
use Rattle.table.specs.Moved.{left_of}
use Rattle.soundness.specs.Check.{Line, Ready, Callers, Held, Delays, good_in, belongs, marked_in, changed_in, stands_in, core_sound, checked_of, holds_in, ascending}
use Rattle.soundness.specs.Marks.{Marks, if_any}
use Rattle.soundness.specs.TreeCheck.{tree_found}
use Rattle.soundness.proofs.TreeFound.{found_is}
use Rattle.rules.proofs.SoundTest.{standing_props}
use Rattle.lists.proofs.Tests.{and_second}
use Rattle.soundness.proofs.TaskLaws.{named}
use Rattle.soundness.proofs.LineLaws.{line_has, and_swap, holds_any, stands_is}

-- ── order: each at most the next is each at most all behind ──

module _ (k : ℕ → ℕ) where
  abbrev above : ℕ → List ℕ → Bool
  above a l = every (λ b. leb a (k b)) l

  lower : (a c : ℕ) (l : List ℕ) → a ≤ c → above c l ≡ true → above a l ≡ true
  lower a c [] h e = refl
  lower a c (x ∷ xs) h e =
      by_bool (leb c (k x))
      (λ y. rw (le-leb a (k x) (omega (arith, leb-true c (k x) y))) (lower a c xs h (rw y at e)))
      (λ y. clash e (rw y))

  order_is : (a : ℕ) (l : List ℕ) → ascending k a l ≡ (above a l && in_order_by (λ x y. leb (k x) (k y)) l)
  order_is a [] = refl
  order_is a (x ∷ xs) = by_bool (leb a (k x)) (λ e. rw e (order_is (k x) xs ∙ step e)) (λ e. rw e)
    where
      i : Bool
      i = in_order_by (λ x y. leb (k x) (k y)) xs

      step : leb a (k x) ≡ true → (above (k x) xs && i) ≡ (above a xs && (above (k x) xs && i))
      step e =
          by_bool (above (k x) xs)
          (λ y. rw (y, lower a (k x) xs (leb-true a (k x) e) y))
          (λ y. rw y (sym (and-false (above a xs))))

  above_zero : (l : List ℕ) → above 0 l ≡ true
  above_zero [] = refl
  above_zero (x ∷ xs) = rw (le-leb 0 (k x) (omega arith)) (above_zero xs)

  pub order_whole : (l : List ℕ) → ascending k 0 l ≡ in_order_by (λ x y. leb (k x) (k y)) l
  order_whole l = order_is 0 l ∙ rw (above_zero l)

-- ── tests on all ──

every_append : (f : ℕ → Bool) (a b : List ℕ) → every f (a ++ b) ≡ (every f a && every f b)
every_append f [] b = refl
every_append f (x ∷ xs) b = let ih = every_append f xs b in by_bool (f x) (λ e. rw (e, ih)) (λ e. rw e)

every_both : (f g : ℕ → Bool) (l : List ℕ) → every (λ t. f t && g t) l ≡ (every f l && every g l)
every_both f g [] = refl
every_both f g (x ∷ xs) =
    let ih = every_both f g xs in
    by_bool (f x) (λ e. by_bool (g x) (λ y. rw (e, y, ih)) (λ y. rw (e, y) (sym (and-false (every f xs))))) (λ e. rw e)

-- task t stands in a list as often as it should
abbrev right : State → Line → List ℕ → ℕ → Bool
right v l a t = eqb (count t a) (bit (belongs l (task_of v t)))

-- all that the rules ask of a task, of all tasks: first that each is good, then line by line
stand_is : (v : State) (d : List ℕ)
    → every (stands_right v) d ≡ ((((every (good_in v) d && every (right v Ready v.ready) d) && every (right v Callers v.callers) d) && every (right v Held v.held) d) && every (right v Delays v.delays) d)
stand_is v d =
    every_both (λ t. (((good_in v t && right v Ready v.ready t) && right v Callers v.callers t) && right v Held v.held t)) (right v Delays v.delays) d
    ∙ ap (λ (b : Bool). b && every (right v Delays v.delays) d) (every_both (λ t. ((good_in v t && right v Ready v.ready t) && right v Callers v.callers t)) (right v Held v.held) d
    ∙ ap (λ (b : Bool). b && every (right v Held v.held) d) (every_both (λ t. good_in v t && right v Ready v.ready t) (right v Callers v.callers) d
    ∙ ap (λ (b : Bool). b && every (right v Callers v.callers) d) (every_both (good_in v) (right v Ready v.ready) d)))

-- ── the whole ──

last_swap : (a b c : Bool) → ((a && b) && c) ≡ ((a && c) && b)
last_swap a b c = and_assoc a b c ∙ ap (λ (x : Bool). a && x) (and_comm b c) ∙ sym (and_assoc a c b)

-- the same tests and the order, in the code's grouping and in the rules'; t is what else is asked of the callers' own arrays
regroup : (u t1 t t3 t4 g c1 c2 c3 c4 n1 n2 n3 n4 o : Bool)
    → ((((g && u) && (((t1 && n1) && c1) && ((t3 && n3) && c3))) && (((t4 && n4) && c4) && o)) && ((t && n2) && c2))
    ≡ (((((u && t1) && t3) && t4) && t) && ((((((g && c1) && c2) && c3) && c4) && (((n1 && n2) && n3) && n4)) && o))
regroup u t1 t t3 t4 g c1 c2 c3 c4 n1 n2 n3 n4 o = simp (and_assoc, and_comm, and_swap)

-- what is asked of the callers of a core: each of the list is a task, and each task stands in it as often as it should
abbrev pub callers_right : Core → List ℕ → Bool → Bool
callers_right s l t = (t && every (named s.created) l) && every (right (view_core s) Callers l) (down_from s.created)

-- the check of a core but for the tree, beside what is asked of the callers, is that all stand right with these callers
standing_is : (s : Core) (l : List ℕ) (t : Bool) → length s.tasks ≡ 31 → leb s.created 31 ≡ true → (stands_in s && callers_right s l t) ≡ ((packed_core s && t) && standing (with_callers (view_core s) l))
unfolding standing line_has
standing_is s l t k p =
    let h : s.created ≤ 31 = leb-true s.created 31 p in
    let v = with_callers (view_core s) l in
    let n : created v ≡ s.created = length-take-le s.created s.tasks (omega arith) in
    let f : ℕ → Bool = named s.created in
    let a = line s.ready in let d = line s.held in let w = line s.delays in
    let all : every (is_task v) (((a ++ l) ++ d) ++ w) ≡ (((every f a && every f l) && every f d) && every f w) =
    ap (λ (m : ℕ). every (named m) (((a ++ l) ++ d) ++ w)) n
    ∙ every_append f ((a ++ l) ++ d) w ∙ ap (λ (b : Bool). b && every f w) (every_append f (a ++ l) d ∙ ap (λ (b : Bool). b && every f d) (every_append f a l)) in
    let z = down_from s.created in
    let stand = ap (λ (m : ℕ). every (stands_right v) (down_from m)) n ∙ stand_is v z in
    let order = sym (order_whole (left_of s) w) in
    let q : leb (created v) 31 ≡ true = le-leb (created v) 31 (omega arith) in
    rw (p, stands_is s Ready h, stands_is s Held h, stands_is s Delays h, q, stand, all, order)
    (regroup (every unused (drop s.created s.tasks)) (tidy s.ready) t (tidy s.held) (tidy s.delays)
    (every (good_in v) z) (every (right v Ready a) z) (every (right v Callers l) z) (every (right v Held d) z) (every (right v Delays w) z)
    (every f a) (every f l) (every f d) (every f w) (ascending (left_of s) 0 w))

-- with the tree, which does not tell of the callers, it is soundness with these callers
pub core_is : (s : Core) (l : List ℕ) (t : Bool) → s.clock < 4294967296 → length s.tasks ≡ 31 → (core_sound s && callers_right s l t) ≡ ((packed_core s && t) && sound (with_callers (view_core s) l))
unfolding sound
core_is s l t clock k = by_bool (leb s.created 31) fits (λ e. rw e)
  where
    fits : leb s.created 31 ≡ true → (core_sound s && callers_right s l t) ≡ ((packed_core s && t) && sound (with_callers (view_core s) l))
    fits p =
        let v = with_callers (view_core s) l in
        let a = stands_in s in let b = callers_right s l t in let f = tree_found s (marked_in s Held) (changed_in s) in let z = every (tree_right v) (down_from (created v)) in
        let e : (a && b) ≡ ((packed_core s && t) && standing v) = standing_is s l t k p in
        let q : ((a && b) && f) ≡ ((a && b) && z) =
        by_bool (a && b)
        (λ y. ap (λ (x : Bool). (a && b) && x) (found_is s l (leb-true s.created 31 p) k (standing_props v clock (and_second (packed_core s && t) (standing v) (sym e ∙ y)))))
        (λ y. rw y) in
        let g : core_sound s ≡ (a && f) = rw p in
        ap (λ (x : Bool). x && b) g ∙ last_swap a f b ∙ q ∙ ap (λ (x : Bool). x && z) e ∙ and_assoc (packed_core s && t) (standing v) z

-- who belongs into the queues is asked for where a core is sound
pub if_sound : (s : Core) (f : Marks → Bool) → if_any (checked_of s) f ≡ (core_sound s && f (marked_in s Callers))
if_sound s f = by_bool (core_sound s) (λ e. rw e) (λ e. rw e)

-- what the code finds, of the core and of the line of callers
pub sound_is : (s : Supervisor) → s.core.clock < 4294967296 → length s.core.tasks ≡ 31 → if_any (checked_of s.core) (λ w. holds_in w s.callers) ≡ sound_whole s
unfolding line_has
sound_is s clock k =
    if_sound s.core (λ w. holds_in w s.callers)
    ∙ by_bool (leb s.core.created 31)
    (λ p.
    let h : s.core.created ≤ 31 = leb-true s.core.created 31 p in
    let f : ℕ → Bool = λ t. belongs Callers (task_of (view_core s.core) t) in
    ap (λ (b : Bool). core_sound s.core && b) (holds_any s.core.created f s.callers h) ∙ core_is s.core (line s.callers) (tidy s.callers) clock k)
    (λ p. rw p)
