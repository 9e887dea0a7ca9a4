-- The pass over those held finds whether the stored priorities agree with the callers.
-- Assumes nothing.
use Rattle.std.proofs.Common.{◌≡◌, ℕ, ◌<◌, ◌≤◌, Bool, true, not, ◌&&◌, eqb, ltb, List, [], ◌∷◌, length, set, sym, refl, ap, ◌∙◌, arith, length-set, get_or-set_other, get_or-set_same, ltb-false, le-ltb, eq-eqb, ne_eqb, eqb-true}
use borrow.Author.Tests.{not-false}
use Rattle.lists.specs.Lists.{count, filter}
use Rattle.lists.specs.Marks.{no_marks, mark_of}
use Rattle.lists.proofs.Tests.{and_both, and_first, and_second}
use Rattle.lists.proofs.ListLaws.{by_eq, by_test}
use Rattle.lists.proofs.MarkLaws.{none_marked}
use Rattle.rules.specs.State.{State, place_of, priority_of, current_of, is_held, partner_of, kept_of, holds, higher}
use Rattle.rules.specs.Callers.{with_callers}
use Rattle.rules.specs.Tree.{highest_from, keeps}
use Rattle.rules.proofs.LevelLaws.{higher_least}
use Rattle.soundness.specs.Marks.{Marks, Whole, has_mark, put_mark}
use Rattle.soundness.specs.TreeCheck.{top_of, passed}
use Rattle.soundness.proofs.MarkLaws.{put_whole, has_put, none_has, has_all}

-- ── the higher of two ──

higher_up : (a b : ℕ) → a ≤ b → higher a b ≡ b
higher_up a b h = by_test (λ (x : ℕ). x ≡ b) (ltb a b) (λ _. refl) (λ e. omega (arith, ltb-false a b e))

higher_none : (a : ℕ) → higher a 0 ≡ a
higher_none a = rw (le-ltb a 0 (omega arith))

-- ── the pass ──

module _ (v : State) where
  -- the mark of a holder, and those of the others
  mark_same : (m : List ℕ) (g x : ℕ) → length m ≡ 32 → g < 32 → top_of v (set m g (higher (top_of v m g) x)) g ≡ higher (top_of v m g) x
  mark_same m g x long few =
      ap (higher (priority_of v g)) (get_or-set_same m g (higher (top_of v m g) x) 0 (omega arith))
      ∙ higher_up (priority_of v g) (higher (top_of v m g) x) (omega (arith, higher_least (priority_of v g) (mark_of m g), higher_least (top_of v m g) x))

  mark_other : (m : List ℕ) (g x t : ℕ) → (t ≡ g → ⊥) → top_of v (set m g x) t ≡ top_of v m t
  mark_other m g x t n = ap (higher (priority_of v t)) (get_or-set_other m g t x 0 n)

  pub start_top : (t : ℕ) → top_of v no_marks t ≡ priority_of v t
  start_top t = ap (higher (priority_of v t)) (none_marked t) ∙ higher_none (priority_of v t)

  -- those of the list are held, by tasks that have a mark
  abbrev pub AllHeld : List ℕ → Type 0
  AllHeld l = (c : ℕ) → 0 < count c l → (is_held (place_of v c) ≡ true) × (partner_of (place_of v c) < 32)

  -- the word has those whose current priority is another than the highest so far
  pub record Apart (m : List ℕ) (a : Marks) : Type 0 where
    pub whole : Whole a
    pub has : (t : ℕ) → has_mark a t ≡ not (eqb (current_of v t) (top_of v m t))

  -- what is found of task t: each of its callers keeps what was before, and its current priority is the highest
  pub record Right (m l : List ℕ) (t : ℕ) : Type 0 where
    pub kept : keeps v (top_of v m t) (filter (holds v t) l) ≡ true
    pub current : current_of v t ≡ highest_from (current_of v) (top_of v m t) (filter (holds v t) l)

  -- one turn, of the holder t of c and of another t
  module _ (m : List ℕ) (a : Marks) (c : ℕ) (l : List ℕ) (long : length m ≡ 32) (apart : Apart m a) (h : AllHeld (c ∷ l)) where
    first_held : (is_held (place_of v c) ≡ true) × (partner_of (place_of v c) < 32)
    first_held = h c (rw (eq-eqb c c refl) (omega arith))

    rest_held : AllHeld l
    rest_held x k = h x (omega arith)

    abbrev g : ℕ
    g = partner_of (place_of v c)

    abbrev now : ℕ
    now = higher (top_of v m g) (current_of v c)

    abbrev m' : List ℕ
    m' = set m g now

    abbrev a' : Marks
    a' = put_mark a g (not (eqb (current_of v g) now))

    long' : length m' ≡ 32
    long' = length-set m g now ∙ long

    own_line : (t : ℕ) → g ≡ t → filter (holds v t) (c ∷ l) ≡ c ∷ filter (holds v t) l
    own_line t q = rw (first_held.0, eq-eqb g t q)

    other_line : (t : ℕ) → (g ≡ t → ⊥) → filter (holds v t) (c ∷ l) ≡ filter (holds v t) l
    other_line t n = rw (first_held.0, ne_eqb g t n)

    own_top : (t : ℕ) → g ≡ t → top_of v m' t ≡ higher (top_of v m t) (current_of v c)
    own_top t q = ap (top_of v m') (sym q) ∙ mark_same m g (current_of v c) long first_held.1 ∙ ap (λ (x : ℕ). higher (top_of v m x) (current_of v c)) q

    other_top : (t : ℕ) → (g ≡ t → ⊥) → top_of v m' t ≡ top_of v m t
    other_top t n = mark_other m g now t (λ q. n (sym q))

    apart' : Apart m' a'
    apart' = record {
      whole = put_whole a g (not (eqb (current_of v g) now)) apart.whole;
      has = λ t. has_put a g t (not (eqb (current_of v g) now)) first_held.1 ∙ by_eq t g
          (λ q. rw (eq-eqb t g q) (sym (ap (λ (x : ℕ). not (eqb (current_of v x) (top_of v m' x))) q ∙ ap (λ (x : ℕ). not (eqb (current_of v g) x)) (own_top g refl))))
          (λ n. rw (ne_eqb t g n) (apart.has t ∙ sym (ap (λ (x : ℕ). not (eqb (current_of v t) x)) (other_top t (λ q. n (sym q))))));
    }

    -- what is found of the rest, with the marks that the turn leaves, is found of all
    right_on : eqb (kept_of (place_of v c)) (top_of v m g) ≡ true → (t : ℕ) → Right m' l t → Right m (c ∷ l) t
    right_on e t r =
        by_eq g t
        (λ q. record {
          kept = ap (keeps v (top_of v m t)) (own_line t q)
              ∙ and_both (ap (λ (x : ℕ). eqb (kept_of (place_of v c)) (top_of v m x)) (sym q) ∙ e) (ap (λ (x : ℕ). keeps v x (filter (holds v t) l)) (sym (own_top t q)) ∙ r.kept);
          current = r.current ∙ ap (λ (x : ℕ). highest_from (current_of v) x (filter (holds v t) l)) (own_top t q) ∙ sym (ap (highest_from (current_of v) (top_of v m t)) (own_line t q));
        })
        (λ n. record {
          kept = ap (keeps v (top_of v m t)) (other_line t n) ∙ ap (λ (x : ℕ). keeps v x (filter (holds v t) l)) (sym (other_top t n)) ∙ r.kept;
          current = r.current ∙ ap (λ (x : ℕ). highest_from (current_of v) x (filter (holds v t) l)) (other_top t n) ∙ sym (ap (highest_from (current_of v) (top_of v m t)) (other_line t n));
        })

    -- and the other way round
    abbrev behind : Bool
    behind = keeps v now (filter (holds v g) l)

    own_kept : Right m (c ∷ l) g → (eqb (kept_of (place_of v c)) (top_of v m g) && behind) ≡ true
    own_kept r = sym (ap (keeps v (top_of v m g)) (own_line g refl)) ∙ r.kept

    right_back : ((t : ℕ) → Right m (c ∷ l) t) → (t : ℕ) → Right m' l t
    right_back f t =
        by_eq g t
        (λ q. record {
          kept = ap (λ (x : ℕ). keeps v (top_of v m' x) (filter (holds v x) l)) (sym q) ∙ ap (λ (x : ℕ). keeps v x (filter (holds v g) l)) (own_top g refl)
              ∙ and_second (eqb (kept_of (place_of v c)) (top_of v m g)) behind (own_kept (f g));
          current = (f t).current ∙ ap (highest_from (current_of v) (top_of v m t)) (own_line t q) ∙ sym (ap (λ (x : ℕ). highest_from (current_of v) x (filter (holds v t) l)) (own_top t q));
        })
        (λ n. record {
          kept = ap (λ (x : ℕ). keeps v x (filter (holds v t) l)) (other_top t n) ∙ sym (ap (keeps v (top_of v m t)) (other_line t n)) ∙ (f t).kept;
          current = (f t).current ∙ ap (highest_from (current_of v) (top_of v m t)) (other_line t n) ∙ sym (ap (λ (x : ℕ). highest_from (current_of v) x (filter (holds v t) l)) (other_top t n));
        })

  pub pass_good : (l m : List ℕ) (a : Marks) → length m ≡ 32 → Apart m a → AllHeld l → passed v m a l ≡ true → (t : ℕ) → Right m l t
  pass_good [] m a long apart h e = λ t. record { kept = refl; current = eqb-true _ _ (not-false _ (sym (apart.has t) ∙ none_has a t e)) }
  pass_good (c ∷ l) m a long apart h e =
      let k = eqb (kept_of (place_of v c)) (top_of v m (partner_of (place_of v c))) in
      let rest = passed v (m' m a c l long apart h) (a' m a c l long apart h) l in
      let r = pass_good l (m' m a c l long apart h) (a' m a c l long apart h) (long' m a c l long apart h) (apart' m a c l long apart h) (rest_held m a c l long apart h) (and_second k rest e) in
      λ t. right_on m a c l long apart h (and_first k rest e) t (r t)

  pub good_pass : (l m : List ℕ) (a : Marks) → length m ≡ 32 → Apart m a → AllHeld l → ((t : ℕ) → Right m l t) → passed v m a l ≡ true
  good_pass [] m a long apart h f = has_all a apart.whole (λ t. apart.has t ∙ ap not (eq-eqb _ _ (f t).current))
  good_pass (c ∷ l) m a long apart h f =
      let x = partner_of (place_of v c) in
      let k = eqb (kept_of (place_of v c)) (top_of v m x) in
      and_both (and_first k (behind m a c l long apart h) (own_kept m a c l long apart h (f x)))
      (good_pass l (m' m a c l long apart h) (a' m a c l long apart h) (long' m a c l long apart h) (apart' m a c l long apart h) (rest_held m a c l long apart h) (right_back m a c l long apart h f))

-- the pass does not look at the callers
pub passed_core : (s : State) (q m : List ℕ) (a : Marks) (l : List ℕ) → passed s m a l ≡ passed (with_callers s q) m a l
passed_core s q m a [] = refl
passed_core s q m a (c ∷ l) =
    let g = partner_of (place_of s c) in
    let now = higher (top_of s m g) (current_of s c) in
    ap (λ (b : Bool). eqb (kept_of (place_of s c)) (top_of s m g) && b) (passed_core s q (set m g now) (put_mark a g (not (eqb (current_of s g) now))) l)
