-- The tests of the tree of held callers pass exactly where the propositions hold.
-- Assumes nothing.
use Prim.Native.Nat.{ℕ, zero, suc, ◌+◌, ◌≤◌, ◌<◌}
use mathlib.Core.Path.{◌≡◌, refl, sym, ◌∙◌, ap}
use mathlib.Core.Bool.{true, false, not}
use mathlib.Core.List.{List, [], ◌∷◌}
use native.Mathlib.Omega.{arith}
use lib.Dec.{eqb}
use borrow.Author.Tests.{eqb-true, eq-eqb, lt-ltb, le-leb, leb-false, not-true}
use Rattle.lists.proofs.Tests.{between, and_both, and_first, and_second}
use Rattle.lists.proofs.ListLaws.{clash, by_bool, nobody}
use Rattle.rules.specs.State.{State, blank, task_of, place_of, priority_of, current_of, kept_of, created, is_task, is_held, partner_of, held_by, higher}
use Rattle.rules.specs.Tree.{highest_from, highest_of, keeps, agrees, reaches_top}
use Rattle.rules.specs.Sound.{tree_right}
use Rattle.rules.specs.declared.Task.{Task}
use Rattle.rules.proofs.Invariant.{Sound}
use Rattle.rules.proofs.Members.{nth_beyond, of_held}
use Rattle.rules.proofs.TreeLaws.{Keeps, Agrees, Agree, Moves, NoRing, Tree, from_alike}
use Rattle.rules.proofs.TreeMoves.{held_in, holder_low, few_moves}

-- ── from the propositions to the tests ──

pub keeps_test : (s : State) (k : ℕ) (l : List ℕ) → Keeps s k l → keeps s k l ≡ true
keeps_test s k [] h = refl
keeps_test s k (c ∷ l) h = and_both (eq-eqb _ _ h.0) (keeps_test s (higher k (current_of s c)) l h.1)

top_test : (s : State) (n k t : ℕ) → Moves s k t → k ≤ n → reaches_top s n t ≡ true
unfolding reaches_top
top_test s zero zero t m h = ap not m
top_test s zero (suc k) t m h = absurd (omega arith)
top_test s (suc n) zero t m h = rw m
top_test s (suc n) (suc k) t m h = rw m.0 (top_test s n k (partner_of (place_of s t)) m.1 (omega arith))

pub no_ring_test : (s : State) → Sound s → NoRing s → (t : ℕ) → 0 < t → t ≤ created s → reaches_top s 30 t ≡ true
no_ring_test s h r t a b = top_test s 30 (r t).0 t (r t).1 (few_moves s (r t).0 t h a b (r t).1)

pub tree_test : (s : State) → Sound s → Tree s → (t : ℕ) → 0 < t → t ≤ created s → tree_right s t ≡ true
tree_test s h g t a b =
    and_both (and_both (keeps_test s (priority_of s t) (held_by s t) (g.agree t).kept) (eq-eqb _ _ (g.agree t).current)) (no_ring_test s h g.no_ring t a b)

-- ── from the tests to the propositions ──

pub keeps_of : (s : State) (k : ℕ) (l : List ℕ) → keeps s k l ≡ true → Keeps s k l
keeps_of s k [] e = tt
keeps_of s k (c ∷ l) e =
    let kept = eqb (kept_of (place_of s c)) k in
    let rest = keeps s (higher k (current_of s c)) l in
    (eqb-true _ _ (and_first kept rest e), keeps_of s (higher k (current_of s c)) l (and_second kept rest e))

top_of : (s : State) (n t : ℕ) → reaches_top s n t ≡ true → (k : ℕ) × Moves s k t
unfolding reaches_top
top_of s zero t e = (0, not-true _ e)
top_of s (suc n) t e =
    by_bool (is_held (place_of s t))
    (λ h. let r = top_of s n (partner_of (place_of s t)) (rw h at e) in (suc r.0, (h, r.1)))
    (λ h. (0, h))

pub not-task : (s : State) (u : ℕ) → is_task s u ≡ false → task_of s u ≡ blank
not-task s zero e = refl
not-task s (suc u) e = nth_beyond s.tasks (suc u) (leb-false (suc u) (created s) (rw (lt-ltb 0 (suc u) (omega arith)) at e))

-- a number that is no created task's holds nobody
none_held : (s : State) (t : ℕ) → Sound s → is_task s t ≡ false → held_by s t ≡ []
none_held s t h e =
    nobody (held_by s t) λ c j.
    let q = of_held s c t j in
    let is : is_held (place_of s c) ≡ true = ap is_held q.1 in
    let y : partner_of (place_of s c) ≡ t = ap partner_of q.1 ∙ q.2 in
    let low = holder_low s c h is in
    let high = (held_in s c h is).2 in
    clash (and_both (lt-ltb 0 t (omega (arith, low, y))) (le-leb t (created s) (omega (arith, high, y)))) e

-- what holds of each created task, and of each number that is none's
by_task : (s : State) (P : ℕ → Type 0) → ((t : ℕ) → 0 < t → t ≤ created s → P t) → ((t : ℕ) → is_task s t ≡ false → P t) → (t : ℕ) → P t
by_task s P f g t = by_bool (is_task s t) (λ e. let i = between t (created s) e in f t i.0 i.1) (g t)

pub tops_of : (s : State) → ((t : ℕ) → 0 < t → t ≤ created s → reaches_top s 30 t ≡ true) → NoRing s
tops_of s f = by_task s (λ t. (n : ℕ) × Moves s n t) (λ t a b. top_of s 30 t (f t a b)) (λ t e. (0, ap (λ (x : Task). is_held x.place) (not-task s t e)))

pub agree_of : (s : State) → Sound s → ((t : ℕ) → 0 < t → t ≤ created s → Agrees s t) → Agree s
agree_of s h f =
    by_task s (Agrees s) f
    (λ t e. let n = none_held s t h e in record { kept = rw n tt; current = rw n (ap (λ (x : Task). x.current) (not-task s t e) ∙ sym (ap (λ (x : Task). x.priority) (not-task s t e))) })

pub all_tops : (s : State) → Sound s → NoRing s → (t : ℕ) → reaches_top s 30 t ≡ true
all_tops s h r = by_task s (λ t. reaches_top s 30 t ≡ true) (no_ring_test s h r) (λ t e. top_test s 30 0 t (ap (λ (x : Task). is_held x.place) (not-task s t e)) (omega arith))

pub tree_of : (s : State) → Sound s → ((t : ℕ) → 0 < t → t ≤ created s → tree_right s t ≡ true) → Tree s
tree_of s h f = record {
  agree = agree_of s h λ t a b.
      let e = and_first (agrees s t) (reaches_top s 30 t) (f t a b) in
      let kept = keeps s (priority_of s t) (held_by s t) in
      let current = eqb (current_of s t) (highest_from (current_of s) (priority_of s t) (held_by s t)) in
      record { kept = keeps_of s (priority_of s t) (held_by s t) (and_first kept current e); current = eqb-true _ _ (and_second kept current e) };
  no_ring = tops_of s (λ t a b. and_second (agrees s t) (reaches_top s 30 t) (f t a b));
}

-- ── the highest created priority below, and the current ones of the callers ──

-- one that is m moves below the top has at most 30 - m levels below it: a look one level deeper finds nobody more
deeper : (s : State) (k m t : ℕ) → Sound s → Moves s m t → 30 ≤ k + m → highest_of s k t ≡ highest_of s (suc k) t
unfolding highest_of
deeper s zero m t h a b =
    let e : held_by s t ≡ [] = nobody (held_by s t) (λ c j. let q = of_held s c t j in let i = held_in s c h (ap is_held q.1) in
    omega (arith, b, few_moves s (suc m) c h i.0 i.1 (rw q.1 (refl, rw q.2 a)))) in
    rw e
deeper s (suc k) m t h a b =
    from_alike (highest_of s k) (highest_of s (suc k)) (priority_of s t) (held_by s t)
    (λ c j. let q = of_held s c t j in deeper s k (suc m) c h (rw q.1 (refl, rw q.2 a)) (omega (arith, b)))

-- where each current priority is the highest created one below, it is the highest of the current ones of the callers
pub local_of : (s : State) (t : ℕ) → Sound s → NoRing s → ((u : ℕ) → 0 < u → u ≤ created s → current_of s u ≡ highest_of s 30 u) → 0 < t → t ≤ created s
    → current_of s t ≡ highest_from (current_of s) (priority_of s t) (held_by s t)
unfolding highest_of
local_of s t h r f a b =
    f t a b
    ∙ from_alike (highest_of s 29) (current_of s) (priority_of s t) (held_by s t)
    (λ c j. let q = of_held s c t j in let i = held_in s c h (ap is_held q.1) in
    deeper s 29 (suc (r t).0) c h (rw q.1 (refl, rw q.2 (r t).1)) (omega arith) ∙ sym (f c i.0 i.1))

-- 0 for a number not created
pub highest_none : (s : State) (n t : ℕ) → Sound s → is_task s t ≡ false → highest_of s n t ≡ 0
unfolding highest_of
highest_none s zero t h e = ap (λ (x : Task). x.priority) (not-task s t e)
highest_none s (suc n) t h e = rw (none_held s t h e) (ap (λ (x : Task). x.priority) (not-task s t e))
