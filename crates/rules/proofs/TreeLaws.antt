-- Stored priorities agree with the tree of held callers, and the tree has no ring: kept by every call.
-- Assumes nothing.
use Prim.Native.Nat.{ℕ, zero, suc, ◌≤◌, ◌<◌}
use mathlib.Core.Path.{◌≡◌, refl, sym, ◌∙◌, ap}
use mathlib.Core.Bool.{Bool, true, false, not, ◌&&◌}
use mathlib.Core.List.{List, [], ◌∷◌, ◌++◌, append-nil}
use native.Mathlib.Omega.{arith}
use lib.ListN.{length}
use lib.Dec.{eqb}
use borrow.Author.Tests.{eq-eqb, ne_eqb}
use Rattle.lists.specs.Lists.{when◌then◌else◌, bit, count, remove, last}
use Rattle.rules.specs.State.{State, task_of, place_of, current_of, kept_of, is_held, partner_of, held_by, holds, higher, ranked, placed, rank, move, meet, meeting, part}
use Rattle.rules.specs.Tree.{highest_from}
use Rattle.rules.specs.declared.Task.{Task}
use Rattle.rules.specs.declared.Timer.{Timer}
use Rattle.rules.specs.declared.Timer.TheVariants.{Off}
use Rattle.rules.specs.declared.Meeting.{Meeting}
use Rattle.rules.specs.declared.Place.{Place}
use Rattle.rules.specs.declared.Place.TheVariants.{Blank, Ready, Delayed, Queued, Held, Accepting, Completed}
use Rattle.lists.proofs.ListLaws.{clash, by_eq, count_remove_same, count_filter_no, count_filter_yes, count_filter_le}
use Rattle.rules.proofs.Invariant.{Sound}
use Rattle.rules.proofs.Members.{last_in}
use Rattle.rules.proofs.MoveLaws.{nth_set_same, nth_set_other, task_same, task_other, place_same, place_other, rank_place, rank_length, current_same, current_other}
use Rattle.lists.proofs.MarkLaws.{filter_append, filter_same, filter_swap, remove_absent}

-- ── what the tests of the tree say ──

-- each of the callers, one after the other, keeps what its holder's priority was before it came
abbrev pub Keeps : State → ℕ → List ℕ → Type 0
Keeps s k [] = Unit {0}
Keeps s k (c ∷ l) = (kept_of (place_of s c) ≡ k) × Keeps s (higher k (current_of s c)) l

-- the stored priorities of t agree with those of the callers that it holds
pub record Agrees (s : State) (t : ℕ) : Type 0 where
  pub kept : Keeps s (task_of s t).priority (held_by s t)
  pub current : current_of s t ≡ highest_from (current_of s) (task_of s t).priority (held_by s t)

abbrev pub Agree : State → Type 0
Agree s = (t : ℕ) → Agrees s t

-- n moves from a held task to its holder, and on, lead from t to a task that nobody holds
abbrev pub Moves : State → ℕ → ℕ → Type 0
Moves s zero t = is_held (place_of s t) ≡ false
Moves s (suc n) t = (is_held (place_of s t) ≡ true) × Moves s n (partner_of (place_of s t))

abbrev pub NoRing : State → Type 0
NoRing s = (t : ℕ) → (n : ℕ) × Moves s n t

pub record Tree (s : State) : Type 0 where
  pub agree : Agree s
  pub no_ring : NoRing s

-- ── lists ──

module _ (f : ℕ → ℕ) where
  from_append : (k c : ℕ) (l : List ℕ) → highest_from f k (l ++ (c ∷ [])) ≡ higher (highest_from f k l) (f c)
  from_append k c [] = refl
  from_append k c (x ∷ l) = from_append (higher k (f x)) c l

  pub from_alike : (g : ℕ → ℕ) (k : ℕ) (l : List ℕ) → ((x : ℕ) → 0 < count x l → f x ≡ g x) → highest_from f k l ≡ highest_from g k l
  from_alike g k [] h = refl
  from_alike g k (x ∷ l) h = rw (h x (rw (eq-eqb x x refl) (omega arith))) (from_alike g (higher k (g x)) l (λ y j. h y (omega arith)))

module _ (s : State) where
  keeps_append : (k c : ℕ) (l : List ℕ) → Keeps s k l → kept_of (place_of s c) ≡ highest_from (current_of s) k l → Keeps s k (l ++ (c ∷ []))
  keeps_append k c [] h e = (e, tt)
  keeps_append k c (x ∷ l) h e = (h.0, keeps_append (higher k (current_of s x)) c l h.1 e)

  keeps_front : (k c : ℕ) (l : List ℕ) → Keeps s k (l ++ (c ∷ [])) → Keeps s k l × (kept_of (place_of s c) ≡ highest_from (current_of s) k l)
  keeps_front k c [] h = (tt, h.0)
  keeps_front k c (x ∷ l) h = let r = keeps_front (higher k (current_of s x)) c l h.1 in ((h.0, r.0), r.1)

  pub keeps_alike : (s' : State) (k : ℕ) (l : List ℕ) → ((x : ℕ) → 0 < count x l → (current_of s' x ≡ current_of s x) × (kept_of (place_of s' x) ≡ kept_of (place_of s x))) → Keeps s k l → Keeps s' k l
  keeps_alike s' k [] h j = tt
  keeps_alike s' k (x ∷ l) h j =
      let e = h x (rw (eq-eqb x x refl) (omega arith)) in
      (e.1 ∙ j.0, rw e.0 (keeps_alike s' (higher k (current_of s x)) l (λ y i. h y (omega arith)) j.1))

-- the last of a list, if it stands there once, behind the others
last_behind : (c : ℕ) (l : List ℕ) → last l ≡ suc c → count (suc c) l ≡ 1 → remove (suc c) l ++ (suc c ∷ []) ≡ l
last_behind c [] e h = absurd (omega arith)
last_behind c (x ∷ []) e h = rw (eq-eqb x (suc c) e) (ap (λ (y : ℕ). y ∷ []) (sym e))
last_behind c (x ∷ y ∷ ys) e h =
    by_eq x (suc c)
    (λ q. absurd (omega (arith, rw (eq-eqb x (suc c) q) at h, last_in c (y ∷ ys) e)))
    (λ n. let m = ne_eqb x (suc c) n in rw m (ap (λ (l : List ℕ). x ∷ l) (last_behind c (y ∷ ys) e (omega (arith, rw m at h)))))

not-held-kept : (p : Place) → is_held p ≡ false → kept_of p ≡ 0
not-held-kept Blank e = refl
not-held-kept Ready e = refl
not-held-kept Delayed e = refl
not-held-kept (Queued q) e = refl
not-held-kept (Held m) e = clash refl e
not-held-kept (Accepting o) e = refl
not-held-kept Completed e = refl

-- ── nothing changes in the tree ──

pub record Quiet (s s' : State) : Type 0 where
  pub held : (x : ℕ) → held_by s' x ≡ held_by s x
  pub priority : (x : ℕ) → (task_of s' x).priority ≡ (task_of s x).priority
  pub current : (x : ℕ) → current_of s' x ≡ current_of s x
  pub kept : (x : ℕ) → kept_of (place_of s' x) ≡ kept_of (place_of s x)
  pub isheld : (x : ℕ) → is_held (place_of s' x) ≡ is_held (place_of s x)
  pub holder : (x : ℕ) → is_held (place_of s x) ≡ true → partner_of (place_of s' x) ≡ partner_of (place_of s x)

pub quiet_agree : (s s' : State) → Quiet s s' → Agree s → Agree s'
quiet_agree s s' q a t = record {
  kept = rw (q.held t, q.priority t) (keeps_alike s s' (task_of s t).priority (held_by s t) (λ x _. (q.current x, q.kept x)) (a t).kept);
  current = rw (q.current t, q.held t, q.priority t) ((a t).current ∙ sym (from_alike (current_of s') (current_of s) (task_of s t).priority (held_by s t) (λ x _. q.current x)));
}

quiet_moves : (s s' : State) → Quiet s s' → (n t : ℕ) → Moves s n t → Moves s' n t
quiet_moves s s' q zero t h = q.isheld t ∙ h
quiet_moves s s' q (suc n) t h = (q.isheld t ∙ h.0, rw (q.holder t h.0) (quiet_moves s s' q n (partner_of (place_of s t)) h.1))

pub quiet_no_ring : (s s' : State) → Quiet s s' → NoRing s → NoRing s'
quiet_no_ring s s' q h t = ((h t).0, quiet_moves s s' q (h t).0 t (h t).1)

pub quiet_refl : (s : State) → Quiet s s
quiet_refl s = record { held = λ _. refl; priority = λ _. refl; current = λ _. refl; kept = λ _. refl; isheld = λ _. refl; holder = λ _ _. refl }

pub quiet_trans : (s t u : State) → Quiet s t → Quiet t u → Quiet s u
quiet_trans s t u a b = record {
  held = λ x. b.held x ∙ a.held x;
  priority = λ x. b.priority x ∙ a.priority x;
  current = λ x. b.current x ∙ a.current x;
  kept = λ x. b.kept x ∙ a.kept x;
  isheld = λ x. b.isheld x ∙ a.isheld x;
  holder = λ x h. b.holder x (a.isheld x ∙ h) ∙ a.holder x h;
}

-- a move from a place where it is not held to another
module _ (s : State) (t : ℕ) (p : Place) (w : Timer) (pos : 0 < t) (fit : t ≤ length s.tasks) (h : Sound s) (old : is_held (place_of s t) ≡ false) where
  absent : count t s.held ≡ 0
  absent = h.held t ∙ ap bit old

  holds_same : (f : Place → Bool) → (x : ℕ) → 0 < count x s.held → f (place_of (move s t p w) x) ≡ f (place_of s x)
  holds_same f x j = ap f (place_other s t p w x (λ e. omega (arith, absent, rw e at j)))

  pub quiet_move : is_held p ≡ false → Quiet s (move s t p w)
  quiet_move new = record {
    held = λ x. rw (new, remove_absent t s.held absent)
        (filter_same (holds (move s t p w) x) (holds s x) s.held
        (holds_same (λ y. is_held y && eqb (partner_of y) x)));
    priority = λ x. by_eq x t (λ e. rw e (ap (λ (y : Task). y.priority) (task_same s t p w pos fit))) (λ n. ap (λ (y : Task). y.priority) (task_other s t p w x n));
    current = λ x. by_eq x t (λ e. rw e (ap (λ (y : Task). y.current) (task_same s t p w pos fit))) (λ n. ap (λ (y : Task). y.current) (task_other s t p w x n));
    kept = λ x. by_eq x t (λ e. rw e (ap kept_of (place_same s t p w pos fit) ∙ not-held-kept p new ∙ sym (not-held-kept (place_of s t) old))) (λ n. ap kept_of (place_other s t p w x n));
    isheld = λ x. by_eq x t (λ e. rw e (ap is_held (place_same s t p w pos fit) ∙ new ∙ sym old)) (λ n. ap is_held (place_other s t p w x n));
    holder = λ x k. by_eq x t (λ e. clash k (ap (λ (y : ℕ). is_held (place_of s y)) e ∙ old)) (λ n. ap partner_of (place_other s t p w x n));
  }

-- ── the beginning and the end of a rendezvous have one form: g's current priority becomes n, and c goes to the place p ──

module _ (s : State) (g n c : ℕ) (p : Place) (low : 0 < g) (high : g ≤ length s.tasks) (pos : 0 < c) (fit : c ≤ length s.tasks) where
  abbrev shift : State
  shift = move (rank s g n) c p Off

  fit2 : c ≤ length (rank s g n).tasks
  fit2 = omega (arith, fit, rank_length s g n low high)

  shift_other : (x : ℕ) → (x ≡ c → ⊥) → place_of shift x ≡ place_of s x
  shift_other x m = place_other (rank s g n) c p Off x m ∙ rank_place s g n low high x

  shift_same : place_of shift c ≡ p
  shift_same = place_same (rank s g n) c p Off pos fit2

  -- in all but the places, the move of c changes nothing
  shift_field {ℓ} : {A : Type ℓ} (f : Task → A) → ((y : Task) (p : Place) (w : Timer) → f (placed y p w) ≡ f y) → (x : ℕ) → f (task_of shift x) ≡ f (task_of (rank s g n) x)
  shift_field f k x =
      by_eq x c
      (λ q. rw q (ap f (task_same (rank s g n) c p Off pos fit2) ∙ k (task_of (rank s g n) c) p Off))
      (λ m. ap f (task_other (rank s g n) c p Off x m))

  shift_priority : (x : ℕ) → (task_of shift x).priority ≡ (task_of s x).priority
  shift_priority x =
      shift_field (λ y. y.priority) (λ y p w. refl) x
      ∙ by_eq x g
      (λ q. rw q (ap (λ (y : Task). y.priority) (nth_set_same s.tasks g (ranked (task_of s g) n) low high)))
      (λ m. ap (λ (y : Task). y.priority) (nth_set_other s.tasks g (ranked (task_of s g) n) x m))

  shift_current : (x : ℕ) → (x ≡ g → ⊥) → current_of shift x ≡ current_of s x
  shift_current x m = shift_field (λ y. y.current) (λ y p w. refl) x ∙ current_other s g n low high x m

  shift_set : current_of shift g ≡ n
  shift_set = shift_field (λ y. y.current) (λ y p w. refl) g ∙ current_same s g n low high

pub in_line : (s : State) (x y : ℕ) → 0 < count x (held_by s y) → 0 < count x s.held
in_line s x y j = omega (arith, j, count_filter_le (holds s y) x s.held)

-- ── a rendezvous begins: g, whom nobody holds, takes c, whom nobody holds ──

module _ (s : State) (g c e : ℕ) (low : 0 < g) (high : g ≤ length s.tasks) (pos : 0 < c) (fit : c ≤ length s.tasks) (h : Sound s)
    (free : is_held (place_of s g) ≡ false) (loose : is_held (place_of s c) ≡ false) (apart : g ≡ c → ⊥) where
  abbrev n : ℕ
  n = higher (current_of s g) (current_of s c)

  abbrev p : Place
  p = Held (meeting g e (current_of s g))

  abbrev s2 : State
  s2 = meet s g c e

  not-c : (x : ℕ) → 0 < count x s.held → x ≡ c → ⊥
  not-c x j q = omega (arith, h.held c ∙ ap bit loose, rw q at j)

  not-g : (x : ℕ) → 0 < count x s.held → x ≡ g → ⊥
  not-g x j q = omega (arith, h.held g ∙ ap bit free, rw q at j)

  -- the callers of g are those before, and c
  held2 : (x : ℕ) → held_by s2 x ≡ held_by s x ++ (when eqb g x then c ∷ [] else [])
  held2 x =
      rw (remove_absent c s.held (h.held c ∙ ap bit loose), filter_append (holds s2 x) s.held (c ∷ []), shift_same s g n c p low high pos fit)
      (ap (λ (l : List ℕ). l ++ (when eqb g x then c ∷ [] else []))
      (filter_same (holds s2 x) (holds s x) s.held (λ y j. ap (λ (q : Place). is_held q && eqb (partner_of q) x) (shift_other s g n c p low high pos fit y (not-c y j)))))

  -- of the callers that were held before, none has changed
  same2 : (x y : ℕ) → 0 < count x (held_by s y) → (current_of s2 x ≡ current_of s x) × (kept_of (place_of s2 x) ≡ kept_of (place_of s x))
  same2 x y j =
      let k = in_line s x y j in
      (shift_current s g n c p low high pos fit x (not-g x k), ap kept_of (shift_other s g n c p low high pos fit x (not-c x k)))

  from2 : (k y : ℕ) → highest_from (current_of s2) k (held_by s y) ≡ highest_from (current_of s) k (held_by s y)
  from2 k y = from_alike (current_of s2) (current_of s) k (held_by s y) (λ x j. (same2 x y j).0)

  pub meet_agree : Agree s → Agree s2
  meet_agree a t = by_eq g t (λ q. rw (← q) mine) other
    where
      o : ℕ
      o = (task_of s g).priority

      mine : Agrees s2 g
      mine = record {
        kept = rw (held2 g, eq-eqb g g refl, shift_priority s g n c p low high pos fit g)
            (keeps_append s2 o c (held_by s g) (keeps_alike s s2 o (held_by s g) (λ x j. same2 x g j) (a g).kept)
            (ap kept_of (shift_same s g n c p low high pos fit) ∙ (a g).current ∙ sym (from2 o g)));
        current = rw (held2 g, eq-eqb g g refl, shift_priority s g n c p low high pos fit g)
            (shift_set s g n c p low high pos fit
            ∙ sym (from_append (current_of s2) o c (held_by s g) ∙ rw (from2 o g, ← (a g).current, shift_current s g n c p low high pos fit c (λ q. apart (sym q)))));
      }

      other : (g ≡ t → ⊥) → Agrees s2 t
      other m =
          let l : held_by s2 t ≡ held_by s t = held2 t ∙ rw (ne_eqb g t m) (append-nil (held_by s t)) in
          record {
            kept = rw (l, shift_priority s g n c p low high pos fit t) (keeps_alike s s2 (task_of s t).priority (held_by s t) (λ x j. same2 x t j) (a t).kept);
            current = rw (l, shift_priority s g n c p low high pos fit t) (shift_current s g n c p low high pos fit t (λ q. m (sym q)) ∙ (a t).current ∙ sym (from2 (task_of s t).priority t));
          }

  moves2 : (k t : ℕ) → Moves s k t → (m : ℕ) × Moves s2 m t
  moves2 zero t i =
      by_eq t c
      (λ q. rw q (1, (ap is_held (shift_same s g n c p low high pos fit), rw (shift_same s g n c p low high pos fit) (ap is_held (shift_other s g n c p low high pos fit g apart) ∙ free))))
      (λ m. (0, ap is_held (shift_other s g n c p low high pos fit t m) ∙ i))
  moves2 (suc k) t i =
      let j = moves2 k (partner_of (place_of s t)) i.1 in
      let q = shift_other s g n c p low high pos fit t (λ q. clash i.0 (ap (λ (y : ℕ). is_held (place_of s y)) q ∙ loose)) in
      (suc j.0, (ap is_held q ∙ i.0, rw q j.1))

  pub meet_no_ring : NoRing s → NoRing s2
  meet_no_ring i t = moves2 (i t).0 t (i t).1

-- ── and ends: c was the last that g holds ──

module _ (s : State) (g c : ℕ) (low : 0 < g) (high : g ≤ length s.tasks) (pos : 0 < suc c) (fit : suc c ≤ length s.tasks) (h : Sound s)
    (free : is_held (place_of s g) ≡ false) (m : Meeting) (is : place_of s (suc c) ≡ Held m) (by : m.holder ≡ g) (latest : last (held_by s g) ≡ suc c) where
  abbrev k : ℕ
  k = kept_of (place_of s (suc c))

  abbrev s3 : State
  s3 = part s g (suc c)

  free_g : (x : ℕ) → 0 < count x s.held → x ≡ g → ⊥
  free_g x j q = omega (arith, h.held g ∙ ap bit free, rw q at j)

  -- the callers of each are those before, without c
  held3 : (x : ℕ) → held_by s3 x ≡ remove (suc c) (held_by s x)
  held3 x =
      filter_same (holds s3 x) (holds s x) (remove (suc c) s.held)
      (λ y j. ap (λ (q : Place). is_held q && eqb (partner_of q) x) (shift_other s g k (suc c) Ready low high pos fit y (λ q. omega (arith, count_remove_same (suc c) s.held, rw q at j))))
      ∙ filter_swap (holds s x) (λ y. not (eqb y (suc c))) s.held

  same3 : (x y : ℕ) → 0 < count x (held_by s y) → (x ≡ suc c → ⊥) → (current_of s3 x ≡ current_of s x) × (kept_of (place_of s3 x) ≡ kept_of (place_of s x))
  same3 x y j n =
      (shift_current s g k (suc c) Ready low high pos fit x (free_g x (in_line s x y j)), ap kept_of (shift_other s g k (suc c) Ready low high pos fit x n))

  pub part_agree : Agree s → Agree s3
  part_agree a t = by_eq g t (λ q. rw (← q) mine) other
    where
      o : ℕ
      o = (task_of s g).priority

      l : List ℕ
      l = remove (suc c) (held_by s g)

      kept_alike : (x : ℕ) → 0 < count x l → (current_of s3 x ≡ current_of s x) × (kept_of (place_of s3 x) ≡ kept_of (place_of s x))
      kept_alike x j =
          same3 x g (omega (arith, j, count_filter_le (λ y. not (eqb y (suc c))) x (held_by s g))) (λ q. omega (arith, count_remove_same (suc c) (held_by s g), rw q at j))

      once : count (suc c) (held_by s g) ≡ 1
      once = count_filter_yes (holds s g) (suc c) s.held (rw (is, by, eq-eqb g g refl)) ∙ h.held (suc c) ∙ rw is

      front : Keeps s o l × (kept_of (place_of s (suc c)) ≡ highest_from (current_of s) o l)
      front = keeps_front s o (suc c) l (rw (last_behind c (held_by s g) latest once) (a g).kept)

      mine : Agrees s3 g
      mine = record {
        kept = rw (held3 g, shift_priority s g k (suc c) Ready low high pos fit g) (keeps_alike s s3 o l kept_alike front.0);
        current = rw (held3 g, shift_priority s g k (suc c) Ready low high pos fit g)
            (shift_set s g k (suc c) Ready low high pos fit ∙ front.1 ∙ sym (from_alike (current_of s3) (current_of s) o l (λ x j. (kept_alike x j).0)));
      }

      other : (g ≡ t → ⊥) → Agrees s3 t
      other n =
          let z : count (suc c) (held_by s t) ≡ 0 = count_filter_no (holds s t) (suc c) s.held (rw (is, by, ne_eqb g t n)) in
          let e : held_by s3 t ≡ held_by s t = held3 t ∙ remove_absent (suc c) (held_by s t) z in
          let d : (x : ℕ) → 0 < count x (held_by s t) → x ≡ suc c → ⊥ = (λ x j q. omega (arith, z, rw q at j)) in
          record {
            kept = rw (e, shift_priority s g k (suc c) Ready low high pos fit t) (keeps_alike s s3 (task_of s t).priority (held_by s t) (λ x j. same3 x t j (d x j)) (a t).kept);
            current = rw (e, shift_priority s g k (suc c) Ready low high pos fit t)
                (shift_current s g k (suc c) Ready low high pos fit t (λ q. n (sym q)) ∙ (a t).current ∙ sym (from_alike (current_of s3) (current_of s) (task_of s t).priority (held_by s t) (λ x j. (same3 x t j (d x j)).0)));
          }

  moves3 : (i t : ℕ) → Moves s i t → (j : ℕ) × Moves s3 j t
  moves3 zero t w = (0, ap is_held (shift_other s g k (suc c) Ready low high pos fit t (λ q. clash (ap is_held is) (ap (λ (y : ℕ). is_held (place_of s y)) (sym q) ∙ w))) ∙ w)
  moves3 (suc i) t w =
      let j = moves3 i (partner_of (place_of s t)) w.1 in
      by_eq t (suc c)
      (λ q. rw q (0, ap is_held (shift_same s g k (suc c) Ready low high pos fit)))
      (λ n. let q = shift_other s g k (suc c) Ready low high pos fit t n in (suc j.0, (ap is_held q ∙ w.0, rw q j.1)))

  pub part_no_ring : NoRing s → NoRing s3
  part_no_ring i t = moves3 (i t).0 t (i t).1
