-- A move keeps soundness: proved once, and every step is made of moves.
-- Assumes nothing.
use Prim.Native.Nat.{ℕ, zero, suc, ◌≤◌, ◌<◌, ◌^◌}
use mathlib.Core.Path.{◌≡◌, refl, sym, ◌∙◌, ap, subst}
use mathlib.Core.Bool.{Bool, true, false, not}
use mathlib.Core.List.{List, [], ◌∷◌}
use native.Mathlib.Omega.{arith}
use lib.ListN.{length, length-set}
use lib.Seq.{get_or-set_same, get_or-set_other}
use lib.Dec.{eqb, ltb}
use borrow.Author.Tests.{eq-eqb, ne_eqb, le-ltb, ltb-true}
use Rattle.lists.specs.Lists.{bit, count, remove, rejoin, to_head}
use Rattle.rules.specs.State.{State, blank, nth, set_nth, task_of, place_of, timer_of, current_of, is_ready, is_queued, is_held, is_completed, partner_of, kept_of, accepts, has_time, ticks_left, left, retime, placed, ranked, rank, higher, move, meeting, meet, part, wake, opens}
use Rattle.rules.specs.SoundFacts.{InPriorities}
use Rattle.rules.specs.declared.Task.{Task}
use Rattle.rules.specs.declared.Timer.{Timer}
use Rattle.rules.specs.declared.Timer.TheVariants.{Off, Due}
use Rattle.rules.specs.declared.Waiting.{Waiting}
use Rattle.rules.specs.declared.Meeting.{Meeting}
use Rattle.rules.specs.declared.Offer.{Offer}
use Rattle.rules.specs.declared.Place.{Place}
use Rattle.rules.specs.declared.Place.TheVariants.{Blank, Ready, Delayed, Queued, Held, Accepting, Completed}
use Rattle.lists.proofs.ListLaws.{clash, by_eq, by_test, count_append, count_remove_same, count_remove_other, count_insert, Ordered, ordered_filter, ordered_cong, ordered_insert}
use Rattle.rules.proofs.Invariant.{Lined, Timed, Calls, Fits, InTime, InRange, GoodAt, Sound}

-- ── the tasks after one is set ──

pub nth_set_same : (l : List Task) (t : ℕ) (x : Task) → 0 < t → t ≤ length l → nth (set_nth l t x) t ≡ x
nth_set_same l zero x h k = absurd (omega arith)
nth_set_same l (suc t) x h k = get_or-set_same l t x blank (omega arith)

pub nth_set_other : (l : List Task) (t : ℕ) (x : Task) (u : ℕ) → (u ≡ t → ⊥) → nth (set_nth l t x) u ≡ nth l u
nth_set_other l zero x u n = refl
nth_set_other l (suc t) x zero n = refl
nth_set_other l (suc t) x (suc u) n = get_or-set_other l t u x blank (λ e. n (ap suc e))

pub length_set_nth : (l : List Task) (t : ℕ) (x : Task) → length (set_nth l t x) ≡ length l
length_set_nth l zero x = refl
length_set_nth l (suc t) x = length-set l t x

-- ── the lines ──

module _ (ts : List Task) (t : ℕ) (x : Task) (pos : 0 < t) (fit : t ≤ length ts) where
  rejoin_count : (b : Bool) (u : ℕ) (l : List ℕ) → (u ≡ t → ⊥) → count u (rejoin b t l) ≡ count u l
  rejoin_count true u l n = count_append u (remove t l) (t ∷ []) ∙ rw (count_remove_other t u l n, ne_eqb t u (λ e. n (sym e))) (omega arith)
  rejoin_count false u l n = count_remove_other t u l n

  rejoin_self : (b : Bool) (l : List ℕ) → count t (rejoin b t l) ≡ bit b
  rejoin_self true l = count_append t (remove t l) (t ∷ []) ∙ rw (count_remove_same t l, eq-eqb t t refl)
  rejoin_self false l = count_remove_same t l

  pub lined_move : (P : Place → Bool) (l : List ℕ) → Lined P ts l → Lined P (set_nth ts t x) (rejoin (P x.place) t l)
  lined_move P l h u =
      by_eq u t
      (λ e. rw (e, nth_set_same ts t x pos fit) (rejoin_self (P x.place) l))
      (λ n. rw (nth_set_other ts t x u n, rejoin_count (P x.place) u l n) (h u))

  retime_count : (now : ℕ) (w : Timer) (u : ℕ) (l : List ℕ) → (u ≡ t → ⊥) → count u (retime now ts w t l) ≡ count u l
  retime_count now Off u l n = count_remove_other t u l n
  retime_count now (Due d) u l n = count_insert _ t u (remove t l) ∙ rw (count_remove_other t u l n, ne_eqb t u (λ e. n (sym e))) (omega arith)

  retime_self : (now : ℕ) (w : Timer) (l : List ℕ) → count t (retime now ts w t l) ≡ bit (has_time w)
  retime_self now Off l = count_remove_same t l
  retime_self now (Due d) l = count_insert _ t t (remove t l) ∙ rw (count_remove_same t l, eq-eqb t t refl)

  pub timed_move : (now : ℕ) (l : List ℕ) → Timed ts l → Timed (set_nth ts t x) (retime now ts x.timer t l)
  timed_move now l h u =
      by_eq u t
      (λ e. rw (e, nth_set_same ts t x pos fit) (retime_self now x.timer l))
      (λ n. rw (nth_set_other ts t x u n, retime_count now x.timer u l n) (h u))

  pub order_move : (now : ℕ) (l : List ℕ) → Ordered (λ u. ticks_left now (nth ts u).timer) l
      → Ordered (λ u. ticks_left now (nth (set_nth ts t x) u).timer) (retime now ts x.timer t l)
  order_move now l o = go x.timer refl
    where
      key : ℕ → ℕ
      key u = ticks_left now (nth (set_nth ts t x) u).timer

      other : (u : ℕ) → 0 < count u (remove t l) → u ≡ t → ⊥
      other u j e = omega (arith, count_remove_same t l, rw e at j)

      same : (u : ℕ) → 0 < count u (remove t l) → ticks_left now (nth ts u).timer ≡ key u
      same u j = rw (nth_set_other ts t x u (other u j))

      kept : Ordered key (remove t l)
      kept =
          ordered_cong (λ u. ticks_left now (nth ts u).timer) key (remove t l) (λ u v i j h. omega (arith, h, same u i, same v j))
          (ordered_filter (λ u. ticks_left now (nth ts u).timer) (λ u. not (eqb u t)) l o)

      go : (w : Timer) → x.timer ≡ w → Ordered key (retime now ts w t l)
      go Off e = kept
      go (Due d) e =
          ordered_insert key (λ u. ltb (left now d) (ticks_left now (nth ts u).timer)) t (remove t l)
          (λ u j. rw (same u j, nth_set_same ts t x pos fit, e)) kept

  -- whoever has called t is still right to
  abbrev pub Welcome : Type 0
  Welcome = (u : ℕ) → (u ≡ t → ⊥) → partner_of (nth ts u).place ≡ t
      → Fits (nth ts u) (nth ts t) (nth ts u).place (nth ts u).timer → Fits (nth ts u) x (nth ts u).place (nth ts u).timer

  pub good_move : (now u : ℕ) → Welcome → (u ≡ t → ⊥) → GoodAt now ts u → GoodAt now (set_nth ts t x) u
  good_move now u h n k =
      rw (nth_set_other ts t x u n)
      (by_eq (partner_of (nth ts u).place) t
      (λ e. record { numbers = k.numbers; place = rw (e, nth_set_same ts t x pos fit) (h u n e (rw e at k.place)); time = k.time })
      (λ m. rw (nth_set_other ts t x (partner_of (nth ts u).place) m) k))

-- in the same place, with the same time
pub record Alike (x y : Task) : Type 0 where
  pub place : y.place ≡ x.place
  pub timer : y.timer ≡ x.timer

pub alike : {x y : Task} → y ≡ x → Alike x y
alike e = record { place = ap (λ (z : Task). z.place) e; timer = ap (λ (z : Task). z.timer) e }

pub alike_trans : {x y z : Task} → Alike x y → Alike y z → Alike x z
alike_trans a b = record { place = b.place ∙ a.place; timer = b.timer ∙ a.timer }

-- ── the move ──

-- task t as it is after its move
abbrev pub moved : State → ℕ → Place → Timer → Task
moved s t p w = placed (task_of s t) p w

module _ (s : State) (t : ℕ) (p : Place) (w : Timer) where
  pub task_same : 0 < t → t ≤ length s.tasks → task_of (move s t p w) t ≡ moved s t p w
  task_same pos fit = nth_set_same s.tasks t (moved s t p w) pos fit

  pub task_other : (u : ℕ) → (u ≡ t → ⊥) → task_of (move s t p w) u ≡ task_of s u
  task_other u n = nth_set_other s.tasks t (moved s t p w) u n

  pub place_same : 0 < t → t ≤ length s.tasks → place_of (move s t p w) t ≡ p
  place_same pos fit = ap (λ (x : Task). x.place) (task_same pos fit)

  pub place_other : (u : ℕ) → (u ≡ t → ⊥) → place_of (move s t p w) u ≡ place_of s u
  place_other u n = ap (λ (x : Task). x.place) (task_other u n)

  pub length_move : length (move s t p w).tasks ≡ length s.tasks
  length_move = length_set_nth s.tasks t (moved s t p w)

numbers_placed : {x : Task} {p : Place} {w : Timer} → InRange x → InRange (placed x p w)
numbers_placed n = record { own = n.own; current = n.current; few = n.few }

module _ (s : State) (t : ℕ) (p : Place) (w : Timer) (pos : 0 < t) (fit : t ≤ length s.tasks) where
  pub move-sound : Sound s → Fits (moved s t p w) (task_of (move s t p w) (partner_of p)) p w → InTime s.clock w
      → Welcome s.tasks t (moved s t p w) pos fit → Sound (move s t p w)
  move-sound h f i k = record {
    clock = h.clock;
    few = omega (arith, h.few, length_set_nth s.tasks t (moved s t p w));
    good = λ u a b. by_eq u t
        (λ e. rw (e, nth_set_same s.tasks t (moved s t p w) pos fit) (record { numbers = numbers_placed (h.good t pos fit).numbers; place = f; time = i }))
        (λ n. good_move s.tasks t (moved s t p w) pos fit s.clock u k n (h.good u a (omega (arith, b, length_set_nth s.tasks t (moved s t p w)))));
    ready = lined_move s.tasks t (moved s t p w) pos fit is_ready s.ready h.ready;
    callers = lined_move s.tasks t (moved s t p w) pos fit is_queued s.callers h.callers;
    held = lined_move s.tasks t (moved s t p w) pos fit is_held s.held h.held;
    delays = timed_move s.tasks t (moved s t p w) pos fit s.clock s.delays h.delays;
    order = order_move s.tasks t (moved s t p w) pos fit s.clock s.delays h.order;
  }

-- whoever has called t is still right to, where those queued on it and those held by it are
welcome_by : (ts : List Task) (t : ℕ) (x : Task) (pos : 0 < t) (fit : t ≤ length ts)
    → ((u : ℕ) (q : Waiting) → (nth ts u).place ≡ Queued q → q.target ≡ t → Calls (nth ts t) q.entry → Calls x q.entry × (accepts x.place q.entry ≡ false))
    → ((u : ℕ) (m : Meeting) → (nth ts u).place ≡ Held m → m.holder ≡ t → Calls (nth ts t) m.entry → Calls x m.entry) → Welcome ts t x pos fit
welcome_by ts t x pos fit a b u n g h = go (nth ts u).place refl g h
  where
    go : (p : Place) → (nth ts u).place ≡ p → partner_of p ≡ t → Fits (nth ts u) (nth ts t) p (nth ts u).timer → Fits (nth ts u) x p (nth ts u).timer
    go Blank e g f = f
    go Ready e g f = f
    go Delayed e g f = f
    go (Queued q) e g f = a u q e g f.0
    go (Held m) e g f = (b u m e g f.0, f.1, f.2)
    go (Accepting o) e g f = f
    go Completed e g f = f

-- a task with the same entries that has not completed may be called as before
calls_kept : {x y : Task} → y.entries ≡ x.entries → is_completed y.place ≡ false → (e : ℕ) → Calls x e → Calls y e
calls_kept en nc e c = record { low = c.low; high = omega (arith, c.high, en); alive = nc }

-- a place in which a task neither has completed nor accepts: whoever has called it may stay
pub welcome_plain : (ts : List Task) (t : ℕ) (x : Task) (pos : 0 < t) (fit : t ≤ length ts) → x.entries ≡ (nth ts t).entries
    → is_completed x.place ≡ false → ((e : ℕ) → accepts x.place e ≡ false) → Welcome ts t x pos fit
welcome_plain ts t x pos fit en nc na =
    welcome_by ts t x pos fit (λ u q e g c. (calls_kept en nc q.entry c, na q.entry)) (λ u m e g c. calls_kept en nc m.entry c)

-- ── another current priority ──

count_to_head : (t u : ℕ) (l : List ℕ) → count t l ≡ 1 → count u (to_head t l) ≡ count u l
count_to_head t u l h =
    by_eq u t
    (λ e. subst (λ (x : ℕ). count x (to_head t l) ≡ count x l) (sym e) (rw (eq-eqb t t refl, count_remove_same t l) (omega (arith, h))))
    (λ n. rw (ne_eqb t u (λ e. n (sym e)), count_remove_other t u l n) (omega arith))

-- the higher of two is not lower than the first
pub higher_not_lower : (a b : ℕ) → ltb (higher a b) a ≡ false
higher_not_lower a b = by_test (λ (x : ℕ). ltb x a ≡ false) (ltb a b) (λ e. le-ltb b a (omega (arith, ltb-true a b e))) (λ _. le-ltb a a (omega arith))

-- what a place asks depends on the entries of the one, and on the entries and the place of the other
fits-same : (me me' g g' : Task) (p : Place) (w : Timer) → me.entries ≡ me'.entries → g.entries ≡ g'.entries → g.place ≡ g'.place → Fits me g p w → Fits me' g' p w
fits-same me me' g g' p w a b c f = go p f
  where
    kept : (e : ℕ) → Calls g e → Calls g' e
    kept e k = record { low = k.low; high = omega (arith, k.high, b); alive = rw (← c) k.alive }

    go : (p : Place) → Fits me g p w → Fits me' g' p w
    go Blank f = f
    go Ready f = f
    go Delayed f = f
    go (Queued q) f = (kept q.entry f.0, rw (← c) f.1)
    go (Held m) f = (kept m.entry f.0, f.1, f.2)
    go (Accepting o) f = (rw (← a) f.0, f.1)
    go Completed f = f

module _ (s : State) (t n : ℕ) (pos : 0 < t) (fit : t ≤ length s.tasks) where
  -- all but the current priority is as it was
  rank_keeps {ℓ} : {A : Type ℓ} (f : Task → A) → f (ranked (task_of s t) n) ≡ f (task_of s t) → (u : ℕ) → f (task_of (rank s t n) u) ≡ f (task_of s u)
  rank_keeps f e u =
      by_eq u t
      (λ q. rw q (ap f (nth_set_same s.tasks t (ranked (task_of s t) n) pos fit) ∙ e))
      (λ m. ap f (nth_set_other s.tasks t (ranked (task_of s t) n) u m))

  pub rank_place : (u : ℕ) → place_of (rank s t n) u ≡ place_of s u
  rank_place u = rank_keeps (λ x. x.place) refl u

  pub rank_timer : (u : ℕ) → timer_of (rank s t n) u ≡ timer_of s u
  rank_timer u = rank_keeps (λ x. x.timer) refl u

  pub rank_entries : (u : ℕ) → (task_of (rank s t n) u).entries ≡ (task_of s u).entries
  rank_entries u = rank_keeps (λ x. x.entries) refl u

  pub rank_alike : (u : ℕ) → Alike (task_of s u) (task_of (rank s t n) u)
  rank_alike u = record { place = rank_place u; timer = rank_timer u }

  pub current_same : current_of (rank s t n) t ≡ n
  current_same = ap (λ (x : Task). x.current) (nth_set_same s.tasks t (ranked (task_of s t) n) pos fit)

  pub current_other : (u : ℕ) → (u ≡ t → ⊥) → current_of (rank s t n) u ≡ current_of s u
  current_other u m = ap (λ (x : Task). x.current) (nth_set_other s.tasks t (ranked (task_of s t) n) u m)

  pub rank_length : length (rank s t n).tasks ≡ length s.tasks
  rank_length = length_set_nth s.tasks t (ranked (task_of s t) n)

  -- one that is lowered is ready
  pub rank_sound : InPriorities n → (ltb n (current_of s t) ≡ true → is_ready (place_of s t) ≡ true) → Sound s → Sound (rank s t n)
  rank_sound i f h = record {
    clock = h.clock;
    few = omega (arith, h.few, rank_length);
    good = λ u a b. let g = h.good u a (omega (arith, b, rank_length)) in record {
      numbers = record {
        own = rw (rank_keeps (λ x. x.priority) refl u) g.numbers.own;
        current = by_eq u t (λ q. rw (q, nth_set_same s.tasks t (ranked (task_of s t) n) pos fit) i) (λ m. rw (nth_set_other s.tasks t (ranked (task_of s t) n) u m) g.numbers.current);
        few = rw (rank_entries u) g.numbers.few;
      };
      place = rw (rank_place u, rank_timer u) (fits-same (task_of s u) (task_of (rank s t n) u) (task_of s (partner_of (place_of s u))) (task_of (rank s t n) (partner_of (place_of s u))) (place_of s u) (timer_of s u)
          (sym (rank_entries u)) (sym (rank_entries (partner_of (place_of s u)))) (sym (rank_place (partner_of (place_of s u)))) g.place);
      time = rw (rank_timer u) g.time;
    };
    ready = λ u. by_test (λ l. count u l ≡ bit (is_ready (place_of (rank s t n) u))) (ltb n (current_of s t)) (λ e. count_to_head t u s.ready (h.ready t ∙ ap bit (f e)) ∙ ready u) (λ _. ready u);
    callers = λ u. rw (rank_place u) (h.callers u);
    held = λ u. rw (rank_place u) (h.held u);
    delays = λ u. rw (rank_timer u) (h.delays u);
    order = ordered_cong (λ u. ticks_left s.clock (timer_of s u)) (λ u. ticks_left s.clock (timer_of (rank s t n) u)) s.delays
        (λ x y _ _ k. rw (rank_timer x, rank_timer y) k) h.order;
  }
    where
      ready : (u : ℕ) → count u s.ready ≡ bit (is_ready (place_of (rank s t n) u))
      ready u = rw (rank_place u) (h.ready u)

-- ── the moves that steps are made of ──

pub wake_sound : (s : State) (t : ℕ) → 0 < t → t ≤ length s.tasks → Sound s → Sound (wake s t)
wake_sound s t pos fit h = move-sound s t Ready Off pos fit h refl tt (welcome_plain s.tasks t (moved s t Ready Off) pos fit refl refl (λ e. refl))

pub delay_sound : (s : State) (t d : ℕ) → 0 < t → t ≤ length s.tasks → Sound s → InTime s.clock (Due d) → Sound (move s t Delayed (Due d))
delay_sound s t d pos fit h i =
    move-sound s t Delayed (Due d) pos fit h refl i (welcome_plain s.tasks t (moved s t Delayed (Due d)) pos fit refl refl (λ e. refl))

-- the called task, if it is t itself, has not changed in what a call asks of it
calls_after : (s : State) (t g e : ℕ) (p : Place) (w : Timer) → 0 < t → t ≤ length s.tasks → is_completed p ≡ false → Calls (task_of s g) e → Calls (task_of (move s t p w) g) e
calls_after s t g e p w pos fit nc c =
    by_eq g t
    (λ q. rw (q, nth_set_same s.tasks t (moved s t p w) pos fit) (record { low = c.low; high = rw q at c.high; alive = nc }))
    (λ n. rw (nth_set_other s.tasks t (moved s t p w) g n) c)

accepts_after : (s : State) (t g e : ℕ) (p : Place) (w : Timer) → 0 < t → t ≤ length s.tasks → accepts p e ≡ false → accepts (place_of s g) e ≡ false → accepts (place_of (move s t p w) g) e ≡ false
accepts_after s t g e p w pos fit a b =
    by_eq g t
    (λ q. rw (q, place_same s t p w pos fit) a)
    (λ n. rw (place_other s t p w g n) b)

pub queue_sound : (s : State) (t : ℕ) (q : Waiting) (w : Timer) → 0 < t → t ≤ length s.tasks → Sound s
    → Calls (task_of s q.target) q.entry → accepts (place_of s q.target) q.entry ≡ false → InTime s.clock w
    → Sound (move s t (Queued q) w)
queue_sound s t q w pos fit h c a i =
    move-sound s t (Queued q) w pos fit h
    (calls_after s t q.target q.entry (Queued q) w pos fit refl c, accepts_after s t q.target q.entry (Queued q) w pos fit refl a)
    i (welcome_plain s.tasks t (moved s t (Queued q) w) pos fit refl refl (λ e. refl))

-- ── a rendezvous begins and ends ──

pub hold_sound : (s : State) (t : ℕ) (m : Meeting) → 0 < t → t ≤ length s.tasks → Sound s → Calls (task_of s m.holder) m.entry → InPriorities m.kept → Sound (move s t (Held m) Off)
hold_sound s t m pos fit h c i =
    move-sound s t (Held m) Off pos fit h
    (calls_after s t m.holder m.entry (Held m) Off pos fit refl c, refl, i) tt
    (welcome_plain s.tasks t (moved s t (Held m) Off) pos fit refl refl (λ e. refl))

module _ (s : State) (g c : ℕ) (low : 0 < g) (high : g ≤ length s.tasks) (pos : 0 < c) (fit : c ≤ length s.tasks) where
  module _ (e : ℕ) where
    abbrev n : ℕ
    n = higher (current_of s g) (current_of s c)

    abbrev m : Meeting
    m = meeting g e (current_of s g)

    pub raise_sound : Sound s → Sound (rank s g n)
    raise_sound h =
        rank_sound s g n low high
        (by_test InPriorities (ltb (current_of s g) (current_of s c)) (λ _. (h.good c pos fit).numbers.current) (λ _. (h.good g low high).numbers.current))
        (λ e. clash e (higher_not_lower (current_of s g) (current_of s c))) h

    pub meet_sound : Sound s → Calls (task_of s g) e → Sound (meet s g c e)
    meet_sound h k =
        hold_sound (rank s g n) c m pos (omega (arith, fit, rank_length s g n low high)) (raise_sound h)
        (record { low = k.low; high = rw (rank_entries s g n low high g) k.high; alive = rw (rank_place s g n low high g) k.alive })
        (h.good g low high).numbers.current

    pub meet_same : place_of (meet s g c e) c ≡ Held m
    meet_same = place_same (rank s g n) c (Held m) Off pos (omega (arith, fit, rank_length s g n low high))

    pub meet_other : (u : ℕ) → (u ≡ c → ⊥) → Alike (task_of s u) (task_of (meet s g c e) u)
    meet_other u q = alike_trans (rank_alike s g n low high u) (alike (task_other (rank s g n) c (Held m) Off u q))

  abbrev k : ℕ
  k = kept_of (place_of s c)

  pub restore_sound : (m : Meeting) → place_of s c ≡ Held m → is_ready (place_of s g) ≡ true → Sound s → Sound (rank s g k)
  restore_sound m q r h = rank_sound s g k low high (rw q (rw q at (h.good c pos fit).place).2) (λ _. r) h

  pub part_sound : (m : Meeting) → place_of s c ≡ Held m → is_ready (place_of s g) ≡ true → Sound s → Sound (part s g c)
  part_sound m q r h = wake_sound (rank s g k) c pos (omega (arith, fit, rank_length s g k low high)) (restore_sound m q r h)

  pub part_same : place_of (part s g c) c ≡ Ready
  part_same = place_same (rank s g k) c Ready Off pos (omega (arith, fit, rank_length s g k low high))

  pub part_other : (u : ℕ) → (u ≡ c → ⊥) → Alike (task_of s u) (task_of (part s g c) u)
  part_other u q = alike_trans (rank_alike s g k low high u) (alike (task_other (rank s g k) c Ready Off u q))

-- t accepts, where nobody is queued on an open entry
pub accept_sound : (s : State) (t : ℕ) (o : Offer) (w : Timer) → 0 < t → t ≤ length s.tasks → Sound s → o.opens < 2 ^ (task_of s t).entries → (o.opens ≡ 0 → has_time w ≡ true) → InTime s.clock w
    → ((u : ℕ) (q : Waiting) → place_of s u ≡ Queued q → q.target ≡ t → opens o.opens q.entry ≡ false) → Sound (move s t (Accepting o) w)
accept_sound s t o w pos fit h b z i q =
    move-sound s t (Accepting o) w pos fit h (b, z) i
    (welcome_by s.tasks t (moved s t (Accepting o) w) pos fit (λ u a e g c. (calls_kept refl refl a.entry c, q u a e g)) (λ u m e g c. calls_kept refl refl m.entry c))

-- t completes, where nobody is queued on it or held by it
pub complete_sound : (s : State) (t : ℕ) → 0 < t → t ≤ length s.tasks → Sound s
    → ((u : ℕ) (q : Waiting) → place_of s u ≡ Queued q → q.target ≡ t → ⊥) → ((u : ℕ) (m : Meeting) → place_of s u ≡ Held m → m.holder ≡ t → ⊥) → Sound (move s t Completed Off)
complete_sound s t pos fit h q r =
    move-sound s t Completed Off pos fit h refl tt (welcome_by s.tasks t (moved s t Completed Off) pos fit (λ u a e g c. absurd (q u a e g)) (λ u m e g c. absurd (r u m e g)))
