-- What becomes of the queue of one task, read off the call and what it answers: who has left it, and who has come into it.
-- Assumes nothing.
use Prim.Native.Nat.{ℕ, zero, suc, ◌+◌, ◌<◌, ◌^◌}
use mathlib.Core.Path.{◌≡◌, refl, sym, ◌∙◌, ap}
use mathlib.Core.Bool.{Bool, true, not, ◌&&◌, and-true, and-false}
use mathlib.Core.List.{List, [], ◌∷◌, ◌++◌, map}
use native.Mathlib.Omega.{arith}
use lib.ListN.{length}
use lib.Dec.{eqb, ltb, leb}
use borrow.Author.Tests.{eq-eqb, ne_eqb, eqb-true}
use Rattle.lists.specs.Lists.{bit, filter, count, first, last}
use Rattle.lists.proofs.Tests.{and_first, and_second}
use Rattle.lists.proofs.ListLaws.{clash, by_bool, by_test, by_eq, by_member, count_append, count_filter_yes}
use Rattle.lists.proofs.MarkLaws.{filter_same, filter_all, filter_filter, filter_append, out}
use Rattle.rules.specs.State.{State, place_of, task_of, created, is_task, is_queued, is_completed, accepts, partner_of, held_by, queue, running, wake_all, after}
use Rattle.rules.specs.Sound.{in_range}
use Rattle.rules.specs.Step.{Outcome, refused, took, delay_for, timed_call, call_busy, call, open_entry, select_delay, select_none, select_at, select, end_last, end, queued_on, finish, failed, expired, due_at, ends_at, tick_to, advance_ends, of_running, take_call, ticks, WAITS}
use Rattle.rules.specs.Callers.{calling, callers_of, queued_in, gone_by, left_by, comes_by}
use Rattle.rules.specs.Runs.{target}
use Rattle.rules.specs.declared.Item.{Item}
use Rattle.rules.specs.declared.Place.{Place}
use Rattle.rules.specs.declared.Task.{Task}
use Rattle.calls.specs.declared.CallMode.{CallMode}
use Rattle.calls.specs.declared.CallMode.TheVariants.{Simple, Timed, Conditional}
use Rattle.calls.specs.declared.SelectMode.{SelectMode}
use Rattle.calls.specs.declared.SelectMode.TheVariants.{Plain, Else}
use Rattle.calls.specs.declared.SelectMode.TheVariants as S
use Rattle.calls.specs.declared.Call as C
use Rattle.calls.specs.declared.Call.TheVariants.{Create, Delay, Call, Select, End, Finish, Tick, Advance}
use Rattle.rules.proofs.Invariant.{Sound}
use Rattle.rules.proofs.Members.{in_filter, bit_true, last_in, of_held}
use Rattle.rules.proofs.Fate.{Fate, untouched, awake, began, began_held, taken, ran_out, accepted, served, given_up, starts, accepts_is}
use Rattle.rules.proofs.StepSound.{caller_taken, wake_all_out}

-- ── the queue of a task after a step ──

-- those who are not gone, and who comes if it has called that task
pub queue_told : (s v : State) (gone come : List ℕ) (g : ℕ) → Sound s → Sound v → v.callers ≡ filter (out gone) s.callers ++ come → ((u : ℕ) → queued_in s u ≡ true → queued_in v u ≡ true → place_of v u ≡ place_of s u)
    → callers_of v g ≡ filter (out gone) (callers_of s g) ++ filter (calling v g) come
queue_told s v gone come g h k e w =
    ap (filter (calling v g)) e
    ∙ filter_append (calling v g) (filter (out gone) s.callers) come
    ∙ ap (λ (l : List ℕ). l ++ filter (calling v g) come) (filter_filter (calling v g) (out gone) s.callers ∙ filter_same _ _ s.callers same ∙ sym (filter_filter (out gone) (calling s g) s.callers))
  where
    here : (x : ℕ) → count x v.callers ≡ count x (filter (out gone) s.callers) + count x come
    here x = ap (count x) e ∙ count_append x (filter (out gone) s.callers) come

    same : (x : ℕ) → 0 < count x s.callers → (out gone x && calling v g x) ≡ (calling s g x && out gone x)
    same x j =
        by_bool (out gone x)
        (λ y.
        let q : queued_in s x ≡ true = bit_true (queued_in s x) (omega (arith, j, h.callers x)) in
        let r : queued_in v x ≡ true = bit_true (queued_in v x) (omega (arith, j, here x, count_filter_yes (out gone) x s.callers y, k.callers x)) in
        ap (λ (b : Bool). b && calling v g x) y ∙ ap (λ (p : Place). is_queued p && eqb (partner_of p) g) (w x q r) ∙ sym (and-true (calling s g x)) ∙ ap (λ (b : Bool). calling s g x && b) (sym y))
        (λ y. ap (λ (b : Bool). b && calling v g x) y ∙ sym (and-false (calling s g x)) ∙ ap (λ (b : Bool). calling s g x && b) (sym y))

-- ── who comes has called the target of its call ──

pub joins : (s v : State) (c : C.Call) (a : Item) (l : List Item) → Fate s c a.task v a l → queued_in v a.task ≡ true → comes_by c a.result (length l) ≡ true → partner_of (place_of v a.task) ≡ target c
joins s v (Call g e m) a l f q b = go f
  where
    here : starts a.task a ≡ true
    here = rw (and_first (eqb a.result WAITS) (eqb (length l) 0) b) (eq-eqb a.task a.task refl)

    go : Fate s (Call g e m) a.task v a l → partner_of (place_of v a.task) ≡ g
    go (untouched k r n) = clash here n
    go (awake x y r n) = clash here n
    go (began x y z w r n) = ap partner_of z
    go (began_held x y z r n) = clash q (ap is_queued z)
    go (taken t w y x z r n) = clash here n
    go (ran_out d x y z r n) = clash here n
    go (accepted t o x y r n) = clash here n
    go (served i y x z w p r n) = clash here n
    go (given_up i w x y z r n) = clash here n
joins s v (Create p n) a l f q b = clash b refl
joins s v (Delay d) a l f q b = clash b refl
joins s v (Select o m) a l f q b = clash b refl
joins s v End a l f q b = clash b refl
joins s v Finish a l f q b = clash b refl
joins s v Tick a l f q b = clash b refl
joins s v (Advance n) a l f q b = clash b refl

-- ── who is gone has left the queue of one that is named ──

-- each who has called g and is gone has g named
abbrev pub Named : State → Item → List Item → Type 0
Named s a l = (u g : ℕ) → calling s g u ≡ true → 0 < count u (gone_by a l) → 0 < count g (left_by a l)

abbrev pub NamedIn : State → Outcome → Type 0
NamedIn s (refused r) = Unit {0}
NamedIn s (took v a l) = Named s a l

called : (s : State) (u g : ℕ) → calling s g u ≡ true → partner_of (place_of s u) ≡ g
called s u g e = eqb-true (partner_of (place_of s u)) g (and_second (is_queued (place_of s u)) (eqb (partner_of (place_of s u)) g) e)

-- nobody is gone
quiet : (u g : ℕ) → 0 < count u [] → 0 < count g []
quiet u g k = absurd (omega arith)

one_in : (u t : ℕ) → 0 < count u (t ∷ []) → u ≡ t
one_in u t k = by_eq u t (λ e. e) (λ n. absurd (omega (arith, k, ap bit (ne_eqb t u (λ z. n (sym z))))))

own_in : (g t : ℕ) → g ≡ t → 0 < count g (t ∷ [])
own_in g t e = rw (eq-eqb t g (sym e)) (omega arith)

-- the items of waits that end name the task that was called
module _ (s : State) (f : ℕ → Item) (own : (x : ℕ) → (f x).task ≡ x) (named : (x : ℕ) → (f x).partner ≡ partner_of (place_of s x)) where
  mapped_named : (q : List ℕ) (u g : ℕ) → calling s g u ≡ true → 0 < count u (map (λ (i : Item). i.task) (map f q)) → 0 < count g (map (λ (i : Item). i.partner) (map f q))
  mapped_named [] u g e k = quiet u g k
  mapped_named (x ∷ q) u g e k =
      by_eq x u
      (λ z. omega (arith, ap bit (eq-eqb (f x).partner g (named x ∙ ap (λ (y : ℕ). partner_of (place_of s y)) z ∙ called s u g e))))
      (λ z. omega (arith, mapped_named q u g e (omega (arith, k, ap bit (ne_eqb (f x).task u (λ y. z (sym (own x) ∙ y)))))))

expired_named : (s : State) (n u g : ℕ) → calling s g u ≡ true → 0 < count u (map (λ (i : Item). i.task) (ends_at s n)) → 0 < count g (map (λ (i : Item). i.partner) (ends_at s n))
expired_named s n u g e k = mapped_named s (expired s) (λ x. refl) (λ x. refl) (due_at s n) u g e k

map_append : (f : Item → ℕ) (x y : List Item) → map f (x ++ y) ≡ map f x ++ map f y
map_append f [] y = refl
map_append f (i ∷ x) y = ap (◌∷◌ (f i)) (map_append f x y)

tasks_map : (q : List ℕ) (s : State) → map (λ (i : Item). i.task) (map (expired s) q) ≡ q
tasks_map [] s = refl
tasks_map (x ∷ q) s = ap (◌∷◌ x) (tasks_map q s)

advance_named : (n : ℕ) (s : State) (u g : ℕ) → calling s g u ≡ true → 0 < count u (map (λ (i : Item). i.task) (advance_ends n s)) → 0 < count g (map (λ (i : Item). i.partner) (advance_ends n s))
advance_named zero s u g e k = quiet u g k
advance_named (suc n) s u g e k =
    let now = after s.clock 1 in
    let a = ends_at s now in
    let b = advance_ends n (tick_to s now) in
    let split : count u (map (λ (i : Item). i.task) (a ++ b)) ≡ count u (map (λ (i : Item). i.task) a) + count u (map (λ (i : Item). i.task) b) = ap (count u) (map_append (λ (i : Item). i.task) a b) ∙ count_append u (map (λ (i : Item). i.task) a) (map (λ (i : Item). i.task) b) in
    let join : count g (map (λ (i : Item). i.partner) (a ++ b)) ≡ count g (map (λ (i : Item). i.partner) a) + count g (map (λ (i : Item). i.partner) b) = ap (count g) (map_append (λ (i : Item). i.partner) a b) ∙ count_append g (map (λ (i : Item). i.partner) a) (map (λ (i : Item). i.partner) b) in
    by_member u (map (λ (i : Item). i.task) a)
    (λ j. omega (arith, join, expired_named s now u g e j))
    (λ z.
    let same : task_of (wake_all s (due_at s now)) u ≡ task_of s u = wake_all_out (due_at s now) s u (sym (ap (count u) (tasks_map (due_at s now) s)) ∙ z) in
    let d : calling (tick_to s now) g u ≡ true = ap (λ (x : Task). is_queued x.place && eqb (partner_of x.place) g) same ∙ e in
    omega (arith, join, advance_named n (tick_to s now) u g d (omega (arith, k, split, z))))

module _ (s : State) (t : ℕ) where
  named_delay : (d : ℕ) → NamedIn s (delay_for s t d)
  named_delay zero = λ u g e k. quiet u g k
  named_delay (suc d) = λ u g e k. quiet u g k

  named_timed : (g e d : ℕ) → NamedIn s (timed_call s t g e d)
  named_timed g e zero = λ u g e k. quiet u g k
  named_timed g e (suc d) = λ u g e k. quiet u g k

  named_busy : (g e : ℕ) (m : CallMode) → NamedIn s (call_busy s t g e m)
  named_busy g e Simple = λ u g e k. quiet u g k
  named_busy g e (Timed d) = named_timed g e (ticks d)
  named_busy g e Conditional = λ u g e k. quiet u g k

  -- who accepts is not queued
  named_call : (g e : ℕ) (m : CallMode) → NamedIn s (call s t g e m)
  named_call g e m =
      by_test (NamedIn s) (not (is_task s g)) (λ _. tt) λ _.
      by_test (NamedIn s) (not (ltb 0 e && leb e (task_of s g).entries)) (λ _. tt) λ _.
      by_test (NamedIn s) (is_completed (place_of s g)) (λ _. λ u x y k. quiet u x k) λ _.
      by_test (NamedIn s) (accepts (place_of s g) e)
      (λ b. λ u x y k. clash (and_first (is_queued (place_of s u)) (eqb (partner_of (place_of s u)) x) y) (ap (λ (z : ℕ). queued_in s z) (one_in u g k) ∙ ap is_queued (accepts_is (place_of s g) e b).1))
      (λ _. named_busy g e m)

  named_late : (o d : ℕ) → NamedIn s (select_delay s t o d)
  named_late o zero = λ u g e k. quiet u g k
  named_late o (suc d) = λ u g e k. quiet u g k

  named_none : (o : ℕ) (m : SelectMode) → NamedIn s (select_none s t o m)
  named_none o Plain = by_test (NamedIn s) (eqb o 0) (λ _. λ u g e k. quiet u g k) (λ _. λ u g e k. quiet u g k)
  named_none o (S.Delay d) = named_late o (ticks d)
  named_none o Else = λ u g e k. quiet u g k

  -- who is accepted had called the task that accepts
  named_at : (o : ℕ) (m : SelectMode) (e : ℕ) → open_entry s t o ≡ e → NamedIn s (select_at s t o m e)
  named_at o m zero z = named_none o m
  named_at o m (suc e) z = λ u g y k.
      let w = caller_taken s t o e z in
      own_in g t (sym (called s u g y) ∙ ap (λ (x : ℕ). partner_of (place_of s x)) (one_in u (first (queue s t (suc e))) k) ∙ ap partner_of w.1 ∙ w.2)

  named_select : (o : ℕ) (m : SelectMode) → NamedIn s (select s t o m)
  named_select o m = by_test (NamedIn s) (leb (2 ^ (task_of s t).entries) o) (λ _. tt) (λ _. named_at o m (open_entry s t o) refl)

  -- who is served was held
  named_end : (c : ℕ) → last (held_by s t) ≡ c → NamedIn s (end_last s t c)
  named_end zero z = tt
  named_end (suc c) z = λ u g y k.
      clash (and_first (is_queued (place_of s u)) (eqb (partner_of (place_of s u)) g) y)
      (ap (λ (x : ℕ). queued_in s x) (one_in u (suc c) k) ∙ ap is_queued (of_held s (suc c) t (last_in c (held_by s t) z)).1)

  named_finish : NamedIn s (finish s t)
  named_finish = by_test (NamedIn s) (ltb 0 (length (held_by s t))) (λ _. tt) (λ _. mapped_named s (failed s) (λ x. refl) (λ x. refl) (queued_on s t))

named_runner : (s : State) (f : ℕ → Outcome) (t : ℕ) → NamedIn s (f t) → NamedIn s (of_running t f)
named_runner s f zero h = tt
named_runner s f (suc t) h = h

pub names : (s : State) (c : C.Call) → NamedIn s (take_call s c)
names s (Create p n) = by_test (NamedIn s) (not (in_range p n)) (λ _. tt) λ _. by_test (NamedIn s) (leb 31 (created s)) (λ _. tt) λ _. λ u g e k. quiet u g k
names s (Delay d) = named_runner s (λ t. delay_for s t (ticks d)) (running s) (named_delay s (running s) (ticks d))
names s (Call g e m) = named_runner s (λ t. call s t g e m) (running s) (named_call s (running s) g e m)
names s (Select o m) = named_runner s (λ t. select s t o m) (running s) (named_select s (running s) o m)
names s End = named_runner s (λ t. end s t) (running s) (named_end s (running s) (last (held_by s (running s))) refl)
names s Finish = named_runner s (λ t. finish s t) (running s) (named_finish s (running s))
names s Tick = expired_named s (after s.clock 1)
names s (Advance n) = advance_named n s

-- a queue that nobody is named to have left has all its callers
pub named_stay : (s v : State) (a : Item) (l : List Item) (g : ℕ) → NamedIn s (took v a l) → count g (left_by a l) ≡ 0 → filter (out (gone_by a l)) (callers_of s g) ≡ callers_of s g
named_stay s v a l g n z = filter_same (out (gone_by a l)) (λ _. true) (callers_of s g) stays ∙ filter_all (λ _. true) (callers_of s g) (λ x. refl)
  where
    stays : (x : ℕ) → 0 < count x (callers_of s g) → out (gone_by a l) x ≡ true
    stays x k = by_member x (gone_by a l) (λ j. absurd (omega (arith, z, n x g (in_filter (calling s g) x s.callers k).0 j))) (λ j. eq-eqb (count x (gone_by a l)) 0 j)
