-- The second engine answers as the first does: two structs that stand for alike states give the same answers, and structs that do so again.
-- Assumes nothing.
use Prim.Native.Nat.{ℕ, ◌<◌}
use mathlib.Core.Path.{◌≡◌, refl, sym, ◌∙◌, ap, subst}
use mathlib.Core.Bool.{true, false}
use mathlib.Core.List.{List, []}
use lib.ListN.{length}
use lib.Dec.{ltb}
use Rattle.lists.specs.Lists.{filter}
use Rattle.lists.proofs.ListLaws.{by_bool}
use Rattle.rules.specs.State.{State, empty, waits_on, queue, running}
use Rattle.rules.specs.Step.{Outcome, refused, took, take_call}
use Rattle.rules.specs.declared.Refusal.{Refusal}
use Rattle.rules.specs.declared.Refusal.TheVariants.{ShortRoom}
use Rattle.rules.specs.Callers.{Alike}
use Rattle.rules.specs.Whole.{view, pack, sound_whole, StepOf, Whole, decline, done_by, answer_of, step_whole}
use Rattle.rules.specs.Questions.{asked_by, count_by, callable_by, running_by, count_whole, callable_whole, running_whole, priority_by, priority_whole}
use Rattle.rules.specs.Second.{view_second, pack_second, sound_second, step_second, start_second, count_second, callable_second, running_second, priority_second}
use Rattle.rules.specs.Tree.{highest_of}
use Rattle.rules.specs.Runs.{start}
use Rattle.rules.specs.declared.Supervisor.{Supervisor}
use Rattle.rules.specs.declared.Second.{Second}
use Rattle.calls.specs.declared.Call as C
use Rattle.rules.proofs.Invariant.{Sound}
use Rattle.rules.proofs.StepSound.{Kept, call_sound}
use Rattle.rules.proofs.StateRuns.{stepped}
use Rattle.rules.proofs.OverRuns.{empty_sound}
use Rattle.rules.proofs.TreeLaws.{Tree}
use Rattle.rules.proofs.TreeSteps.{TreeOf, keeps_tree}
use Rattle.rules.proofs.TreeRuns.{empty_tree}
use Rattle.rules.proofs.EveryStruct.{step_taken}
use Rattle.rules.proofs.WholeLaws.{whole_of, view_pack, sound_pack}
use Rattle.rules.proofs.Apart.{queue_of, running_core}
use Rattle.rules.proofs.SecondLaws.{Parallel, alike_steps, regrouped, regrouped_alike, regrouped_sound, regrouped_tree, view_second_lem, sound_second_lem, second_short, second_takes}

-- the two structs stand for alike states, both sound, and both right in the tree of held callers
pub record Twins (s : Supervisor) (x : Second) : Type 0 where
  pub one : State
  pub other : State
  pub one_sound : Sound one
  pub one_tree : Tree one
  pub other_sound : Sound other
  pub other_tree : Tree other
  pub alike : Alike one other
  pub first : s ≡ pack one
  pub second : x ≡ pack_second other

alike_on : (s u w : State) → Alike s u → Alike u w → Alike s w
alike_on s u w a b = record { core = a.core ∙ b.core; queues = λ g. a.queues g ∙ b.queues g }

same_running : (s u : State) → Alike s u → running s ≡ running u
same_running s u a = sym (running_core s []) ∙ ap running a.core ∙ running_core u []

-- ── a step ──

-- the same answer, the same list of ended waits, and structs that stand for alike states
pub record SameStep (w : Whole) (q : StepOf Second) : Type 0 where
  pub answer : answer_of q ≡ answer_of w
  pub ended : q.ended ≡ w.ended
  pub next : Twins w.state q.state

first_short : (s : State) (c : C.Call) (room : ℕ) → ltb room 124 ≡ true → step_whole (pack s) c room ≡ decline (pack s) ShortRoom 0
unfolding step_whole
first_short s c room b = rw b

first_takes : (s : State) (c : C.Call) (room : ℕ) → Sound s → Tree s → ltb room 124 ≡ false → step_whole (pack s) c room ≡ done_by pack (pack s) s (take_call s c)
first_takes s c room h f b = step_taken s c room h f b ∙ go (take_call s c)
  where
    go : (o : Outcome) → whole_of (stepped s o) ≡ done_by pack (pack s) s o
    go (refused r) = refl
    go (took v a l) = refl

module _ (s u : State) (h : Sound s) (f : Tree s) (k : Sound u) (g : Tree u) (a : Alike s u) where
  here : Twins (pack s) (pack_second u)
  here = record { one = s; other = u; one_sound = h; one_tree = f; other_sound = k; other_tree = g; alike = a; first = refl; second = refl }

  abbrev w : State
  w = regrouped u k

  across : Alike s w
  across = alike_on s u w a (regrouped_alike u k)

  refused_same : (r q : Refusal) (n m : ℕ) → r ≡ q → n ≡ m → SameStep (decline (pack s) r n) (decline (pack_second u) q m)
  refused_same r q n m e j = record {
    answer = λ i. answer_of (decline (pack_second u) (sym e i) (sym j i));
    ended = refl;
    next = here;
  }

  done_same : (o p : Outcome) → Parallel o p → Kept o → TreeOf o → Kept p → TreeOf p → SameStep (done_by pack (pack s) s o) (done_by pack_second (pack_second u) w p)
  done_same (refused r) (refused q) e i y j z = refused_same r q (running s) (running w) e (same_running s w across)
  done_same (refused r) (took v b l) e i y j z = absurd e
  done_same (took v b l) (refused q) e i y j z = absurd e
  done_same (took v b l) (took x d m) e i y j z = record {
    answer = λ n. answer_of (record { refusal = 0; answer = sym e.1 n; ended = sym e.2 n; next = sym (same_running v x e.0) n; state = pack_second x });
    ended = sym e.2;
    next = record { one = v; other = x; one_sound = i; one_tree = y; other_sound = j; other_tree = z; alike = e.0; first = refl; second = refl };
  }

  packed_same : (c : C.Call) (room : ℕ) → SameStep (step_whole (pack s) c room) (step_second (pack_second u) c room)
  packed_same c room =
      by_bool (ltb room 124)
      (λ b. both (sym (first_short s c room b)) (sym (second_short u k c room b)) (refused_same ShortRoom ShortRoom 0 0 refl refl))
      (λ b. both (sym (first_takes s c room h f b)) (sym (second_takes u k g c room b))
      (done_same (take_call s c) (take_call w c) (alike_steps s w c h (regrouped_sound u k) across) (call_sound s c h) (keeps_tree s c h f) (call_sound w c (regrouped_sound u k)) (keeps_tree w c (regrouped_sound u k) (regrouped_tree u k g))))
    where
      both : {x y : Whole} {q r : StepOf Second} → x ≡ y → q ≡ r → SameStep x q → SameStep y r
      both {x} {y} {q} {r} e f z = subst (SameStep y) f (subst (λ (p : Whole). SameStep p q) e z)

pub same_step : (s : Supervisor) (x : Second) → Twins s x → (c : C.Call) (room : ℕ) → SameStep (step_whole s c room) (step_second x c room)
same_step s x t c room =
    subst (λ (y : Second). SameStep (step_whole s c room) (step_second y c room)) (sym t.second)
    (subst (λ (y : Supervisor). SameStep (step_whole y c room) (step_second (pack_second t.other) c room)) (sym t.first)
    (packed_same t.one t.other t.one_sound t.one_tree t.other_sound t.other_tree t.alike c room))

-- ── the questions ──

module _ (s : Supervisor) (x : Second) (t : Twins s x) where
  abbrev u : State
  u = regrouped t.other t.other_sound

  across_here : Alike t.one u
  across_here = alike_on t.one t.other u t.alike (regrouped_alike t.other t.other_sound)

  pub first_sound : sound_whole s ≡ true
  first_sound = ap sound_whole t.first ∙ sound_pack t.one t.one_sound t.one_tree

  pub second_sound : sound_second x ≡ true
  second_sound = ap sound_second t.second ∙ sound_second_lem t.other t.other_sound t.other_tree

  first_view : view s ≡ t.one
  first_view = ap view t.first ∙ view_pack t.one t.one_sound

  second_view : view_second x ≡ u
  second_view = ap view_second t.second ∙ view_second_lem t.other t.other_sound

  same_queue : (g e : ℕ) → queue u g e ≡ queue t.one g e
  same_queue g e =
      queue_of u g e
      ∙ (λ i. filter (waits_on (sym across_here.core i) g e) (sym (across_here.queues g) i))
      ∙ sym (queue_of t.one g e)

  pub same_count : (g e : ℕ) → count_second x g e ≡ count_whole s g e
  unfolding count_second count_whole
  same_count g e =
      (λ i. count_by (second_sound i) (second_view i) g e)
      ∙ ap (λ (l : List ℕ). asked_by true (length l)) (same_queue g e)
      ∙ sym (λ i. count_by (first_sound i) (first_view i) g e)

  pub same_callable : (g : ℕ) → callable_second x g ≡ callable_whole s g
  unfolding callable_second callable_whole
  same_callable g =
      (λ i. callable_by (second_sound i) (second_view i) g)
      ∙ ap (λ (v : State). callable_by true v g) (sym across_here.core)
      ∙ sym (λ i. callable_by (first_sound i) (first_view i) g)

  pub same_runs : running_second x ≡ running_whole s
  unfolding running_second running_whole
  same_runs =
      (λ i. running_by (second_sound i) (second_view i))
      ∙ ap (asked_by true) (sym (same_running t.one u across_here))
      ∙ sym (λ i. running_by (first_sound i) (first_view i))

  pub same_priority : (g : ℕ) → priority_second x g ≡ priority_whole s g
  unfolding priority_second priority_whole highest_of
  same_priority g =
      (λ i. priority_by (second_sound i) (second_view i) g)
      ∙ ap (λ (v : State). priority_by true v g) (sym across_here.core)
      ∙ sym (λ i. priority_by (first_sound i) (first_view i) g)

-- ── uses, one after the other ──

pub starts : (n : ℕ) → n < 4294967296 → Twins (start n) (start_second n)
starts n h = let k = empty_sound n h in here (empty n) (empty n) k (empty_tree n) k (empty_tree n) (record { core = refl; queues = λ g. refl })
