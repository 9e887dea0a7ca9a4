-- A fresh card: eight tasks, each delaying p ticks.
-- Assumes nothing.
use Rattle.std.proofs.Common.{◌≡◌, ℕ, zero, suc, ◌+◌, ◌<◌, ◌≤◌, List, [], ◌∷◌, length, get_or, pos, sym, refl, ap, ◌∙◌, subst, arith}
use Rattle.lists.specs.Lists.{count}
use Rattle.lists.proofs.ListLaws.{by_eq}
use Rattle.lists.proofs.Tests.{ways}
use Rattle.calls.specs.declared.Call.TheVariants.{Delay}
use Rattle.rules.specs.State.{State, task_of, place_of, timer_of, running, ticks_left, empty}
use Rattle.rules.specs.Whole.{pack}
use Rattle.rules.specs.declared.Task.{Task}
use Rattle.rules.specs.declared.Supervisor.{Supervisor}
use Rattle.rules.specs.declared.Place.TheVariants.{Delayed}
use Rattle.rules.proofs.Invariant.{Sound}
use Rattle.rules.proofs.Members.{runs}
use Rattle.rules.proofs.Dispatch.{dispatched}
use Rattle.rules.proofs.OverRuns.{empty_sound}
use Rattle.rules.proofs.TreeLaws.{Tree}
use Rattle.rules.proofs.TreeRuns.{empty_tree}
use Rattle.debounce.specs.declared.Contact.{Contact}
use Rattle.debounce.specs.Card.{no_contact, takes, start_one, start_all}
use Rattle.debounce.proofs.StepLaws.{Creates, creates, Delays, delays}
use Rattle.debounce.proofs.ServeLaws.{not-both}

module _ (f : ℕ → ℕ) where
  -- n tasks have started at clock 0, and task t delays f t ticks
  pub record Starts (v : State) (n : ℕ) : Type 0 where
    pub sound : Sound v
    pub tree : Tree v
    pub clock : v.clock ≡ 0
    pub tasks : length v.tasks ≡ n
    pub delayed : (t : ℕ) → 0 < t → t ≤ n → place_of v t ≡ Delayed
    pub left : (t : ℕ) → 0 < t → t ≤ n → ticks_left v.clock (timer_of v t) ≡ f t

  -- one more
  module _ (v : State) (n : ℕ) (s : Starts v n) (few : n < 31) (p : ℕ) (is : p ≡ f (suc n)) (lo : 1 ≤ p) (hi : p ≤ 65535) where
    a : Creates v s.sound s.tree n
    a = creates v s.sound s.tree n s.tasks few

    -- those that started before delay
    delayed_a : (t : ℕ) → 0 < t → t ≤ n → place_of a.after t ≡ Delayed
    delayed_a t i k = ap (λ (x : Task). x.place) (a.others t k) ∙ s.delayed t i k

    -- the new task is the only one that is ready
    runs_new : running a.after ≡ suc n
    runs_new = go (running a.after) refl
      where
        go : (r : ℕ) → running a.after ≡ r → r ≡ suc n
        go zero e =
            ways (dispatched a.after a.gives.sound)
            (λ q. absurd (omega (arith, ap (count (suc n)) q.1, rw a.ready at (a.gives.sound.ready (suc n)))))
            (λ q. absurd (omega (arith, e, q.0)))
        go (suc t) e =
            let r = runs a.after t a.gives.sound e in
            by_eq (suc t) (suc n) (λ q. q)
            (λ q. not-both (place_of a.after (suc t)) r.place (delayed_a (suc t) (omega arith) (omega (arith, q, r.high, a.gives.tasks))))

    d : Delays a.after a.gives.sound a.gives.tree (suc n) p
    d = delays a.after a.gives.sound a.gives.tree n p runs_new lo hi

    started : start_one (pack v) p ≡ pack d.after
    started = ap (λ (x : Supervisor). (takes x (Delay (pos p))).state) a.gives.state ∙ d.gives.state

    clock_is : d.after.clock ≡ v.clock
    clock_is = d.clock ∙ a.clock

    other : (t : ℕ) → t ≤ n → task_of d.after t ≡ task_of v t
    other t k = d.others t (λ e. omega (arith, e, k)) ∙ a.others t k

    starts_one : Starts d.after (suc n)
    starts_one = record {
      sound = d.gives.sound;
      tree = d.gives.tree;
      clock = clock_is ∙ s.clock;
      tasks = d.gives.tasks ∙ a.gives.tasks;
      delayed = λ t i k. by_eq t (suc n)
          (λ q. rw q d.place)
          (λ q. let j : t ≤ n = omega (arith, q, k) in ap (λ (x : Task). x.place) (other t j) ∙ s.delayed t i j);
      left = λ t i k. by_eq t (suc n)
          (λ q. rw (q, d.clock) (d.left ∙ is))
          (λ q. let j : t ≤ n = omega (arith, q, k) in
          ap (λ (now : ℕ). ticks_left now (timer_of d.after t)) clock_is ∙ ap (λ (x : Task). ticks_left v.clock x.timer) (other t j) ∙ s.left t i j);
    }

  -- all have started
  pub record Started (n : ℕ) (s : Supervisor) : Type 0 where
    pub state : State
    pub is : s ≡ pack state
    pub starts : Starts state n

  pub start_all_lem : (cs : List Contact) (v : State) (n : ℕ) → Starts v n → n + length cs ≤ 31
      → ((i : ℕ) → i < length cs → ((get_or cs i no_contact).p ≡ f (n + suc i)) × (1 ≤ (get_or cs i no_contact).p) × ((get_or cs i no_contact).p ≤ 65535))
      → Started (n + length cs) (start_all (pack v) cs)
  start_all_lem [] v n s few h = record { state = v; is = refl; starts = subst (Starts v) (omega arith) s }
  start_all_lem (c ∷ cs) v n s few h =
      let q = h 0 (omega arith) in
      let less : n < 31 = omega (arith, few) in
      let is : c.p ≡ f (suc n) = q.0 ∙ ap f (omega arith) in
      let rest = start_all_lem cs (d v n s less c.p is q.1 q.2).after (suc n) (starts_one v n s less c.p is q.1 q.2) (omega (arith, few))
      (λ i j. let q = h (suc i) (omega arith) in (q.0 ∙ ap f (omega arith), q.1, q.2)) in
      subst (λ (m : ℕ). Started m (start_all (start_one (pack v) c.p) cs)) {x = suc n + length cs} (omega arith)
      (subst (λ (x : Supervisor). Started (suc n + length cs) (start_all x cs)) (sym (started v n s less c.p is q.1 q.2)) rest)

  pub starts_none : Starts (empty 0) 0
  starts_none = record { sound = empty_sound 0 (omega arith); tree = empty_tree 0; clock = refl; tasks = refl; delayed = λ t i k. absurd (omega (arith, i, k)); left = λ t i k. absurd (omega (arith, i, k)) }
