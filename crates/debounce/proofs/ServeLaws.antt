-- Turns: the tasks that are ready sample and delay again, in whatever order the supervisor runs them.
-- Assumes nothing.
use Rattle.std.proofs.Common.{◌≡◌, ℕ, zero, suc, ◌-◌, ◌<◌, ◌≤◌, true, ◌&&◌, ltb, leb, ◌⊎◌, List, [], ◌∷◌, length, set, sym, refl, ap, ◌∙◌, subst, inr, arith, length-set, get_or-set_other, get_or-set_same, lt-ltb, le-leb}
use Rattle.lists.specs.Lists.{count}
use Rattle.lists.proofs.ListLaws.{by_eq}
use Rattle.lists.proofs.Tests.{no, if-true, and_both, ways}
use Rattle.rules.specs.State.{State, task_of, place_of, timer_of, running, ticks_left}
use Rattle.rules.specs.Whole.{pack}
use Rattle.rules.specs.declared.Task.{Task}
use Rattle.rules.specs.declared.Place.{Place}
use Rattle.rules.specs.declared.Place.TheVariants.{Ready, Delayed}
use Rattle.rules.proofs.Invariant.{Sound}
use Rattle.rules.proofs.TreeLaws.{Tree}
use Rattle.rules.proofs.Members.{Runs, runs}
use Rattle.rules.proofs.Dispatch.{dispatched}
use Rattle.debounce.specs.declared.Card.{Card}
use Rattle.debounce.specs.declared.Contact.{Contact}
use Rattle.debounce.specs.Rule.{closed_in}
use Rattle.debounce.specs.declared.turns.Turned.{Turned}
use Rattle.debounce.specs.Card.{no_contact, nth_of, sampled, turn_of, serve}
use Rattle.debounce.proofs.ContactLaws.{InRange, sampled_p, in_range_sampled}
use Rattle.debounce.proofs.StepLaws.{Delays, delays}

-- ── between two ticks, and while turns are taken ──

-- a task delays with 1 to p ticks left
pub record Waits (now p : ℕ) (x : Task) : Type 0 where
  pub place : x.place ≡ Delayed
  pub low : 1 ≤ ticks_left now x.timer
  pub high : ticks_left now x.timer ≤ p

-- the state, the contacts, and what is known of each task
pub record Standing (Each : ℕ → Task → Type 0) (v : State) (cs : List Contact) : Type 0 where
  pub sound : Sound v
  pub tree : Tree v
  pub tasks : length v.tasks ≡ 8
  pub contacts : length cs ≡ 8
  pub settings : (t : ℕ) → 0 < t → t ≤ 8 → InRange (nth_of cs t).n (nth_of cs t).p
  pub each : (t : ℕ) → 0 < t → t ≤ 8 → Each (nth_of cs t).p (task_of v t)

-- between two ticks each task delays
abbrev pub Idle : State → List Contact → Type 0
Idle v cs = Standing (Waits v.clock) v cs

-- a task is ready, or it delays
abbrev pub Tends : ℕ → ℕ → Task → Type 0
Tends now p x = (x.place ≡ Ready) ⊎ Waits now p x

-- while turns are taken some are ready
abbrev pub Busy : State → List Contact → Type 0
Busy v cs = Standing (Tends v.clock) v cs

-- the card of a state
abbrev pub card_of : State → List Contact → Card
card_of v cs = record { supervisor = pack v; contacts = cs }

-- ── contact t of a list, where one is set ──

nth_same : (cs : List Contact) (t : ℕ) (c : Contact) → length cs ≡ 8 → 0 < t → t ≤ 8 → nth_of (set cs (t - 1) c) t ≡ c
nth_same cs t c l a b = get_or-set_same cs (t - 1) c no_contact (omega arith)

nth_other : (cs : List Contact) (t u : ℕ) (c : Contact) → 0 < t → 0 < u → (u ≡ t → ⊥) → nth_of (set cs (t - 1) c) u ≡ nth_of cs u
nth_other cs t u c a b n = get_or-set_other cs (t - 1) (u - 1) c no_contact (λ e. n (omega (arith, e, a, b)))

-- ── turns ──

pub not-both : {A : Type 0} (x : Place) → x ≡ Ready → x ≡ Delayed → A
not-both x i j = no (cc)

module _ (bits : ℕ) where
  -- what turns give: those who were ready have sampled and delay p ticks, the others are as they were
  pub record Turns (v : State) (cs : List Contact) (c : Card) : Type 0 where
    pub state : State
    pub contacts : List Contact
    pub is : c ≡ card_of state contacts
    pub idle : Idle state contacts
    pub clock : state.clock ≡ v.clock
    pub woken : (t : ℕ) → 0 < t → t ≤ 8 → place_of v t ≡ Ready
        → (nth_of contacts t ≡ sampled (nth_of cs t) (closed_in bits t)) × (ticks_left v.clock (timer_of state t) ≡ (nth_of cs t).p)
    pub others : (t : ℕ) → 0 < t → t ≤ 8 → place_of v t ≡ Delayed → (nth_of contacts t ≡ nth_of cs t) × (task_of state t ≡ task_of v t)

  -- nobody is ready
  quiet : (v : State) (cs : List Contact) → Busy v cs → v.ready ≡ [] → Turns v cs (card_of v cs)
  quiet v cs b e = record {
    state = v;
    contacts = cs;
    is = refl;
    idle = record { sound = b.sound; tree = b.tree; tasks = b.tasks; contacts = b.contacts; settings = b.settings; each = λ t i j. ways (b.each t i j) (λ r. absurd (busy t r)) (λ w. w) };
    clock = refl;
    woken = λ t i j r. absurd (busy t r);
    others = λ t i j r. (refl, refl);
  }
    where
      busy : (t : ℕ) → place_of v t ≡ Ready → ⊥
      busy t r = omega (arith, ap (count t) e, rw r at (b.sound.ready t))

  nobody_ready : (l : List ℕ) → length l ≤ 0 → l ≡ []
  nobody_ready [] h = refl
  nobody_ready (x ∷ xs) h = absurd (omega arith)

  -- nobody runs
  idling : (v : State) (cs : List Contact) → Busy v cs → running v ≡ 0 → Turns v cs (card_of v cs)
  idling v cs b e = ways (dispatched v b.sound) (λ d. quiet v cs b d.1) (λ d. absurd (omega (arith, e, d.0)))

  -- the turn of task t
  module _ (v : State) (cs : List Contact) (b : Busy v cs) (t : ℕ) (e : running v ≡ suc t) where
    abbrev k : Contact
    k = nth_of cs (suc t)

    r : Runs v (suc t)
    r = runs v t b.sound e

    high : suc t ≤ 8
    high = omega (arith, r.high, b.tasks)

    range : InRange k.n k.p
    range = b.settings (suc t) (omega arith) high

    d : Delays v b.sound b.tree (suc t) k.p
    d = delays v b.sound b.tree t k.p e range.later range.soon

    abbrev v1 : State
    v1 = d.after

    abbrev cs1 : List Contact
    cs1 = set cs (suc t - 1) (sampled k (closed_in bits (suc t)))

    turned : turn_of (card_of v cs) (suc t) bits ≡ record { card = card_of v1 cs1; next = running v1 }
    turned = λ i. record { card = record { supervisor = d.gives.state i; contacts = cs1 }; next = d.gives.next i }

    here : nth_of cs1 (suc t) ≡ sampled k (closed_in bits (suc t))
    here = nth_same cs (suc t) (sampled k (closed_in bits (suc t))) b.contacts (omega arith) high

    elsewhere : (u : ℕ) → 0 < u → (u ≡ suc t → ⊥) → nth_of cs1 u ≡ nth_of cs u
    elsewhere u i n = nth_other cs (suc t) u (sampled k (closed_in bits (suc t))) (omega arith) i n

    p_here : (nth_of cs1 (suc t)).p ≡ k.p
    p_here = ap (λ (c : Contact). c.p) here ∙ sampled_p k (closed_in bits (suc t))

    waits1 : Waits v.clock (nth_of cs1 (suc t)).p (task_of v1 (suc t))
    waits1 = record { place = d.place; low = omega (arith, d.left, range.later); high = omega (arith, d.left, p_here) }

    busy1 : Busy v1 cs1
    busy1 = record {
      sound = d.gives.sound;
      tree = d.gives.tree;
      tasks = d.gives.tasks ∙ b.tasks;
      contacts = length-set cs (suc t - 1) (sampled k (closed_in bits (suc t))) ∙ b.contacts;
      settings = λ u i j. by_eq u (suc t)
          (λ q. rw q (rw here (in_range_sampled k (closed_in bits (suc t)) range)))
          (λ n. rw (elsewhere u i n) (b.settings u i j));
      each = λ u i j. subst (λ (now : ℕ). Tends now (nth_of cs1 u).p (task_of v1 u)) (sym d.clock) (by_eq u (suc t)
          (λ q. rw q (inr waits1))
          (λ n. rw (elsewhere u i n) (subst (Tends v.clock (nth_of cs u).p) (sym (d.others u n)) (b.each u i j))));
    }

    onward : {c : Card} → Turns v1 cs1 c → Turns v cs c
    onward w = record {
      state = w.state;
      contacts = w.contacts;
      is = w.is;
      idle = w.idle;
      clock = w.clock ∙ d.clock;
      woken = λ u i j q. by_eq u (suc t)
          (λ z. let o = w.others (suc t) (omega arith) high d.place in
          rw z (o.0 ∙ here, ap (λ (x : Task). ticks_left v.clock x.timer) o.1 ∙ d.left))
          (λ n. let g = w.woken u i j (ap (λ (x : Task). x.place) (d.others u n) ∙ q) in
          let m = elsewhere u i n in
          (g.0 ∙ ap (λ (c : Contact). sampled c (closed_in bits u)) m, ap (λ (now : ℕ). ticks_left now (timer_of w.state u)) (sym d.clock) ∙ g.1 ∙ ap (λ (c : Contact). c.p) m));
      others = λ u i j q. by_eq u (suc t)
          (λ z. not-both (place_of v u) (rw z r.place) q)
          (λ n. let g = w.others u i j (ap (λ (x : Task). x.place) (d.others u n) ∙ q) in (g.0 ∙ elsewhere u i n, g.1 ∙ d.others u n));
    }

    step : (k : ℕ) → Turns v1 cs1 (serve k (card_of v1 cs1) (running v1) bits) → Turns v cs (serve (suc k) (card_of v cs) (suc t) bits)
    step k w =
        let c = card_of v cs in
        let test : (ltb 0 (suc t) && leb (suc t) 8) ≡ true = and_both (lt-ltb 0 (suc t) (omega arith)) (le-leb (suc t) 8 high) in
        let goes : serve (suc k) c (suc t) bits ≡ serve k (card_of v1 cs1) (running v1) bits =
        if-true (ltb 0 (suc t) && leb (suc t) 8) (serve k (turn_of c (suc t) bits).card (turn_of c (suc t) bits).next bits) c test
        ∙ ap (λ (x : Turned). serve k x.card x.next bits) turned in
        subst (Turns v cs) (sym goes) (onward w)

  -- at most so many turns, where no more are ready
  pub serve_turns : (k : ℕ) (v : State) (cs : List Contact) → Busy v cs → length v.ready ≤ k → Turns v cs (serve k (card_of v cs) (running v) bits)
  serve_turns zero v cs b few = quiet v cs b (nobody_ready v.ready few)
  serve_turns (suc k) v cs b few = go (running v) refl (serve_turns k)
    where
      go : (t : ℕ) → running v ≡ t → ((v : State) (cs : List Contact) → Busy v cs → length v.ready ≤ k → Turns v cs (serve k (card_of v cs) (running v) bits)) → Turns v cs (serve (suc k) (card_of v cs) t bits)
      go zero e f = idling v cs b e
      go (suc t) e f = step v cs b t e k (f (v1 v cs b t e) (cs1 v cs b t e) (busy1 v cs b t e) (omega (arith, few, (d v cs b t e).fewer)))
