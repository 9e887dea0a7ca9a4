-- A tick: a task with one tick left takes its turn, each other has a tick less.
-- Assumes nothing.
use Rattle.std.proofs.Common.{◌≡◌, ℕ, ◌+◌, ◌<◌, ◌≤◌, ◌⊎◌, List, length, sym, refl, ap, ◌∙◌, subst, inl, inr, arith}
use Rattle.rules.specs.State.{State, task_of, place_of, timer_of, is_ready, running, ticks_left}
use Rattle.rules.specs.declared.Task.{Task}
use Rattle.rules.specs.declared.Timer.{Timer}
use Rattle.rules.specs.declared.Place.TheVariants.{Ready}
use Rattle.rules.proofs.WholeLaws.{lined_short}
use Rattle.debounce.specs.declared.Card.{Card}
use Rattle.debounce.specs.declared.Contact.{Contact}
use Rattle.debounce.specs.Rule.{closed_in}
use Rattle.debounce.specs.Card.{nth_of, sampled, serve, all_served, ticked_card}
use Rattle.debounce.proofs.StepLaws.{Comes, comes, stays, Ticks, ticked}
use Rattle.debounce.proofs.ServeLaws.{Waits, Idle, Busy, card_of, Turns, serve_turns}

module _ (bits : ℕ) (v : State) (cs : List Contact) (i : Idle v cs) where
  -- what a tick gives: a task with one tick left samples and delays p ticks, each other has a tick less
  pub record TickDone (c : Card) : Type 0 where
    pub state : State
    pub contacts : List Contact
    pub is : c ≡ card_of state contacts
    pub idle : Idle state contacts
    pub due : (t : ℕ) → 0 < t → t ≤ 8 → ticks_left v.clock (timer_of v t) ≡ 1
        → (nth_of contacts t ≡ sampled (nth_of cs t) (closed_in bits t)) × (ticks_left state.clock (timer_of state t) ≡ (nth_of cs t).p)
    pub later : (t : ℕ) → 0 < t → t ≤ 8 → 1 < ticks_left v.clock (timer_of v t)
        → (nth_of contacts t ≡ nth_of cs t) × (ticks_left state.clock (timer_of state t) + 1 ≡ ticks_left v.clock (timer_of v t))

  w : Ticks v i.sound i.tree
  w = ticked v i.sound i.tree

  abbrev v1 : State
  v1 = w.after

  come : (t : ℕ) → 0 < t → t ≤ 8 → Comes v i.sound i.tree v1 t
  come t a b = w.each t (i.each t a b).low

  busy : Busy v1 cs
  busy = record {
    sound = w.gives.sound;
    tree = w.gives.tree;
    tasks = w.gives.tasks ∙ i.tasks;
    contacts = i.contacts;
    settings = i.settings;
    each = λ t a b. go t a b (come t a b);
  }
    where
      go : (t : ℕ) → 0 < t → t ≤ 8 → Comes v i.sound i.tree v1 t → (place_of v1 t ≡ Ready) ⊎ Waits v1.clock (nth_of cs t).p (task_of v1 t)
      go t a b (comes e p) = inl p
      go t a b (stays f e g) =
          let k = i.each t a b in
          inr (rw e (record { place = k.place; low = omega (arith, f, g); high = omega (arith, g, k.high) }))

  few_ready : length v1.ready ≤ 8
  few_ready = omega (arith, lined_short v1.tasks (λ x. is_ready x.place) v1.ready refl busy.sound.ready, busy.tasks)

  done_by : {c : Card} → Turns bits v1 cs c → TickDone c
  done_by x = record {
    state = x.state;
    contacts = x.contacts;
    is = x.is;
    idle = x.idle;
    due = λ t a b e. due t a b e (come t a b);
    later = λ t a b e. later t a b e (come t a b);
  }
    where
      -- the ticks left are counted from the clock after the tick
      same : (y : Timer) → ticks_left x.state.clock y ≡ ticks_left v1.clock y
      same y = ap (λ (now : ℕ). ticks_left now y) x.clock

      due : (t : ℕ) → 0 < t → t ≤ 8 → ticks_left v.clock (timer_of v t) ≡ 1 → Comes v i.sound i.tree v1 t
          → (nth_of x.contacts t ≡ sampled (nth_of cs t) (closed_in bits t)) × (ticks_left x.state.clock (timer_of x.state t) ≡ (nth_of cs t).p)
      due t a b e (comes f p) = let k = x.woken t a b p in (k.0, same (timer_of x.state t) ∙ k.1)
      due t a b e (stays f q g) = absurd (omega (arith, e, f))

      later : (t : ℕ) → 0 < t → t ≤ 8 → 1 < ticks_left v.clock (timer_of v t) → Comes v i.sound i.tree v1 t
          → (nth_of x.contacts t ≡ nth_of cs t) × (ticks_left x.state.clock (timer_of x.state t) + 1 ≡ ticks_left v.clock (timer_of v t))
      later t a b e (comes f p) = absurd (omega (arith, e, f))
      later t a b e (stays f q g) =
          let k = x.others t a b (ap (λ (y : Task). y.place) q ∙ (i.each t a b).place) in
          (k.0, ap (λ (n : ℕ). n + 1) (same (timer_of x.state t)) ∙ ap (λ (y : Task). ticks_left v1.clock y.timer + 1) (k.1 ∙ q) ∙ g)

  pub tick_done : TickDone (ticked_card (card_of v cs) bits)
  unfolding ticked_card all_served
  tick_done =
      let q : serve 8 (card_of v1 cs) (running v1) bits ≡ ticked_card (card_of v cs) bits = λ j. serve 8 (record { supervisor = sym w.gives.state j; contacts = cs }) (sym w.gives.next j) bits in
      subst TickDone q (done_by (serve_turns bits 8 v1 cs busy few_ready))
