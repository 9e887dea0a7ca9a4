-- The library as a run of statement 3, proved.
-- Assumes nothing.
use Prim.Native.Nat.{ℕ, zero, suc, ◌+◌, ◌≤◌, ◌<◌}
use mathlib.Core.Path.{◌≡◌, refl, sym, ap, ◌∙◌, subst}
use mathlib.Core.Bool.{true, false}
use mathlib.Core.List.{List, [], ◌∷◌, ◌++◌}
use native.Mathlib.Omega.{arith}
use lib.Dec.{eqb, ltb}
use lib.ListN.{length, drop, length-append}
use lib.Seq.{drop_at}
use borrow.Author.Tests.{le-ltb}
use Rattle.lists.proofs.ListLaws.{by_bool}
use Rattle.lists.proofs.Tests.{differ, if-true, if-false}
use Rattle.calls.specs.Reading.{read_of}
use Rattle.calls.specs.declared.Call as C
use Rattle.calls.specs.declared.Record.{Record}
use Rattle.calls.specs.declared.ReadError.{ReadError}
use Rattle.std.specs.Prelude.{Result, Ok, Err}
use Rattle.rules.specs.State.{empty}
use Rattle.rules.specs.Step.{room_after}
use Rattle.rules.specs.Whole.{Typed, Whole, step_whole, answer_of}
use Rattle.rules.specs.Runs.{start}
use Rattle.rules.specs.Uses.{Use, Keeps, Chain}
use Rattle.rules.specs.declared.Answer.{Answer}
use Rattle.rules.specs.declared.Supervisor.{Supervisor}
use Rattle.rules.proofs.Dispatch.{untouched}
use Rattle.rules.proofs.EveryStruct.{typed_pack, step_typed}
use Rattle.rules.proofs.OverRuns.{empty_sound}
use Rattle.codec.specs.Layout.{state_size, encode, state_in, stored}
use Rattle.codec.proofs.Kept as codec
use Rattle.card.specs.Answers.{step_by, state_after, answer_bytes, if_room}
use Rattle.card.proofs.CardLaws.{did_unread, step_by_lem}
use Rattle.statements.specs.Statement3.{reached}
use Rattle.statements.specs.Library.{CardUse, step_in, KeepsCard, CardChain, left_by, answer_in, uses_by, uses_of, uses_in, RunsCard, Library}

-- ── a state in its bytes ──

sized : (s : Supervisor) → Typed s → codec.Sized s
sized s t = record { tasks = t.core.tasks; ready = t.core.ready; callers = t.callers; held = t.core.held; delays = t.core.delays }

-- the bytes b hold a state, and the bytes behind it are those of b₀
record Holds (b₀ b : List ℕ) : Type 0 where
  typed : Typed (state_in b)
  bytes : b ≡ encode (state_in b) ++ drop state_size b₀

module _ (b₀ : List ℕ) (s : Supervisor) (t : Typed s) where
  put_back : state_in (encode s ++ drop state_size b₀) ≡ s
  put_back = codec.kept s (sized s t) (drop state_size b₀)

  put_holds : Holds b₀ (encode s ++ drop state_size b₀)
  put_holds = record { typed = subst Typed (sym put_back) t; bytes = ap (λ (x : Supervisor). encode x ++ drop state_size b₀) (sym put_back) }

  -- where bytes hold a state, another is put into them
  put_over : (b : List ℕ) → Holds b₀ b → stored s b ≡ encode s ++ drop state_size b₀
  unfolding stored
  put_over b h =
      let l = codec.encode_long (state_in b) (sized (state_in b) h.typed) in
      let d : drop state_size b ≡ drop state_size b₀ = ap (drop state_size) h.bytes ∙ drop_at (encode (state_in b)) (drop state_size b₀) state_size l in
      let n : length b ≡ length (encode (state_in b)) + length (drop state_size b₀) = ap length h.bytes ∙ length-append (encode (state_in b)) (drop state_size b₀) in
      if-false (ltb (length b) state_size) b (encode s ++ drop state_size b) (le-ltb (length b) state_size (omega (arith, l, n))) ∙ ap (λ (x : List ℕ). encode s ++ x) d

-- ── one use ──

-- the seven numbers are read back from their bytes
answer_back : (a : Answer) (more : List ℕ) → answer_in (answer_bytes a ++ more) ≡ a
answer_back a more = refl

module _ (b₀ b : List ℕ) (h : Holds b₀ b) (c : C.Call) (n : ℕ) where
  abbrev w : Whole
  w = step_whole (state_in b) c n

  -- what a step leaves in the bytes is the state that it gives
  stepped : (state_in (state_after b w) ≡ w.state) × Holds b₀ (state_after b w)
  stepped =
      by_bool (eqb w.refusal 0)
      (λ e.
      let t = step_typed (state_in b) h.typed c n in
      let q : state_after b w ≡ encode w.state ++ drop state_size b₀ = if-true (eqb w.refusal 0) (stored w.state b) b e ∙ put_over b₀ w.state t b h in
      (ap state_in q ∙ put_back b₀ w.state t, subst (Holds b₀) (sym q) (put_holds b₀ w.state t)))
      (λ e.
      let q : state_after b w ≡ b = if-false (eqb w.refusal 0) (stored w.state b) b e in
      let z : 0 < w.refusal = positive w.refusal e in
      (ap state_in q ∙ sym (untouched (state_in b) c n z).state, subst (Holds b₀) (sym q) h))
    where
      positive : (k : ℕ) → eqb k 0 ≡ false → 0 < k
      positive zero e = differ e
      positive (suc k) e = omega arith

-- what a use of the library is: these uses of `step`, from the state in the bytes b to that in the bytes b'
record Takes (b₀ b : List ℕ) (us : List Use) (b' : List ℕ) : Type 0 where
  holds : Holds b₀ b'
  chain : (more : List Use) → Chain (state_in b') more → Chain (state_in b) (us ++ more)
  ends : (more : List Use) → reached (state_in b) (us ++ more) ≡ reached (state_in b') more

-- bytes that stay: no use
stays : (b₀ b b' : List ℕ) → Holds b₀ b → b' ≡ b → Takes b₀ b [] b'
stays b₀ b b' h e = record {
  holds = subst (Holds b₀) (sym e) h;
  chain = λ more c. subst (λ (x : List ℕ). Chain (state_in x) more) e c;
  ends = λ more. ap (λ (x : List ℕ). reached (state_in x) more) (sym e);
}

module _ (b : List ℕ) (u : CardUse) (k : KeepsCard b u) where
  -- with no room for the answer nothing is done
  short : ltb (length u.answer) 7 ≡ true → (u.left ≡ b) × (u.wrote ≡ u.room)
  short e =
      let none = ltb (length u.answer) 7 in (
        k.left ∙ if-true none b (state_after b (step_in b u)) e,
        k.wrote ∙ if-true none u.room (room_after u.room (step_in b u).ended) e,
      )

  -- with room, what is done is the step of what was read
  module _ (f : ltb (length u.answer) 7 ≡ false) (r : Result Record ReadError) (e : read_of u.sent ≡ r) where
    abbrev does : Whole
    does = step_by step_whole (state_in b) (length u.room) r

    is : step_in b u ≡ does
    is = step_by_lem b u.sent (length u.room) r (sym e)

    left_is : u.left ≡ state_after b does
    left_is = k.left ∙ if-false _ _ _ f ∙ ap (state_after b) is

    wrote_is : u.wrote ≡ room_after u.room does.ended
    wrote_is = k.wrote ∙ if-false _ _ _ f ∙ ap (λ (x : Whole). room_after u.room x.ended) is

    told_is : answer_in u.told ≡ answer_of does
    told_is = ap answer_in (k.told ∙ if-false _ _ _ f) ∙ answer_back (answer_of (step_in b u)) (drop 7 u.answer) ∙ ap answer_of is

  -- a record that cannot be read leaves the bytes as they were
  unread_left : ltb (length u.answer) 7 ≡ false → (error : ReadError) → read_of u.sent ≡ Err error → u.left ≡ b
  unread_left f error e = left_is f (Err error) e ∙ sym (did_unread stored b u.room (state_in b) error).1.0

  took : (b₀ : List ℕ) → Holds b₀ b → ltb (length u.answer) 7 ≡ false → (r : Result Record ReadError) → read_of u.sent ≡ r → Takes b₀ b (uses_by u r) u.left
  took b₀ h f (Ok r) e =
      let l = left_is f (Ok r) e in
      let t = told_is f (Ok r) e in
      let s = stepped b₀ b h r.call (length u.room) in
      let g = ap state_in l ∙ s.0 in
      let kept : Keeps (state_in b) (record { call = r.call; lent = u.room; gave = record { state = state_in u.left; answer = answer_in u.told }; wrote = u.wrote }) =
      record { answer = λ i. record { state = g i; answer = t i }; room = wrote_is f (Ok r) e } in
      record { holds = subst (Holds b₀) (sym l) s.1; chain = λ more m. (kept, m); ends = λ more. refl }
  took b₀ h f (Err error) e = stays b₀ b u.left h (unread_left f error e)

  takes : (b₀ : List ℕ) → Holds b₀ b → Takes b₀ b (uses_of u) u.left
  takes b₀ h =
      by_bool (ltb (length u.answer) 7)
      (λ e. subst (λ (us : List Use). Takes b₀ b us u.left) (sym (if-true _ _ _ e)) (stays b₀ b u.left h (short e).0))
      (λ e. subst (λ (us : List Use). Takes b₀ b us u.left) (sym (if-false _ _ _ e)) (took b₀ h e (read_of u.sent) refl))

  returns : 7 ≤ length u.answer → u.returned ≡ (answer_in u.told).refusal
  returns h =
      let f = le-ltb (length u.answer) 7 h in
      k.returned ∙ if-false _ _ _ f ∙ sym (ap (λ (x : List ℕ). (answer_in x).refusal) (k.told ∙ if-false _ _ _ f))

  idle : (r : Result Record ReadError) → read_of u.sent ≡ r → ltb (length u.answer) 7 ≡ false → uses_by u r ≡ [] → (u.left ≡ b) × (u.wrote ≡ u.room)
  idle (Ok r) e f z = let q : ◌≡◌ {A = ℕ} 1 0 = ap length z in absurd (omega (arith, q))
  idle (Err error) e f z = (unread_left f error e, wrote_is f (Err error) e)

  idles : uses_of u ≡ [] → (u.left ≡ b) × (u.wrote ≡ u.room)
  idles z = by_bool (ltb (length u.answer) 7) short (λ f. idle (read_of u.sent) refl f (sym (if-false _ _ _ f) ∙ z))

-- ── a sequence of uses ──

record Went (b₀ b : List ℕ) (us : List CardUse) : Type 0 where
  holds : Holds b₀ (left_by b us)
  chain : Chain (state_in b) (uses_in us)
  ends : state_in (left_by b us) ≡ reached (state_in b) (uses_in us)

goes : (b₀ b : List ℕ) (us : List CardUse) → Holds b₀ b → CardChain b us → Went b₀ b us
goes b₀ b [] h c = record { holds = h; chain = tt; ends = refl }
goes b₀ b (u ∷ us) h c =
    let t = takes b u c.0 b₀ h in
    let g = goes b₀ u.left us t.holds c.1 in
    record { holds = g.holds; chain = t.chain (uses_in us) g.chain; ends = g.ends ∙ sym (t.ends (uses_in us)) }

runs : (n : ℕ) → n < 4294967296 → (b : List ℕ) → state_size ≤ length b → (us : List CardUse) → CardChain (stored (start n) b) us → RunsCard n b us
unfolding stored
runs n h b l us c =
    let t = typed_pack (empty n) (empty_sound n h) in
    let q : stored (start n) b ≡ encode (start n) ++ drop state_size b = if-false (ltb (length b) state_size) b (encode (start n) ++ drop state_size b) (le-ltb (length b) state_size l) in
    let s : state_in (stored (start n) b) ≡ start n = ap state_in q ∙ put_back b (start n) t in
    let g = goes b (stored (start n) b) us (subst (Holds b) (sym q) (put_holds b (start n) t)) c in
    let e = g.ends ∙ ap (λ (x : Supervisor). reached x (uses_in us)) s in
    record {
      run = record { clock = h; uses = uses_in us; kept = subst (λ (x : Supervisor). Chain x (uses_in us)) s g.chain };
      uses = refl;
      left = g.holds.bytes ∙ ap (λ (x : Supervisor). encode x ++ drop state_size b) e;
      state = e;
    }

starts : (b b' : List ℕ) (n r : ℕ) → r ≡ if_room state_size b 1 0 → b' ≡ stored (start n) b → state_size ≤ length b → (r ≡ 0) × (b' ≡ stored (start n) b)
starts b b' n r p q h = (p ∙ if-false _ _ _ (le-ltb (length b) state_size h), q)

pub library : Library
library = record {
  as_card = λ κs x r y p. record { returned = p.0; left = p.1.0; wrote = p.1.1.0; told = p.1.1.1 };
  card_starts = λ κs x r y p. starts x.0.now y.0.now x.1.0 r p.0 p.1;
  card_tells_sound = λ κs x r y p. p;
  card_tells_count = λ κs x r y p. (p.0, p.1);
  card_tells_callable = λ κs x r y p. (p.0, p.1);
  card_tells_running = λ κs x r y p. (p.0, p.1);
  card_tells_priority = λ κs x r y p. (p.0, p.1);
  card_run = runs;
  card_returns = returns;
  card_idles = idles;
}
