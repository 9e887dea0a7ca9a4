-- The test of a card passes exactly where the facts hold.
-- Assumes nothing.
use Rattle.std.proofs.Common.{◌≡◌, ℕ, zero, suc, ◌-◌, ◌<◌, ◌≤◌, true, false, eqb, leb, List, [], ◌∷◌, length, get_or, take, drop, replicate, sym, refl, ap, ◌∙◌, subst, arith, length-append, take-append-drop, length-take-le, eq-eqb, eqb-true, le-leb, leb-true}
use lib.ListN.{get_or-append, length-replicate}
use Rattle.lists.proofs.ListLaws.{by_bool, clash}
use Rattle.lists.proofs.Tests.{each, and_first, and_second, and_both}
use Rattle.rules.specs.State.{State, blank, task_of, ticks_left}
use Rattle.rules.specs.Whole.{view, pack, sound_whole}
use Rattle.rules.specs.declared.Task.{Task}
use Rattle.rules.specs.declared.Place.{Place}
use Rattle.rules.specs.declared.Place.TheVariants.{Blank, Ready, Delayed, Queued, Held, Accepting, Completed}
use Rattle.rules.proofs.WholeLaws.{sound_pack, sound_view, tree_view, whole_packed}
use Rattle.rules.proofs.EveryStruct.{typed_pack}
use Rattle.debounce.specs.declared.Card.{Card}
use Rattle.debounce.specs.declared.Contact.{Contact}
use Rattle.debounce.specs.Card.{no_contact, nth_of, good_setting, is_delayed, waits_for, all_wait, whole}
use Rattle.debounce.specs.Facts.{CardTyped, Undamaged}
use Rattle.debounce.proofs.ContactLaws.{InRange, in_range_of, range_test}
use Rattle.debounce.proofs.ServeLaws.{Waits, Idle, card_of}

-- ── one task and its contact ──

delayed_is : (p : Place) → is_delayed p ≡ true → p ≡ Delayed
delayed_is Delayed e = refl
delayed_is Blank e = cc
delayed_is Ready e = cc
delayed_is (Queued q) e = cc
delayed_is (Held m) e = cc
delayed_is (Accepting o) e = cc
delayed_is Completed e = cc

waits_test : (now : ℕ) (x : Task) (c : Contact) → InRange c.n c.p → Waits now c.p x → waits_for now x c ≡ true
waits_test now x c r w =
    and_both (and_both (and_both (range_test c.n c.p r) (ap is_delayed w.place)) (le-leb 1 (ticks_left now x.timer) w.low)) (le-leb (ticks_left now x.timer) c.p w.high)

waits_of : (now : ℕ) (x : Task) (c : Contact) → waits_for now x c ≡ true → InRange c.n c.p × Waits now c.p x
waits_of now x c e =
    let l = ticks_left now x.timer in
    let q = each (good_setting c.n c.p) (is_delayed x.place ∷ leb 1 l ∷ leb l c.p ∷ []) e in
    (in_range_of c.n c.p (q 0), record { place = delayed_is x.place (q 1); low = leb-true 1 l (q 2); high = leb-true l c.p (q 3) })

-- ── all of them ──

module _ (now : ℕ) where
  all_at : (xs : List Task) (cs : List Contact) → all_wait now xs cs ≡ true → (i : ℕ) → i < length cs → waits_for now (get_or xs i blank) (get_or cs i no_contact) ≡ true
  all_at xs [] e i h = absurd (omega arith)
  all_at [] (c ∷ cs) e i h = clash e refl
  all_at (x ∷ xs) (c ∷ cs) e zero h = and_first (waits_for now x c) (all_wait now xs cs) e
  all_at (x ∷ xs) (c ∷ cs) e (suc i) h = all_at xs cs (and_second (waits_for now x c) (all_wait now xs cs) e) i (omega arith)

  all_of : (xs : List Task) (cs : List Contact) → length cs ≤ length xs → ((i : ℕ) → i < length cs → waits_for now (get_or xs i blank) (get_or cs i no_contact) ≡ true) → all_wait now xs cs ≡ true
  all_of xs [] l h = refl
  all_of [] (c ∷ cs) l h = absurd (omega arith)
  all_of (x ∷ xs) (c ∷ cs) l h = and_both (h 0 (omega arith)) (all_of xs cs (omega arith) (λ i j. h (suc i) (omega arith)))

-- ── a card ──

-- task suc i of a state is at index i of the struct's table
at_index : (v : State) (i : ℕ) → i < length v.tasks → get_or (pack v).core.tasks i blank ≡ task_of v (suc i)
at_index v i h = get_or-append v.tasks (replicate (31 - length v.tasks) blank) blank i h

-- contact suc i of a list
nth_at : (cs : List Contact) (i : ℕ) → nth_of cs (suc i) ≡ get_or cs i no_contact
nth_at cs i = ap (λ (j : ℕ). get_or cs j no_contact) (omega arith)

-- what holds of task and contact 1 to 8 holds at index 0 to 7
idle_at : (v : State) (cs : List Contact) → Idle v cs → (i : ℕ) → i < 8 → InRange (get_or cs i no_contact).n (get_or cs i no_contact).p × Waits v.clock (get_or cs i no_contact).p (get_or (pack v).core.tasks i blank)
idle_at v cs d i h =
    let e = nth_at cs i in (
      subst (λ (c : Contact). InRange c.n c.p) e (d.settings (suc i) (omega arith) (omega arith)),
      subst (λ (x : Task). Waits v.clock (get_or cs i no_contact).p x) (sym (at_index v i (omega (arith, d.tasks))))
          (subst (λ (c : Contact). Waits v.clock c.p (task_of v (suc i))) e (d.each (suc i) (omega arith) (omega arith))),
    )

pub idle_whole : (v : State) (cs : List Contact) → Idle v cs → whole (card_of v cs) ≡ true
unfolding whole
idle_whole v cs d =
    and_both (and_both (sound_pack v d.sound d.tree) (eq-eqb (length v.tasks) 8 d.tasks))
    (all_of v.clock (pack v).core.tasks cs (omega (arith, d.contacts, d.tasks, length-append v.tasks (replicate (31 - length v.tasks) blank), length-replicate (31 - length v.tasks) blank))
    (λ i h. let k = idle_at v cs d i (omega (arith, h, d.contacts)) in waits_test v.clock (get_or (pack v).core.tasks i blank) (get_or cs i no_contact) k.0 k.1))

-- the table of the struct up to the created tasks
take_at : {A : Type 0} (xs : List A) (n i : ℕ) (d : A) → i < n → n ≤ length xs → get_or (take n xs) i d ≡ get_or xs i d
take_at xs n i d h l =
    sym (get_or-append (take n xs) (drop n xs) d i (omega (arith, h, length-take-le n xs l))) ∙ ap (λ (k : List _). get_or k i d) (take-append-drop n xs)

-- the three tests of a card
whole_parts : (c : Card) → whole c ≡ true → (sound_whole c.supervisor ≡ true) × (c.supervisor.core.created ≡ 8) × (all_wait c.supervisor.core.clock c.supervisor.core.tasks c.contacts ≡ true)
unfolding whole
whole_parts c e =
    let s = c.supervisor in
    let p = each (sound_whole s) (eqb s.core.created 8 ∷ all_wait s.core.clock s.core.tasks c.contacts ∷ []) e in
    (p 0, eqb-true s.core.created 8 (p 1), p 2)

pub whole_idle : (c : Card) → CardTyped c → whole c ≡ true → (c ≡ card_of (view c.supervisor) c.contacts) × Idle (view c.supervisor) c.contacts
whole_idle c t e =
    let s = c.supervisor in
    let parts = whole_parts c e in
    let sound = parts.0 in
    let many = parts.1 in
    let all = all_at s.core.clock s.core.tasks c.contacts parts.2 in
    let long : length (view s).tasks ≡ 8 = length-take-le s.core.created s.core.tasks (omega (arith, many, t.supervisor.core.tasks)) ∙ many in (
      λ i. record { supervisor = whole_packed s t.supervisor sound i; contacts = c.contacts },
      record {
        sound = sound_view s t.supervisor sound;
        tree = tree_view s t.supervisor sound;
        tasks = long;
        contacts = t.contacts;
        settings = λ k a b. (at k a b (all (k - 1) (omega (arith, a, b, t.contacts))) many).0;
        each = λ k a b. (at k a b (all (k - 1) (omega (arith, a, b, t.contacts))) many).1;
      },
    )
  where
    at : (k : ℕ) → 0 < k → k ≤ 8 → waits_for c.supervisor.core.clock (get_or c.supervisor.core.tasks (k - 1) blank) (nth_of c.contacts k) ≡ true → c.supervisor.core.created ≡ 8
        → InRange (nth_of c.contacts k).n (nth_of c.contacts k).p × Waits c.supervisor.core.clock (nth_of c.contacts k).p (task_of (view c.supervisor) k)
    at zero a b q m = absurd (omega arith)
    at (suc k) a b q m =
        let s = c.supervisor in
        let w = waits_of s.core.clock (get_or s.core.tasks (suc k - 1) blank) (nth_of c.contacts (suc k)) q in
        let same : get_or s.core.tasks (suc k - 1) blank ≡ task_of (view s) (suc k) =
        ap (λ (j : ℕ). get_or s.core.tasks j blank) (omega arith) ∙ sym (take_at s.core.tasks s.core.created k blank (omega (arith, b, m)) (omega (arith, m, t.supervisor.core.tasks))) in
        (w.0, subst (λ (x : Task). Waits s.core.clock (nth_of c.contacts (suc k)).p x) same w.1)

-- the test passes exactly where the facts hold
module _ (c : Card) (t : CardTyped c) where
  pub undamaged : whole c ≡ true → Undamaged c
  undamaged e =
      let d = (whole_idle c t e).1 in
      record {
        sound = (whole_parts c e).0;
        settings = λ k a b. range_test (nth_of c.contacts k).n (nth_of c.contacts k).p (d.settings k a b);
        tasks = (whole_parts c e).1;
        delaying = λ k a b. (d.each k a b).place;
        low = λ k a b. (d.each k a b).low;
        high = λ k a b. (d.each k a b).high;
      }

  pub passes : Undamaged c → whole c ≡ true
  passes f =
      let s = c.supervisor in
      let long : length (view s).tasks ≡ 8 = length-take-le s.core.created s.core.tasks (omega (arith, f.tasks, t.supervisor.core.tasks)) ∙ f.tasks in
      let d : Idle (view s) c.contacts = record {
        sound = sound_view s t.supervisor f.sound;
        tree = tree_view s t.supervisor f.sound;
        tasks = long;
        contacts = t.contacts;
        settings = λ k a b. in_range_of (nth_of c.contacts k).n (nth_of c.contacts k).p (f.settings k a b);
        each = λ k a b. record { place = f.delaying k a b; low = f.low k a b; high = f.high k a b };
      } in
      let e : card_of (view s) c.contacts ≡ c = λ i. record { supervisor = sym (whole_packed s t.supervisor f.sound) i; contacts = c.contacts } in
      subst (λ (x : Card). whole x ≡ true) e (idle_whole (view s) c.contacts d)

-- between two ticks a card is not damaged
pub idle_undamaged : (v : State) (cs : List Contact) → Idle v cs → Undamaged (card_of v cs)
idle_undamaged v cs d = undamaged (card_of v cs) (record { supervisor = typed_pack v d.sound; contacts = d.contacts }) (idle_whole v cs d)

-- a card with a contact that is not there is damaged
pub out_of_range : (c : Card) (i : ℕ) → i < length c.contacts → get_or c.contacts i no_contact ≡ no_contact → whole c ≡ false
out_of_range c i h e =
    let s = c.supervisor in
    let x = get_or s.core.tasks i blank in
    by_bool (whole c)
    (λ w. clash (all_at s.core.clock s.core.tasks c.contacts (whole_parts c w).2 i h) (ap (waits_for s.core.clock x) e))
    (λ w. w)
