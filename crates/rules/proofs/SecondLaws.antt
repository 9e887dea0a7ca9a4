-- Alike states stay alike, and the rows of a struct of the second engine are the queues of its state.
-- Assumes nothing.
use Prim.Native.Nat.{ℕ, zero, suc, ◌+◌, ◌<◌, ◌≤◌}
use mathlib.Core.Path.{◌≡◌, refl, sym, ◌∙◌, ap}
use mathlib.Core.Bool.{Bool, true, false, ◌&&◌, and-false}
use mathlib.Core.List.{List, [], ◌∷◌, ◌++◌, append-nil}
use native.Mathlib.Omega.{arith}
use lib.ListN.{length}
use lib.Dec.{eqb, ltb, leb}
use borrow.Author.Tests.{eq-eqb, ne_eqb, eqb-true, leb-true, leb-false}
use Rattle.lists.specs.Line.{line, pad, tidy}
use Rattle.lists.specs.Lists.{when◌then◌else◌, bit, filter, count, every}
use Rattle.lists.proofs.LineLaws.{line_pad, line_picked, length_pad}
use Rattle.lists.proofs.Tests.{and_first, and_second, and_both}
use Rattle.lists.proofs.ListLaws.{clash, by_bool, every_at, every_of, count_append, count_filter_yes, count_filter_no, count_filter_le}
use Rattle.lists.proofs.MarkLaws.{filter_append, out, filter_none}
use Rattle.rules.specs.State.{State, empty, task_of, place_of, is_queued, partner_of, running}
use Rattle.rules.specs.Sound.{sound}
use Rattle.rules.specs.Step.{Outcome, refused, took, none, take_call}
use Rattle.rules.specs.declared.Refusal.{Refusal}
use Rattle.rules.specs.declared.Refusal.TheVariants.{BadField, ShortRoom}
use Rattle.rules.specs.Callers.{calling, callers_of, with_callers, core, queued_in, core_of, Alike, gone_by, comes_by, Told}
use Rattle.rules.specs.Whole.{decline, done_by}
use Rattle.rules.specs.Second.{gathered, rows_from, view_second, pack_second, rows_right, sound_second, step_second}
use Rattle.rules.specs.declared.Item.{Item}
use Rattle.rules.specs.declared.Task.{Task}
use Rattle.rules.specs.declared.Row.{Row}
use Rattle.rules.specs.declared.Place.{Place}
use Rattle.rules.specs.declared.Place.TheVariants.{Blank, Ready, Delayed, Queued, Held, Accepting, Completed}
use Rattle.calls.specs.declared.Call as C
use Rattle.rules.proofs.Invariant.{Sound, Calls}
use Rattle.rules.proofs.Members.{in_filter, nth_beyond, queued_good}
use Rattle.rules.proofs.Fate.{FateOf, fate}
use Rattle.rules.proofs.StepSound.{Kept, call_sound}
use Rattle.rules.proofs.SoundTest.{sound_test}
use Rattle.rules.proofs.WholeLaws.{view_core_lem, packed_core_lem, callers_fit, no_zero, behind}
use Rattle.rules.proofs.Apart.{same_step, same_wait, tells}
use Rattle.rules.proofs.TreeLaws.{Tree, Quiet, quiet_agree, quiet_no_ring}
use Rattle.rules.proofs.Leaving.{queue_told}

-- ── alike states give alike outcomes ──

-- two outcomes, the same but for the order of calls to different tasks
abbrev pub Parallel : Outcome → Outcome → Type 0
Parallel (refused r) (refused q) = r ≡ q
Parallel (refused r) (took w b m) = ⊥
Parallel (took v a l) (refused q) = ⊥
Parallel (took v a l) (took w b m) = Alike v w × (a ≡ b) × (l ≡ m)

kind : Outcome → ℕ
kind (refused r) = 0
kind (took v a l) = 1

why : Outcome → Refusal
why (refused r) = r
why (took v a l) = BadField

next : Outcome → State
next (refused r) = empty 0
next (took v a l) = v

told : Outcome → Item
told (refused r) = none
told (took v a l) = a

ended : Outcome → List Item
ended (refused r) = []
ended (took v a l) = l

-- who comes, if anybody does
abbrev pub comer : C.Call → Item → List Item → List ℕ
comer c a l = when comes_by c a.result (length l) then a.task ∷ [] else []

swap : (s u : State) → Alike s u → with_callers s u.callers ≡ u
swap s u a = λ i. with_callers (a.core i) u.callers

pub alike_steps : (s u : State) (c : C.Call) → Sound s → Sound u → Alike s u → Parallel (take_call s c) (take_call u c)
unfolding kind why next told ended
alike_steps s u c h k a = go (take_call s c) (take_call u c) same (tells s c h) (tells u c k) (call_sound s c h) (call_sound u c k) (λ x. fate s c x h) (λ x. fate u c x k)
  where
    same : core_of (take_call s c) ≡ core_of (take_call u c)
    same = same_step s u.callers c (λ _. a.queues (running s) ∙ ap (λ (z : State). callers_of z (running s)) (sym (swap s u a))) ∙ ap (λ (z : State). core_of (take_call z c)) (swap s u a)

    go : (o q : Outcome) → core_of o ≡ core_of q → Told c s.callers o → Told c u.callers q → Kept o → Kept q → ((x : ℕ) → FateOf s c x o) → ((x : ℕ) → FateOf u c x q) → Parallel o q
    go (refused r) (refused q) e d f i j x y = ap why e
    go (refused r) (took w b m) e d f i j x y = absurd (omega (arith, ap kind e))
    go (took v b l) (refused q) e d f i j x y = absurd (omega (arith, ap kind e))
    go (took v b l) (took w d m) e p q i j x y =
        let n : core v ≡ core w = ap next e in
        let t : b ≡ d = ap told e in
        let z : l ≡ m = ap ended e in (
          record {
            core = n;
            queues = λ g. queue_told s v (gone_by b l) (comer c b l) g h i p (λ r f k. same_wait s v c b l r (x r) f k)
                ∙ (λ i. filter (out (gone_by (t i) (z i))) (a.queues g i) ++ filter (calling (n i) g) (comer c (t i) (z i)))
                ∙ sym (queue_told u w (gone_by d m) (comer c d m) g k j q (λ r f k. same_wait u w c d m r (y r) f k));
          },
          t,
          z,
        )

-- ── the rows of a struct are the queues of its state ──

-- row k of a list of rows
abbrev pub row_at : List Row → ℕ → List ℕ
row_at [] k = []
row_at (r ∷ rs) zero = line r.line
row_at (r ∷ rs) (suc k) = row_at rs k

filter_yes : (f : ℕ → Bool) (l : List ℕ) → ((x : ℕ) → 0 < count x l → f x ≡ true) → filter f l ≡ l
filter_yes f [] h = refl
filter_yes f (x ∷ xs) h = rw (h x (rw (eq-eqb x x refl) (omega arith))) (ap (◌∷◌ x) (filter_yes f xs (λ y k. h y (omega arith))))

-- who has called one task has called no other
one_call : (s : State) (g k x : ℕ) → calling s g x ≡ true → (g ≡ k → ⊥) → calling s k x ≡ false
one_call s g k x e n =
    let p = place_of s x in
    let q = and_second (is_queued p) (eqb (partner_of p) g) e in
    rw (ne_eqb (partner_of p) k (λ z. n (sym (eqb-true (partner_of p) g q) ∙ z))) (and-false (is_queued p))

module _ (s : State) where
  -- the parts of the test of the rows
  row_calls : (g : ℕ) (r : Row) (rs : List Row) → rows_right s g (r ∷ rs) ≡ true → (x : ℕ) → 0 < count x (line r.line) → calling s g x ≡ true
  row_calls g r rs e x k = every_at (calling s g) (line r.line) (and_second (tidy r.line) (every (calling s g) (line r.line)) (and_first (tidy r.line && every (calling s g) (line r.line)) (rows_right s (suc g) rs) e)) x k

  rows_rest : (g : ℕ) (r : Row) (rs : List Row) → rows_right s g (r ∷ rs) ≡ true → rows_right s (suc g) rs ≡ true
  rows_rest g r rs e = and_second (tidy r.line && every (calling s g) (line r.line)) (rows_right s (suc g) rs) e

  pub row_below : (rs : List Row) (g k : ℕ) → rows_right s g rs ≡ true → k < g → filter (calling s k) (gathered rs) ≡ []
  row_below [] g k e h = refl
  row_below (r ∷ rs) g k e h =
      filter_append (calling s k) (line r.line) (gathered rs)
      ∙ (λ i. filter_none (calling s k) (line r.line) (λ x j. one_call s g k x (row_calls g r rs e x j) (λ z. omega arith)) i ++ row_below rs (suc g) k (rows_rest g r rs e) (omega arith) i)

  pub row_is : (rs : List Row) (g k : ℕ) → rows_right s g rs ≡ true → filter (calling s (g + k)) (gathered rs) ≡ row_at rs k
  row_is [] g k e = refl
  row_is (r ∷ rs) g zero e =
      let z : g + 0 ≡ g = omega arith in
      ap (λ (m : ℕ). filter (calling s m) (line r.line ++ gathered rs)) z
      ∙ filter_append (calling s g) (line r.line) (gathered rs)
      ∙ (λ i. filter_yes (calling s g) (line r.line) (row_calls g r rs e) i ++ row_below rs (suc g) g (rows_rest g r rs e) (omega arith) i)
      ∙ append-nil (line r.line)
  row_is (r ∷ rs) g (suc k) e =
      filter_append (calling s (g + suc k)) (line r.line) (gathered rs)
      ∙ (λ i. filter_none (calling s (g + suc k)) (line r.line) (λ x j. one_call s g (g + suc k) x (row_calls g r rs e x j) (λ z. omega arith)) i ++ filter (calling s (g + suc k)) (gathered rs))
      ∙ ap (λ (m : ℕ). filter (calling s m) (gathered rs)) (omega arith)
      ∙ row_is rs (suc g) k (rows_rest g r rs e)

-- ── the struct that stands for a state ──

module _ (u : State) (h : Sound u) where
  pub row_line : (g : ℕ) → line (pad (callers_of u g)) ≡ callers_of u g
  row_line g =
      let p : line (pad u.callers) ≡ u.callers = line_pad u.callers (no_zero u.callers (h.callers 0)) (callers_fit u h) in
      ap (λ (l : List ℕ). line (pad (filter (calling u g) l))) (sym p) ∙ line_picked (calling u g) (pad u.callers) (length_pad u.callers) ∙ ap (filter (calling u g)) p

  rows_right_lem : (k g : ℕ) → rows_right u g (rows_from u k g) ≡ true
  rows_right_lem zero g = refl
  rows_right_lem (suc k) g =
      and_both (and_both
      (behind (callers_of u g) (omega (arith, count_filter_le (calling u g) 0 u.callers, h.callers 0)))
      (ap (every (calling u g)) (row_line g) ∙ every_of (calling u g) (callers_of u g) (λ x j. (in_filter (calling u g) x u.callers j).0)))
      (rows_right_lem k (suc g))

  -- the line of callers that a struct of the second engine stands for
  abbrev pub regrouped : State
  regrouped = with_callers u (gathered (rows_from u 31 1))

  row_from : (k g j : ℕ) → j < k → row_at (rows_from u k g) j ≡ callers_of u (g + j)
  row_from zero g j l = absurd (omega arith)
  row_from (suc k) g zero l = row_line g ∙ ap (callers_of u) (omega arith)
  row_from (suc k) g (suc j) l = row_from k (suc g) j (omega arith) ∙ ap (callers_of u) (omega arith)

  row_past : (k g j : ℕ) → k ≤ j → row_at (rows_from u k g) j ≡ []
  row_past zero g j l = refl
  row_past (suc k) g zero l = absurd (omega arith)
  row_past (suc k) g (suc j) l = row_past k (suc g) j (omega arith)

  -- nobody has called a task that is not there
  called_there : (x g : ℕ) → calling u g x ≡ true → (0 < g) × (g ≤ 31)
  called_there x g e = go (place_of u x) refl
    where
      go : (p : Place) → place_of u x ≡ p → (0 < g) × (g ≤ 31)
      go (Queued q) z =
          let i : q.target ≡ g = eqb-true q.target g (rw z at e) in
          let c : Calls (task_of u q.target) q.entry = queued_good u x q h z in
          at q.target c i
        where
          at : (t : ℕ) → Calls (task_of u t) q.entry → t ≡ g → (0 < g) × (g ≤ 31)
          at zero c i = absurd (omega (arith, c.low, c.high))
          at (suc t) c i =
              by_bool (leb (suc t) (length u.tasks))
              (λ b. (omega arith, omega (arith, leb-true (suc t) (length u.tasks) b, h.few)))
              (λ b. absurd (omega (arith, c.low, c.high, ap (λ (y : Task). y.entries) (nth_beyond u.tasks (suc t) (leb-false (suc t) (length u.tasks) b)))))
      go Blank z = clash e (rw z)
      go Ready z = clash e (rw z)
      go Delayed z = clash e (rw z)
      go (Held m) z = clash e (rw z)
      go (Accepting o) z = clash e (rw z)
      go Completed z = clash e (rw z)

  none_there : (g : ℕ) → ((0 < g) × (g ≤ 31) → ⊥) → callers_of u g ≡ []
  none_there g n = filter_none (calling u g) u.callers (λ x j. by_bool (calling u g x) (λ e. absurd (n (called_there x g e))) (λ e. e))

  pub regrouped_queue : (g : ℕ) → callers_of regrouped g ≡ callers_of u g
  regrouped_queue zero = row_below u (rows_from u 31 1) 1 0 (rows_right_lem 31 1) (omega arith) ∙ sym (none_there 0 (λ i. omega (arith, i.0)))
  regrouped_queue (suc g) =
      ap (λ (m : ℕ). filter (calling u m) (gathered (rows_from u 31 1))) (omega arith)
      ∙ row_is u (rows_from u 31 1) 1 g (rows_right_lem 31 1)
      ∙ by_bool (ltb g 31)
      (λ b. row_from 31 1 g (borrow.Author.Tests.ltb-true g 31 b) ∙ ap (callers_of u) (omega arith))
      (λ b. let l = borrow.Author.Tests.ltb-false g 31 b in row_past 31 1 g l ∙ sym (none_there (suc g) (λ i. omega (arith, i.1, l))))

  pub regrouped_alike : Alike u regrouped
  regrouped_alike = record { core = refl; queues = λ g. sym (regrouped_queue g) }

  not-queued : (k g x : ℕ) → queued_in u x ≡ false → count x (gathered (rows_from u k g)) ≡ 0
  not-queued zero g x e = refl
  not-queued (suc k) g x e =
      omega (
        arith,
        count_append x (line (pad (callers_of u g))) (gathered (rows_from u k (suc g))),
        ap (count x) (row_line g),
        count_filter_no (calling u g) x u.callers (rw e),
        not-queued k (suc g) x e,
      )

  regrouped_count : (x : ℕ) → count x (gathered (rows_from u 31 1)) ≡ bit (queued_in u x)
  regrouped_count x =
      by_bool (queued_in u x)
      (λ e.
      let g = partner_of (place_of u x) in
      let c : calling u g x ≡ true = rw e (eq-eqb g g refl) in
      sym (count_filter_yes (calling u g) x (gathered (rows_from u 31 1)) c)
      ∙ ap (count x) (regrouped_queue g) ∙ count_filter_yes (calling u g) x u.callers c ∙ h.callers x)
      (λ e. not-queued 31 1 x e ∙ sym (ap bit e))

  pub regrouped_sound : Sound regrouped
  regrouped_sound = record {
    clock = h.clock;
    few = h.few;
    good = h.good;
    ready = h.ready;
    callers = regrouped_count;
    held = h.held;
    delays = h.delays;
    order = h.order;
  }

  -- the tree does not tell of the callers
  pub regrouped_tree : Tree u → Tree regrouped
  regrouped_tree g =
      let q : Quiet u regrouped = record { held = λ _. refl; priority = λ _. refl; current = λ _. refl; kept = λ _. refl; isheld = λ _. refl; holder = λ _ _. refl } in
      record { agree = quiet_agree u regrouped q g.agree; no_ring = quiet_no_ring u regrouped q g.no_ring }

  pub view_second_lem : view_second (pack_second u) ≡ regrouped
  view_second_lem = λ i. with_callers (view_core_lem u h i) (gathered (rows_from u 31 1))

  pub sound_second_lem : Tree u → sound_second (pack_second u) ≡ true
  sound_second_lem g =
      and_both (and_both (packed_core_lem u h) (ap (λ (z : State). rows_right z 1 (rows_from u 31 1)) (view_core_lem u h) ∙ rows_right_lem 31 1))
      (ap sound view_second_lem ∙ sound_test regrouped regrouped_sound (regrouped_tree g))

  pub second_short : (c : C.Call) (room : ℕ) → ltb room 124 ≡ true → step_second (pack_second u) c room ≡ decline (pack_second u) ShortRoom 0
  unfolding step_second
  second_short c room b = rw b

  pub second_takes : Tree u → (c : C.Call) (room : ℕ) → ltb room 124 ≡ false → step_second (pack_second u) c room ≡ done_by pack_second (pack_second u) regrouped (take_call regrouped c)
  unfolding step_second
  second_takes g c room b = rw (b, sound_second_lem g) (ap (λ (z : State). done_by pack_second (pack_second u) z (take_call z c)) view_second_lem)
