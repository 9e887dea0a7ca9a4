-- FINISH.
-- Assumes nothing.
use Rattle.std.proofs.Common.{◌≡◌, ℕ, zero, suc, ◌+◌, ◌-◌, ◌<◌, ◌≤◌, true, eqb, ltb, List, [], ◌∷◌, ◌++◌, map, length, get_or, Ok, sym, refl, ap, ◌∙◌, subst, append_assoc, append-nil, add-one, arith, ltb-false, ltb-true, le-ltb, lt-ltb, eq-eqb, ne_eqb, eqb-true, Bool, false, not, true≢false, zero-add}
use Rattle.std.specs.List.{list_any}
use mathlib.Core.List.{tail-eq_of_cons-eq}
use lib.ListN.{length-map, get_or-eq_default}
use Rattle.lists.proofs.LineLaws.{line_line, line_append, line_pad}
use Rattle.lists.specs.Line.{line, pad, pad_to}
use Rattle.lists.specs.Lists.{when◌then◌else◌, filter, count}
use Rattle.lists.specs.Marks.{no_marks, mark_of, marked, with_mark}
use Rattle.lists.proofs.MarkLaws.{filter_same, mark_in, marked_length}
use Rattle.rules.specs.State.{State, move, running, waits_on, queue, holds, held_by, wake_all}
use Rattle.rules.specs.Step.{refused, took, item, DONE, take_call, queued_from, queued_on, finish, failed, room_after}
use Rattle.rules.specs.declared.Refusal.TheVariants.{NoTask, StillServing}
use Rattle.rules.specs.Whole.{view_core}
use Rattle.rules.specs.declared.Core.{Core}
use Rattle.rules.specs.declared.Task.{Task}
use Rattle.rules.specs.declared.Place.TheVariants.{Completed}
use Rattle.rules.specs.declared.Timer.TheVariants.{Off}
use Rattle.calls.specs.declared.Call.TheVariants.{Finish}
use Rattle.rules.specs.Callers.{with_callers, callers_of, core_of}
use Rattle.rules.proofs.Apart.{core_wakes, core_move, same_queued}
use Rattle.rules.proofs.Invariant.{Sound}
use Rattle.rules.proofs.Members.{queued_there, nth_beyond}
use Rattle.lists.proofs.Tests.{no}
use Rattle.lists.proofs.ListLaws.{by_bool, by_test, not_in, at_most}
use Rattle.rules.proofs.StepSound.{of_queued_from, wake_all_sound, wake_all_length}
use Rattle.rules.proofs.WholeLaws.{no_zero}
use Rattle.table.specs.Moved.{moved_of}
use Rattle.steps.specs.Lowest.{open_call, call_of}
use Rattle.steps.specs.Taken.{Stands, Sees, seen, taken_as, taken_of, ended_by, completing, AllThere, EachOnce, WokenAs}
use Rattle.steps.specs.declared.answers.Taken.{Taken}
use Rattle.rules.proofs.Fate.{queued_once}
use Rattle.steps.proofs.MoveLaws.{moved_state}
use Rattle.steps.proofs.AnswerLaws.{no_runner, of_runner, answers}
use Rattle.steps.proofs.LowestLaws.{at_open, all_open}

-- ---- a line that is laid out, read back and added to

pad_to_again : (n : ℕ) (xs ys : List ℕ) → line xs ≡ xs → pad_to n (line (pad_to n xs) ++ ys) ≡ pad_to n (xs ++ ys)
unfolding pad_to
pad_to_again zero xs ys h = refl
pad_to_again (suc n) [] ys h = refl
pad_to_again (suc n) (zero ∷ xs) ys h = no (cc)
pad_to_again (suc n) (suc x ∷ xs) ys h = ap (λ (r : List ℕ). suc x ∷ r) (pad_to_again n xs ys (tail-eq_of_cons-eq h))

pub pad_again : (xs ys : List ℕ) → line xs ≡ xs → pad (line (pad xs) ++ ys) ≡ pad (xs ++ ys)
unfolding pad
pad_again xs ys h = pad_to_again 31 xs ys h

pub pad_none : (xs : List ℕ) → pad (xs ++ []) ≡ pad xs
pad_none xs = ap pad (append-nil xs)

-- ---- how many have a mark

-- whether somebody has the mark k
any_count : (k : ℕ) (m : List ℕ) → list_any (λ x. eqb x k) m ≡ not (eqb (count k m) 0)
any_count k [] = refl
any_count k (x ∷ m) = by_bool (eqb x k) (λ e. rw (e, ne_eqb (1 + count k m) 0 (λ q. absurd (omega (arith, q)))) refl) (λ e. rw (e, zero-add (count k m)) (any_count k m))

pub nobody_has : (k : ℕ) (m : List ℕ) {b : Bool} → b ≡ list_any (λ x. eqb x k) m → b ≡ false → eqb (count k m) 0 ≡ true
nobody_has k m eb e = let q : not (eqb (count k m) 0) ≡ false = sym (eb ∙ any_count k m) ∙ e in by_bool (eqb (count k m) 0) (λ t. t) (λ f. absurd (true≢false (let z : true ≡ false = rw f at q in z)))

pub some_has : (k : ℕ) (m : List ℕ) {b : Bool} → b ≡ list_any (λ x. eqb x k) m → b ≡ true → eqb (count k m) 0 ≡ false
some_has k m eb e = let q : not (eqb (count k m) 0) ≡ true = sym (eb ∙ any_count k m) ∙ e in by_bool (eqb (count k m) 0) (λ t. absurd (true≢false (sym (let z : false ≡ true = rw t at q in z)))) (λ f. f)

-- a mark stands among the marks
times_at : (m : List ℕ) (i : ℕ) → i < length m → 0 < count (get_or m i 0) m
times_at [] i h = absurd (omega arith)
times_at (x ∷ m) zero h = rw (eq-eqb x x refl) (omega arith)
times_at (x ∷ m) (suc i) h = omega (arith, times_at m i (omega arith))

-- where k is not among the marks nobody has it
pub none_has : (m : List ℕ) (k : ℕ) (l : List ℕ) → count k m ≡ 0 → 0 < k → with_mark m k l ≡ []
none_has m k [] z h = refl
none_has m k (x ∷ xs) z h = rw (ne_eqb (mark_of m x) k other, none_has m k xs z h)
  where
    other : mark_of m x ≡ k → ⊥
    other e =
        by_bool (ltb x (length m))
        (λ b. omega (arith, z, rw e at (times_at m x (ltb-true x (length m) b))))
        (λ b. omega (arith, e, get_or-eq_default m 0 {n = x} (ltb-false x (length m) b)))

-- ---- the queues by marks

-- the queues of the entries e, e + 1, .., k of them, by the marks of the callers
pub by_marks : List ℕ → List ℕ → ℕ → ℕ → List ℕ
by_marks m l zero e = []
by_marks m l (suc k) e = with_mark m e l ++ by_marks m l k (suc e)

module _ (m l : List ℕ) (e : ℕ) (r n : List ℕ) (er : r ≡ pad (line r)) (en : n ≡ (when eqb (count e m) 0 then r else pad (line r ++ with_mark m e l))) (eq : line (with_mark m e l) ≡ with_mark m e l) (some : 0 < e) (low : e < 9) where
  -- those with the mark e behind line r, also where there are none
  here : n ≡ pad (line r ++ with_mark m e l)
  here =
      en ∙ by_test (λ (x : List ℕ). x ≡ pad (line r ++ with_mark m e l)) (eqb (count e m) 0)
      (λ b. er ∙ sym (pad_none (line r)) ∙ ap (λ (x : List ℕ). pad (line r ++ x)) (sym (none_has m e l (eqb-true (count e m) 0 b) some)))
      (λ b. refl)

  none : line (line r ++ with_mark m e l) ≡ line r ++ with_mark m e l
  none = line_append (line r) (with_mark m e l) (line_line r) eq

  pub queued_laid : n ≡ pad (line n)
  queued_laid =
      here ∙ sym (pad_none (line r ++ with_mark m e l)) ∙ sym (pad_again (line r ++ with_mark m e l) [] none) ∙ pad_none (line (pad (line r ++ with_mark m e l)))
      ∙ ap (λ (x : List ℕ). pad (line x)) (sym here)

  pub queued_turn : pad (line r ++ by_marks m l (9 - e) e) ≡ pad (line n ++ by_marks m l (9 - (e + 1)) (e + 1))
  unfolding by_marks
  queued_turn =
      let k : 9 - e ≡ suc (9 - (e + 1)) = omega arith in
      let rest : List ℕ = by_marks m l (9 - (e + 1)) (suc e) in
      ap (λ (j : ℕ). pad (line r ++ by_marks m l j e)) k
      ∙ ap pad (sym (append_assoc (line r) (with_mark m e l) rest))
      ∙ sym (pad_again (line r ++ with_mark m e l) rest none)
      ∙ ap (λ (x : List ℕ). pad (line x ++ rest)) (sym here)
      ∙ ap (λ (j : ℕ). pad (line n ++ by_marks m l (9 - (e + 1)) j)) (sym (add-one e))

pub queued_end : (m l : List ℕ) (e : ℕ) (r : List ℕ) → 9 ≤ e → r ≡ pad (line r) → pad (line r ++ by_marks m l (9 - e) e) ≡ r
unfolding by_marks
queued_end m l e r h q = let k : 9 - e ≡ 0 = omega arith in ap (λ (j : ℕ). pad (line r ++ by_marks m l j e)) k ∙ pad_none (line r) ∙ sym q

-- the callers that are marked with the entry of task t that they have called
module _ (v : State) (t : ℕ) (m : List ℕ) (few : length v.tasks ≤ 31) (em : m ≡ marked (call_of v t 255) v.callers no_marks) where
  mark_is : (e x : ℕ) → 1 ≤ e → e ≤ 8 → 0 < count x v.callers → eqb (mark_of m x) e ≡ eqb (call_of v t 255 x) e
  mark_is e x lo hi k =
      by_bool (ltb x 32)
      (λ b. rw (em, mark_in (call_of v t 255) v.callers no_marks x k (ltb-true x 32 b)))
      (λ b.
      let far : 32 ≤ x = ltb-false x 32 b in
      let none : mark_of m x ≡ 0 = rw em (get_or-eq_default (marked (call_of v t 255) v.callers no_marks) 0 (omega (arith, far, marked_length (call_of v t 255) v.callers no_marks))) in
      let blank : call_of v t 255 x ≡ 9 = ap (λ (y : Task). open_call t 255 y.place) (nth_beyond v.tasks x (omega arith)) in
      rw (none, blank, ne_eqb 0 e (λ z. omega arith), ne_eqb 9 e (λ z. omega arith)))

  pub marks_queued : (k e : ℕ) → 1 ≤ e → e + k ≤ 9 → by_marks m v.callers k e ≡ queued_from v t k e
  unfolding by_marks
  marks_queued zero e lo hi = refl
  marks_queued (suc k) e lo hi =
      let q : with_mark m e v.callers ≡ queue v t e = filter_same _ _ v.callers (λ x j. mark_is e x lo (omega arith) j) ∙ at_open v t 255 e lo (omega arith) (all_open e lo (omega arith)) in
      λ i. q i ++ marks_queued k (suc e) (omega arith) (omega arith) i

-- ---- the call

module _ (v : State) (t : ℕ) where
  pub queued_all : AllThere v (queued_on v t)
  unfolding queued_on
  queued_all u k = let q = of_queued_from v u t 8 1 k in queued_there v u q.0 q.1

  pub queued_single : (u : ℕ) → Sound v → count u (queued_on v t) ≤ 1
  unfolding queued_on
  queued_single u h = queued_once v u t 8 1 h

  pub queued_each : Sound v → EachOnce v (queued_on v t)
  queued_each h = (queued_all, λ u. queued_single u h)

  pub queued_line : (l : List ℕ) → Sound v → l ≡ pad (queued_on v t) → line l ≡ queued_on v t
  queued_line l h e = ap line e ∙ line_pad (queued_on v t) (no_zero (queued_on v t) nobody) (omega (arith, h.few, at_most (length v.tasks) (queued_on v t) (λ u. queued_single u h) queued_all))
    where
      nobody : count 0 (queued_on v t) ≡ 0
      nobody = not_in 0 (queued_on v t) (λ k. omega (arith, (queued_all 0 k).0))

  pub finish_holds : (n : ℕ) → n ≡ length (held_by v t) → 0 < n → finish v t ≡ refused StillServing
  finish_holds n e k = rw (lt-ltb 0 (length (held_by v t)) (omega arith))

  pub finish_goes : (n : ℕ) (l : List ℕ) → n ≡ length (held_by v t) → n ≤ 0 → l ≡ queued_on v t → finish v t ≡ completing v t l
  finish_goes n l e k q = rw (le-ltb 0 (length (held_by v t)) (omega arith), q)

  nobody_queued : v.callers ≡ [] → (k e : ℕ) → queued_from v t k e ≡ []
  nobody_queued z zero e = refl
  nobody_queued z (suc k) e = λ i. ap (filter (waits_on v t e)) z i ++ nobody_queued z k (suc e) i

  -- nobody is held, and nobody is queued
  pub finish_alone : v.held ≡ [] → v.callers ≡ [] → finish v t ≡ took (move v t Completed Off) (item t DONE 0 0) []
  unfolding queued_on
  finish_alone h z =
      finish_goes 0 [] (sym (ap (λ (l : List ℕ). length (filter (holds v t) l)) h)) (omega arith) (sym (nobody_queued z 8 1))

  pub finish_runs : t ≡ running v → (t ≡ 0 → ⊥) → take_call v Finish ≡ finish v t
  finish_runs run z = of_runner v t (λ t. finish v t) run z

pub finish_idle : (v : State) → running v ≡ 0 → take_call v Finish ≡ refused NoTask
finish_idle v = no_runner v (λ t. finish v t)

-- those queued on the running task, where no others are seen
module _ (s : Core) (mine : List ℕ) (t : ℕ) (h : Sees s mine) (run : t ≡ running (view_core s)) where
  abbrev full : State
  full = with_callers (view_core s) h.stands.callers

  seen_queued : queued_on full t ≡ queued_on (seen s mine) t
  unfolding queued_on
  seen_queued = same_queued full (line mine) t 8 1 (subst (λ (u : ℕ). callers_of full u ≡ callers_of (seen s mine) u) (sym run) h.calls)

  pub seen_each : EachOnce (view_core s) (queued_on (seen s mine) t)
  seen_each = subst (EachOnce (view_core s)) seen_queued (queued_each full t h.stands.sound)

  pub seen_line : (l : List ℕ) → l ≡ pad (queued_on (seen s mine) t) → line l ≡ queued_on (seen s mine) t
  seen_line l e = queued_line full t l h.stands.sound (e ∙ ap pad (sym seen_queued)) ∙ seen_queued

-- who wakes and completes, but for the callers
pub completing_core : (v : State) (c : List ℕ) (t : ℕ) (l : List ℕ) → core_of (completing (with_callers v c) t l) ≡ core_of (completing v t l)
completing_core v c t l = ap (λ (x : State). took x (item t DONE 0 0) (map (failed v) l)) (core_move (wake_all (with_callers v c) l) (wake_all v l) t Completed Off (core_wakes l (with_callers v c) v refl))

-- all of a list woken, and then t completes
pub completes : (s : Core) (t : ℕ) (l : List ℕ) (n m : Core) (k : ℕ) (room last : List ℕ) {r : Taken} → Stands s → AllThere (view_core s) l → t ≤ length (view_core s).tasks → WokenAs (view_core s) true l n k room last
    → m ≡ moved_of n t Completed Off → r ≡ taken_as m (item t DONE 0 0) k
    → (Ok r ≡ taken_of (completing (view_core s) t l)) × (last ≡ room_after room (ended_by (completing (view_core s) t l)))
completes s t l n m k room last h a b w em e =
    let v = view_core s in
    let f = with_callers v h.callers in
    let g : Sound (with_callers (wake_all v l) (wake_all f l).callers) = subst (λ (z : State). Sound (with_callers z (wake_all f l).callers)) (core_wakes l f v refl) (wake_all_sound l f h.sound a) in
    let q = em ∙ moved_state n (wake_all v l) (wake_all f l).callers t Completed Off w.state g (omega (arith, b, wake_all_length l v)) in
    (answers m (move (wake_all v l) t Completed Off) (item t DONE 0 0) (map (failed v) l) e q (w.number ∙ sym (length-map l (failed v))), w.written)
