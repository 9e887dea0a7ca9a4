use Rattle.std.proofs.Common.{◌≡◌, ℕ, suc, ◌-◌, ◌≤◌, leb, ltb, Bool, true, false, ◌&&◌, List, [], ◌∷◌, ◌++◌, Some, length, take, get_or, sym, refl, ap, ◌∙◌, arith, length-append, length-take-le, rules}
use Rattle.std.specs.Iterator.Adapters.{rev_source}
use Rattle.std.specs.Slice.Iter.{iter_rest}
use Rattle.lists.proofs.Backwards.{last_left}
use mathlib.Core.Bool.{and-true, and-false}
use borrow.Author.Tests.{le-leb, leb-true}
use Rattle.lists.proofs.ListLaws.{by_bool, mapped_long}
use Rattle.table.specs.Numbers.{is_number, index_of}
use Rattle.soundness.proofs.told_of.Goals.{then-is_between, else-is_between}
use Rattle.rules.specs.State.{blank, task_of}
use Rattle.rules.specs.Whole.{view_core}
use Rattle.rules.specs.declared.Core.{Core}
use Rattle.rules.specs.declared.Task.{Task}
use Rattle.table.proofs.LeafLaws.{task_in, shown_at}
use Rattle.soundness.specs.Check.{Ready, Callers, Held, Delays, belongs, good_in, is_changed, words_of, told_of}
use Rattle.soundness.specs.Marks.{no_marks, next_mark}
use Rattle.soundness.specs.declared.Told.{Told}
use Rattle.soundness.proofs.TaskLaws.{good_is}
use Rattle.soundness.proofs.Turns.{mark_on}
use Rattle.soundness.proofs.told_of.Invariants.{due, goods}
use Rattle.soundness.proofs.told_of.Goals as goal

pub loop-x-init : goal.loop-x-init
loop-x-init c =
    let s = c.args.s in
    let few : s.created ≤ 31 = c.requires in
    let long : length s.tasks ≡ 31 = search (rules, mapped_long) in
    let left : iter_rest (rev_source c.into_iter-x-iterator.result) ≡ take s.created s.tasks =
    ap (λ z. iter_rest (rev_source z)) c.into_iter-x-iterator.ensures.into_iter_gives ∙ ap iter_rest c.rev-x-items.ensures.source ∙ c.iter.ensures.rest ∙ ap (λ (n : ℕ). take n s.tasks) c.from.ensures in
    let n : length (iter_rest (rev_source c.into_iter-x-iterator.result)) ≡ s.created = ap (λ (l : List Task). length l) left ∙ length-take-le s.created s.tasks (omega arith) in (
      omega arith,
      long,
      left ∙ ap (λ (k : ℕ). take k s.tasks) (sym n),
      ap (goods s) (sym n),
      ap (due s (belongs Ready) no_marks) (sym n),
      ap (due s (belongs Callers) no_marks) (sym n),
      ap (due s (belongs Held) no_marks) (sym n),
      ap (due s (belongs Delays) no_marks) (sym n),
      ap (due s is_changed no_marks) (sym n),
    )

-- the next task from the end is t + 1, where t are left
next_left : (s : Core) (left rest : List Task) (x : Task) → length left ≤ s.created → s.created ≤ 31 → length s.tasks ≡ 31 → left ≡ take (length left) s.tasks → left ≡ rest ++ (x ∷ [])
    → (length left ≡ suc (length rest)) × (rest ≡ take (length rest) s.tasks) × (x ≡ task_of (view_core s) (suc (length rest)))
next_left s left rest x few most long front e =
    let n : length left ≡ suc (length rest) = omega (arith, ap (λ (l : List Task). length l) e, length-append rest (x ∷ [])) in
    let r = last_left blank x rest s.tasks (sym e ∙ front ∙ ap (λ (k : ℕ). take k s.tasks) n) in
    let k : length rest ≡ suc (length rest) - 1 = omega arith in
    (n, r.0, r.1 ∙ ap (λ (i : ℕ). get_or s.tasks i blank) k ∙ task_in s.tasks s.created (suc (length rest)) (λ q. omega arith) (omega arith))

-- of at most 31 tasks, the number of one that was created is the number of a task
named : (u n : ℕ) → n ≤ 31 → (is_number u && leb u n) ≡ (ltb 0 u && leb u n)
named u n h = by_bool (leb u n)
    (λ p. rw (p, le-leb u 31 (omega (arith, leb-true u n p))) (and-true (ltb 0 u && true)))
    (λ p. rw p (and-false (is_number u) ∙ sym (and-false (ltb 0 u))))

-- what stands beside a task is the task that it has called: looked up where its number is that of a created task, and blank elsewhere
looked_up : (s : Core) (u at : ℕ) → s.created ≤ 31 → length s.tasks ≡ 31 → at ≡ index_of u → (ltb 0 u && leb u s.created) ≡ true → get_or s.tasks at blank ≡ task_of (view_core s) u
looked_up s u at few l e b = shown_at s u at (get_or s.tasks at blank) l e (rw (named u s.created few, b) refl)

nobody : (s : Core) (u : ℕ) → s.created ≤ 31 → length s.tasks ≡ 31 → (ltb 0 u && leb u s.created) ≡ false → blank ≡ task_of (view_core s) u
nobody s u few l b = shown_at s u (index_of u) blank l refl (rw (named u s.created few, b) refl)

pub returns-then-not-is_good : goal.returns-then-not-is_good
returns-then-not-is_good c =
    let s = c.args.s in
    let v = c.loop-x.invariant in
    let few : s.created ≤ 31 = c.requires in
    let x = c.in-Some.field-0.now in
    let t = length (iter_rest (rev_source c.next.new.self)) in
    let next = next_left s (iter_rest (rev_source c.loop-x.x-iterator)) (iter_rest (rev_source c.next.new.self)) x v.0 few v.1 v.2 c.in-Some.ensures.steps in
    let u = c.partner_of-u.result in
    let called : c.if-is_between.called ≡ task_of (view_core s) u =
    elim c.if-is_between.branch [
      | then-is_between w ↦ w.called-is ∙ looked_up s u _ few v.1 w.index_of.ensures.0 (sym c.is_between.ensures ∙ w.if-is_between.true)
      | else-is_between w ↦ w.called-is ∙ c.blank_task-called.ensures ∙ nobody s u few v.1 (sym c.is_between.ensures ∙ w.if-is_between.false)
    ] in
    let bad : false ≡ good_in (view_core s) (suc t) = sym c.if-not-is_good.true ∙ good_is s (suc t) c.partner_of-u.result x c.if-is_between.called c.is_good.result next.2 c.partner_of-u.ensures called c.is_good.ensures in
    let none : goods s s.created ≡ false = v.3 ∙ ap (goods s) next.0 ∙ (λ i. sym bad i && goods s t) in
    rw none

pub loop-x-preserved : goal.loop-x-preserved
loop-x-preserved c =
    let s = c.args.s in
    let l = c.loop-x in
    let v = l.invariant in
    let few : s.created ≤ 31 = c.requires in
    let x = c.in-Some.field-0.now in
    let t = length (iter_rest (rev_source c.next.new.self)) in
    let next = next_left s (iter_rest (rev_source l.x-iterator)) (iter_rest (rev_source c.next.new.self)) x v.0 few v.1 v.2 c.in-Some.ensures.steps in
    let u = c.partner_of-u.result in
    let called : c.if-is_between.called ≡ task_of (view_core s) u =
    elim c.if-is_between.branch [
      | then-is_between w ↦ w.called-is ∙ looked_up s u _ few v.1 w.index_of.ensures.0 (sym c.is_between.ensures ∙ w.if-is_between.true)
      | else-is_between w ↦ w.called-is ∙ c.blank_task-called.ensures ∙ nobody s u few v.1 (sym c.is_between.ensures ∙ w.if-is_between.false)
    ] in
    let good : true ≡ good_in (view_core s) (suc t) = sym c.if-not-is_good.false ∙ good_is s (suc t) c.partner_of-u.result x c.if-is_between.called c.is_good.result next.2 c.partner_of-u.ensures called c.is_good.ensures in
    -- one word's turn: task t + 1 below, if it passes the test
    let turn : (f : Task → Bool) (m n : ℕ) (b : Bool) → b ≡ f x → n ≡ next_mark m b → due s f m (length (iter_rest (rev_source l.x-iterator))) ≡ due s f n t =
    λ f m n b eb en. ap (due s f m) next.0 ∙ mark_on (λ u. f (task_of (view_core s) u)) m n t b (eb ∙ ap f next.2) en in (
      omega (arith, v.0, next.0),
      v.1,
      next.1,
      v.3 ∙ ap (goods s) next.0 ∙ (λ i. sym good i && goods s t),
      v.4 ∙ turn (belongs Ready) l.ready _ _ c.is_ready.ensures c.next-ready.ensures,
      v.5 ∙ turn (belongs Callers) l.callers _ _ c.is_queued.ensures c.next-callers.ensures,
      v.6 ∙ turn (belongs Held) l.held _ _ c.is_held.ensures c.next-held.ensures,
      v.7 ∙ turn (belongs Delays) l.delays _ _ c.has_time.ensures c.next-delays.ensures,
      v.8 ∙ turn is_changed l.changed _ _ refl c.next-changed.ensures,
    )

-- nothing is left
told_is : (s : Core) (told : Told) → goods s s.created ≡ true → told ≡ words_of s → Some told ≡ told_of s
told_is s told e et = rw e (ap (λ (x : Told). Some x) et)

pub returns : goal.returns
returns c =
    let s = c.args.s in
    let l = c.loop-x in
    let v = l.invariant in
    let none : length (iter_rest (rev_source l.x-iterator)) ≡ 0 = c.in-None.ensures.steps.0 in
    let word : (f : Task → Bool) (m : ℕ) → due s f no_marks s.created ≡ due s f m (length (iter_rest (rev_source l.x-iterator))) → m ≡ due s f no_marks s.created
    = λ f m e. sym (e ∙ ap (due s f m) none) in
    told_is s _ (v.3 ∙ ap (goods s) none)
    (λ i. record { ready = word (belongs Ready) _ v.4 i; callers = word (belongs Callers) _ v.5 i; held = word (belongs Held) _ v.6 i; delays = word (belongs Delays) _ v.7 i; changed = word is_changed _ v.8 i })
