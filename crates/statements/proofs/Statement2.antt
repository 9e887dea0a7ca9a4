-- Statement 2, proved.
-- Assumes nothing.
use Prim.Native.Nat.{ℕ, ◌≤◌}
use mathlib.Core.Path.{◌≡◌, ap, ◌∙◌, subst}
use mathlib.Core.Bool.{true, false}
use lib.ListN.{length}
use borrow.Author.Tests.{le-ltb}
use Rattle.rules.specs.State.{State, queue, current_of, is_task}
use Rattle.rules.specs.declared.Item.{Item}
use mathlib.Core.List.{List}
use Rattle.rules.proofs.WholeLaws.{view_pack, sound_view, tree_view}
use Rattle.rules.proofs.StepSound.{Kept, call_sound}
use Rattle.rules.specs.Step.{took, take_call}
use Rattle.rules.specs.Whole.{Typed, Whole, view, sound_whole, done, step_whole}
use Rattle.rules.specs.Questions.{number_in, count_whole, priority_whole}
use Rattle.rules.proofs.TreeMoves.{highest_is}
use Rattle.rules.proofs.TreeTest.{highest_none}
use native.Mathlib.Omega.{arith}
use Rattle.rules.specs.declared.Supervisor.{Supervisor}
use Rattle.rules.proofs.Dispatch.{dispatched_after, counted, count_absent}
use Rattle.calls.specs.declared.Call as C
use Rattle.calls.proofs.Round.{read_back, one_call, accepted_is}
use Rattle.statements.specs.Statement2.{Statement2}

the_rule : (s : Supervisor) (c : C.Call) (n : ℕ) → 124 ≤ n → sound_whole s ≡ true → step_whole s c n ≡ done s (take_call (view s) c)
unfolding step_whole
the_rule s c n h e = rw (le-ltb n 124 h, e)

count_is_length : (s : Supervisor) (t e : ℕ) → sound_whole s ≡ true → number_in (count_whole s t e) ≡ length (queue (view s) t e)
unfolding count_whole
count_is_length s t e h = rw h

next_state : (s : Supervisor) → Typed s → sound_whole s ≡ true → (c : C.Call) (n : ℕ) → 124 ≤ n → (st : State) (a : Item) (l : List Item)
    → take_call (view s) c ≡ took st a l → view (step_whole s c n).state ≡ st
next_state s k e c n h st a l q =
    ap (λ (w : Whole). view w.state) (the_rule s c n h e ∙ ap (done s) q) ∙ view_pack st (subst Kept q (call_sound (view s) c (sound_view s k e)))

priority_is_current : (s : Supervisor) → Typed s → sound_whole s ≡ true → (t : ℕ) → number_in (priority_whole s t) ≡ current_of (view s) t
unfolding priority_whole
priority_is_current s k e t =
    let h = sound_view s k e in
    let g = tree_view s k e in
    rw e (highest_is (view s) 30 (g.no_ring t).0 t h g (g.no_ring t).1 (omega arith))

priority_absent : (s : Supervisor) → Typed s → sound_whole s ≡ true → (t : ℕ) → is_task (view s) t ≡ false → number_in (priority_whole s t) ≡ 0
unfolding priority_whole
priority_absent s k e t n = rw e (highest_none (view s) 30 t (sound_view s k e) n)

pub statement2 : Statement2
statement2 = record {
  as_the_rules = λ κs x r y p. record { answer = p.0; room = p.1 };
  reads = λ κs x r y p. p.0;
  writes = λ κs x r y p. (p.0, p.1);
  tells_sound = λ κs x r y p. p;
  tells_running = λ κs x r y p. p;
  tells_count = λ κs x r y p. p;
  tells_priority = λ κs x r y p. p;
  tells_callable = λ κs x r y p. p;
  the_rule = the_rule;
  next_state = next_state;
  dispatched = dispatched_after;
  read_back = read_back;
  one_call = one_call;
  good_record = accepted_is;
  count_is_length = count_is_length;
  count_absent = count_absent;
  count_is_number = counted;
  priority_is_current = priority_is_current;
  priority_absent = priority_absent;
}
