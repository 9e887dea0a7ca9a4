-- The second engine answers as the first does, proved: uses of both, one after the other, stand in alike states.
-- Assumes nothing.
use Prim.Native.Nat.{ℕ, ◌<◌, ◌≤◌}
use mathlib.Core.Path.{◌≡◌, refl, sym, ◌∙◌, ap, subst}
use mathlib.Core.Bool.{false}
use mathlib.Core.List.{List, [], ◌∷◌, map}
use native.Mathlib.Omega.{arith}
use lib.Dec.{ltb}
use lib.ListN.{length}
use borrow.Author.Tests.{le-ltb, lt-ltb}
use Rattle.lists.proofs.ListLaws.{by_bool}
use Rattle.rules.specs.Step.{Outcome, refused, took, take_call, room_after}
use Rattle.rules.specs.Whole.{StepOf, done_by, answer_of, step_whole}
use Rattle.rules.specs.Uses.{Use, Chain}
use Rattle.rules.specs.Runs.{start}
use Rattle.rules.specs.Second.{view_second, pack_second, sound_second, step_second, start_second, SecondUse, SecondChain, second_reached, Question, BothRun, asked_of, replied_of, second_asked, second_replied}
use Rattle.rules.specs.declared.Second.{Second}
use Rattle.rules.specs.declared.Stepped.{Stepped}
use Rattle.rules.specs.declared.Supervisor.{Supervisor}
use Rattle.calls.specs.declared.Call as C
use Rattle.rules.proofs.Twins.{Twins, SameStep, same_step, second_sound, same_count, same_callable, same_runs, same_priority, starts}
use Rattle.second.proofs.TopLaws.{step_short, step_unsound, step_sound}
use Rattle.second.proofs.empty.Met as empty
use Rattle.second.proofs.step.Met as step
use Rattle.second.proofs.sound.Met as sound
use Rattle.second.proofs.running.Met as running
use Rattle.second.proofs.priority.Met as priority
use Rattle.second.proofs.count.Met as count
use Rattle.second.proofs.callable.Met as callable
use Rattle.statements.specs.Statement3.{reached}
use Rattle.statements.specs.SecondEngine.{SecondEngine}

-- ── uses, one after the other ──

abbrev first_asked : Question → List Question → Question
first_asked d [] = d
first_asked d (q ∷ l) = q

abbrev others : List Question → List Question
others [] = []
others (q ∷ l) = l

-- both chains give the same replies, and reach structs that stand for alike states
pub record AlikeUses (us : List Use) (ws : List SecondUse) (s : Supervisor) (x : Second) : Type 0 where
  pub replies : map second_replied ws ≡ map replied_of us
  pub reaches : Twins (reached s us) (second_reached x ws)

alike_uses : (us : List Use) (ws : List SecondUse) (s : Supervisor) (x : Second) → Twins s x → Chain s us → SecondChain x ws → map asked_of us ≡ map second_asked ws → AlikeUses us ws s x
alike_uses [] [] s x t k l e = record { replies = refl; reaches = t }
alike_uses [] (w ∷ ws) s x t k l e = absurd (omega (arith, ap length e))
alike_uses (u ∷ us) [] s x t k l e = absurd (omega (arith, ap length e))
alike_uses (u ∷ us) (w ∷ ws) s x t k l e =
    let r = alike_uses us ws u.gave.state w.gave.state next k.1 l.1 (ap others e) in
    record { replies = λ i. record { answer = answer i; wrote = wrote i } ∷ r.replies i; reaches = r.reaches }
  where
    q : asked_of u ≡ second_asked w
    q = ap (first_asked (second_asked w)) e

    same : SameStep (step_whole s u.call (length u.lent)) (step_second x u.call (length u.lent))
    same = same_step s x t u.call (length u.lent)

    -- the second engine's step, asked as the first
    there : step_second x w.call (length w.lent) ≡ step_second x u.call (length u.lent)
    there = λ i. step_second x (sym q i).call (length (sym q i).lent)

    answer : w.gave.answer ≡ u.gave.answer
    answer = ap (λ (g : Stepped Second). g.answer) l.0.answer ∙ ap (λ (z : StepOf Second). answer_of z) there ∙ same.answer ∙ sym (ap (λ (g : Stepped Supervisor). g.answer) k.0.answer)

    wrote : w.wrote ≡ u.wrote
    wrote = l.0.room ∙ (λ i. room_after (sym q i).lent (there i).ended) ∙ ap (room_after u.lent) same.ended ∙ sym k.0.room

    next : Twins u.gave.state w.gave.state
    next =
        subst (λ (y : Second). Twins u.gave.state y) (sym (ap (λ (g : Stepped Second). g.state) l.0.answer ∙ ap (λ (z : StepOf Second). z.state) there))
        (subst (λ (y : Supervisor). Twins y (step_second x u.call (length u.lent)).state) (sym (ap (λ (g : Stepped Supervisor). g.state) k.0.answer)) same.next)

alike_run : (n : ℕ) (run : BothRun n) → AlikeUses run.first run.second (start n) (start_second n)
alike_run n run = alike_uses run.first run.second (start n) (start_second n) (starts n run.clock) run.first_kept run.second_kept run.asked

ends : (n : ℕ) (run : BothRun n) → Twins (reached (start n) run.first) (second_reached (start_second n) run.second)
ends n run = (alike_run n run).reaches

-- ── refusals ──

-- a step that is refused changes nothing
record Kept (x : Second) (w : StepOf Second) : Type 0 where
  state : 0 < w.refusal → w.state ≡ x
  list : 0 < w.refusal → w.ended ≡ []

taken_kept : (x : Second) (o : Outcome) → Kept x (done_by pack_second x (view_second x) o)
taken_kept x (refused r) = record { state = λ h. refl; list = λ h. refl }
taken_kept x (took st a l) = record { state = λ h. absurd (omega (arith, h)); list = λ h. absurd (omega (arith, h)) }

kept : (x : Second) (c : C.Call) (n : ℕ) → Kept x (step_second x c n)
kept x c n =
    by_bool (ltb n 124)
    (λ b. subst (Kept x) (sym (step_short x c n b)) (record { state = λ h. refl; list = λ h. refl }))
    (λ b. by_bool (sound_second x)
    (λ p. subst (Kept x) (sym (step_sound x c n b p)) (taken_kept x (take_call (view_second x) c)))
    (λ p. subst (Kept x) (sym (step_unsound x c n b p)) (record { state = λ h. refl; list = λ h. refl })))

bad_state : (x : Second) (c : C.Call) (n : ℕ) → 124 ≤ n → sound_second x ≡ false → (step_second x c n).refusal ≡ 2
bad_state x c n h p = ap (λ (w : StepOf Second). w.refusal) (step_unsound x c n (le-ltb n 124 h) p)

short_room : (x : Second) (c : C.Call) (n : ℕ) → n < 124 → (step_second x c n).refusal ≡ 1
short_room x c n h = ap (λ (w : StepOf Second). w.refusal) (step_short x c n (lt-ltb n 124 h))

pub second_engine : SecondEngine
second_engine = record {
  empty = empty.met;
  step = step.met;
  sound = sound.met;
  running = running.met;
  priority = priority.met;
  count = count.met;
  callable = callable.met;
  empty_asks = λ κs x. tt;
  step_asks = λ κs x. tt;
  sound_asks = λ κs x. tt;
  running_asks = λ κs x. tt;
  priority_asks = λ κs x. tt;
  count_asks = λ κs x. tt;
  callable_asks = λ κs x. tt;
  starts = λ κs x r y p. p;
  steps = λ κs x r y p. record { answer = p.0; room = p.1 };
  tells_sound = λ κs x r y p. p;
  tells_running = λ κs x r y p. p;
  tells_priority = λ κs x r y p. p;
  tells_count = λ κs x r y p. p;
  tells_callable = λ κs x r y p. p;
  answers_alike = λ n run. (alike_run n run).replies;
  sound_after = λ n run. second_sound _ _ (ends n run);
  running_alike = λ n run. same_runs _ _ (ends n run);
  priority_alike = λ n run. same_priority _ _ (ends n run);
  count_alike = λ n run. same_count _ _ (ends n run);
  callable_alike = λ n run. same_callable _ _ (ends n run);
  bad_state = bad_state;
  the_rule = λ x c n h p. step_sound x c n (le-ltb n 124 h) p;
  short_room = short_room;
  refused_state = λ x c n. (kept x c n).state;
  refused_list = λ x c n. (kept x c n).list;
  refused_room = λ x c n h room. ap (room_after room) ((kept x c n).list h);
}
