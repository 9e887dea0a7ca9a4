-- Statement 1, proved.
-- Assumes nothing.
use Prim.Native.Nat.{ℕ, ◌*◌, ◌≤◌, ◌<◌}
use mathlib.Core.Path.{◌≡◌, refl, sym, ap, ◌∙◌, subst}
use mathlib.Core.Logic.{◌↔◌}
use mathlib.Core.Bool.{Bool, true, false}
use mathlib.Core.List.{List}
use native.Mathlib.Omega.{arith}
use lib.Dec.{ltb}
use borrow.Author.Tests.{ltb-true, ltb-false, lt-ltb}
use lib.ListN.{length}
use Rattle.lists.specs.Lists.{when◌then◌else◌}
use Rattle.lists.proofs.ListLaws.{by_bool, clash}
use Rattle.rules.specs.State as state
use Rattle.rules.specs.Whole.{Typed, view, sound_whole, Whole, step_whole, answer_of, refused_answer}
use Rattle.rules.specs.Runs.{Ask}
use Rattle.rules.specs.Uses.{Use, Keeps}
use Rattle.rules.specs.declared.Stepped.{Stepped}
use Rattle.rules.proofs.Dispatch.{untouched, refused_next, has_room}
use Rattle.rules.proofs.Ends.{few_ends}
use Rattle.rules.proofs.EveryStruct.{by_struct}
use Rattle.rules.proofs.WholeLaws.{step_whole_lem}
use Rattle.rules.specs.Questions.{refusal_in, number_in, yes_in, count_whole, callable_whole, running_whole, priority_whole}
use Rattle.rules.specs.declared.Supervisor.{Supervisor}
use Rattle.calls.specs.Record.{encode}
use Rattle.calls.specs.Reading.{read_of, refusal_of, count_of}
use Rattle.calls.specs.Writing.{written_of, room_written, write_refusal_of}
use Rattle.calls.specs.declared.Call as C
use Rattle.calls.specs.declared.Record.{Record}
use Rattle.calls.specs.declared.ReadError.{ReadError}
use Rattle.std.specs.Prelude.{Result, Ok, Err}
use Rattle.calls.proofs.Exactly.{bad_record_exactly, end_of_log_exactly}
use Rattle.calls.proofs.Unique.{read_asks, write_asks}
use Rattle.supervisor.proofs.Unique.{empty_asks, sound_asks, running_asks, priority_asks, step_asks, count_asks, callable_asks}
use Rattle.calls.proofs.read_record.Met as read_record
use Rattle.calls.proofs.write_record.Met as write_record
use Rattle.supervisor.proofs.empty.Met as empty
use Rattle.supervisor.proofs.running.Met as running
use Rattle.supervisor.proofs.priority.Met as priority
use Rattle.supervisor.proofs.step.Met as step
use Rattle.supervisor.proofs.count.Met as count
use Rattle.supervisor.proofs.callable.Met as callable
use Rattle.supervisor.proofs.sound.Met as sound
use Rattle.statements.specs.Statement1.{Statement1, Refused}
use Rattle.statements.specs.Refusals.{rows, first_row}
use Rattle.statements.proofs.Refusals.{by_table}
use Rattle.statements.proofs.Linked.{linked}

-- a question's refusal, from the test of the state
question : (b : Bool) → (◌≡◌ {A = ℕ} (when b then 0 else 2) 2) ↔ (b ≡ false)
question true = (λ e. absurd (omega (arith, e)), λ e. absurd (clash refl e))
question false = (λ e. refl, λ e. refl)

count_refused : (s : Supervisor) (t e : ℕ) → (refusal_in (count_whole s t e) ≡ 2) ↔ (sound_whole s ≡ false)
unfolding count_whole
count_refused s t e = by_bool (sound_whole s) (λ b. rw b (question true)) (λ b. rw b (question false))

callable_refused : (s : Supervisor) (t : ℕ) → (refusal_in (callable_whole s t) ≡ 2) ↔ (sound_whole s ≡ false)
unfolding callable_whole
callable_refused s t = by_bool (sound_whole s) (λ b. rw b (question true)) (λ b. rw b (question false))

running_refused : (s : Supervisor) → (refusal_in (running_whole s) ≡ 2) ↔ (sound_whole s ≡ false)
unfolding running_whole
running_refused s = by_bool (sound_whole s) (λ b. rw b (question true)) (λ b. rw b (question false))

priority_refused : (s : Supervisor) (t : ℕ) → (refusal_in (priority_whole s t) ≡ 2) ↔ (sound_whole s ≡ false)
unfolding priority_whole
priority_refused s t = by_bool (sound_whole s) (λ b. rw b (question true)) (λ b. rw b (question false))

count_zero : (s : Supervisor) (t e : ℕ) → sound_whole s ≡ false → number_in (count_whole s t e) ≡ 0
unfolding count_whole
count_zero s t e b = rw b

callable_no : (s : Supervisor) (t : ℕ) → sound_whole s ≡ false → yes_in (callable_whole s t) ≡ false
unfolding callable_whole
callable_no s t b = rw b

running_zero : (s : Supervisor) → sound_whole s ≡ false → number_in (running_whole s) ≡ 0
unfolding running_whole
running_zero s b = rw b

priority_zero : (s : Supervisor) (t : ℕ) → sound_whole s ≡ false → number_in (priority_whole s t) ≡ 0
unfolding priority_whole
priority_zero s t b = rw b

-- the rules' step of a use, and what the use gave of it
abbrev ruled : Supervisor → Use → Whole
ruled s u = step_whole s u.call (length u.lent)

gave_refusal : (s : Supervisor) (u : Use) → Keeps s u → u.gave.answer.refusal ≡ (ruled s u).refusal
gave_refusal s u k = ap (λ (g : Stepped Supervisor). g.answer.refusal) k.answer

gave_next : (s : Supervisor) (u : Use) → Keeps s u → u.gave.answer.next ≡ (ruled s u).next
gave_next s u k = ap (λ (g : Stepped Supervisor). g.answer.next) k.answer

use_refused : (s : Supervisor) → Typed s → (u : Use) → Keeps s u → u.gave.answer.refusal ≡ first_row (rows s u.call (length u.lent))
use_refused s ty u k = gave_refusal s u k ∙ by_table s u.call (length u.lent) ty

use_untouched : (s : Supervisor) (u : Use) → Keeps s u → 0 < u.gave.answer.refusal → Refused s u
use_untouched s u k h =
    let w = ruled s u in
    let t = untouched s u.call (length u.lent) (subst (λ (x : ℕ). 0 < x) (gave_refusal s u k) h) in
    let a : answer_of w ≡ refused_answer w.refusal w.next =
    λ i. record { refusal = w.refusal; result = (t.answer i).result; task = (t.answer i).task; entry = (t.answer i).entry; partner = (t.answer i).partner; ended = length (t.ended i); next = w.next } in
    record {
      state = ap (λ (g : Stepped Supervisor). g.state) k.answer ∙ t.state;
      room = k.room ∙ t.room u.lent;
      answer = ap (λ (g : Stepped Supervisor). g.answer) k.answer ∙ a ∙ (λ i. refused_answer (sym (gave_refusal s u k) i) (sym (gave_next s u k) i));
    }

next_refused : (s : Supervisor) (u : Use) → Keeps s u → 2 < u.gave.answer.refusal → u.gave.answer.next ≡ state.running (view s)
next_refused s u k h = gave_next s u k ∙ refused_next s u.call (length u.lent) (subst (λ (x : ℕ). 2 < x) (gave_refusal s u k) h)

short_next : (s : Supervisor) (u : Use) → Keeps s u → length u.lent < 124 → u.gave.answer.next ≡ 0
unfolding step_whole
short_next s u k h = gave_next s u k ∙ rw (lt-ltb (length u.lent) 124 h)

unsound_next : (s : Supervisor) (u : Use) → Keeps s u → sound_whole s ≡ false → u.gave.answer.next ≡ 0
unfolding step_whole
unsound_next s u k b = gave_next s u k ∙ by_bool (ltb (length u.lent) 124) (λ h. rw h) (λ h. rw (h, b))

room_enough : (s : Supervisor) → Typed s → (u : Use) → Keeps s u → 4 * u.gave.answer.ended ≤ 124
room_enough s ty u k =
    let a : Ask = record { call = u.call; room = length u.lent } in
    let few : length (ruled s u).ended ≤ 31 =
    by_struct (λ (x : Supervisor). length (ruled x u).ended ≤ 31) s (length u.lent) ty
    (λ r q. rw (q u.call) (omega arith))
    (λ v h g e. rw (step_whole_lem v u.call (length u.lent) h) (few_ends v a h)) in
    omega (arith, few, ap (λ (g : Stepped Supervisor). g.answer.ended) k.answer)

takes_nothing : (s : List ℕ) → 0 < refusal_of (read_of s) → count_of (read_of s) ≡ 0
takes_nothing s h = go (read_of s) h
  where
    go : (r : Result Record ReadError) → 0 < refusal_of r → count_of r ≡ 0
    go (Ok r) h = absurd (omega arith)
    go (Err error) h = refl

writes_nothing : (c : C.Call) (room : List ℕ) → 0 < write_refusal_of (written_of (encode c) room) → room_written (encode c) room ≡ room
writes_nothing c room h = by_bool (ltb (length room) (length (encode c))) (λ b. rw b) (λ b. absurd (omega (arith, rw b at h)))

short_room : (c : C.Call) (room : List ℕ) → (write_refusal_of (written_of (encode c) room) ≡ 1) ↔ (length room < length (encode c))
short_room c room =
    by_bool (ltb (length room) (length (encode c)))
    (λ b. (λ e. ltb-true (length room) (length (encode c)) b, λ h. rw b))
    (λ b. (λ e. absurd (omega (arith, rw b at e)), λ h. absurd (omega (arith, ltb-false (length room) (length (encode c)) b))))

pub statement1 : Statement1
statement1 = record {
  read_record = read_record.met;
  write_record = write_record.met;
  empty = empty.met;
  sound = sound.met;
  running = running.met;
  priority = priority.met;
  step = step.met;
  count = count.met;
  callable = callable.met;
  read_record_asks = read_asks;
  write_record_asks = write_asks;
  empty_asks = empty_asks;
  sound_asks = sound_asks;
  running_asks = running_asks;
  priority_asks = priority_asks;
  step_asks = step_asks;
  count_asks = count_asks;
  callable_asks = callable_asks;
  linked = linked;
  use_refused = use_refused;
  count_refused = count_refused;
  callable_refused = callable_refused;
  running_refused = running_refused;
  priority_refused = priority_refused;
  count_zero = count_zero;
  callable_no = callable_no;
  running_zero = running_zero;
  priority_zero = priority_zero;
  use_untouched = use_untouched;
  refused_next = next_refused;
  short_next = short_next;
  unsound_next = unsound_next;
  room_enough = room_enough;
  bad_record = bad_record_exactly;
  end_of_log = end_of_log_exactly;
  takes_nothing = takes_nothing;
  short_room = short_room;
  writes_nothing = writes_nothing;
  no_overflow = has_room;
}
