-- A state put into bytes is read back as that state, whatever bytes follow; bytes that are no encoding are no sound state. Assumes nothing.
use Prim.Native.Nat.{ℕ, ◌+◌, ◌/◌, ◌%◌, ◌≤◌}
use mathlib.Core.Path.{◌≡◌, refl, ap, subst, ◌∙◌}
use mathlib.Core.Bool.{true, false}
use mathlib.Core.List.{List, [], ◌∷◌, ◌++◌, append_assoc}
use native.Mathlib.Omega.{arith}
use borrow.Author.Tests.{le-leb}
use lib.ListN.{length, take, drop, length-append}
use lib.Seq.{take_at, drop_at}
use Rattle.lists.proofs.Tests.{and_both, if-true, if-false}
use Rattle.calls.specs.Duration.{four, bytes_of}
use Rattle.calls.proofs.Round.{four_back}
use Rattle.rules.specs.Whole.{sound_whole}
use Rattle.rules.specs.declared.Task.{Task}
use Rattle.rules.specs.declared.Timer.{Timer}
use Rattle.rules.specs.declared.Timer.TheVariants.{Off, Due}
use Rattle.rules.specs.declared.Place.{Place}
use Rattle.rules.specs.declared.Place.TheVariants.{Blank, Ready, Delayed, Queued, Held, Accepting, Completed}
use Rattle.rules.specs.declared.Supervisor.{Supervisor}
use Rattle.rules.specs.State.{entry_of, kept_of}
use Rattle.codec.specs.Layout.{tasks_size, ready_at, callers_at, held_at, delays_at, state_size, place_tag, place_first, timer_tag, timer_due, task_bytes, tasks_bytes, encode, is_place, is_timer, place_from, timer_from, is_task, task_from, are_tasks, tasks_from, is_encoding, decode, lost, state_in}
use Rattle.codec.proofs.CodecLaws.{tasks_long}

-- ── a task ──

place_back : (p : Place) → (place_from (place_tag p) (place_first p) (entry_of p) (kept_of p) ≡ p) × (is_place (place_tag p) (place_first p) (entry_of p) (kept_of p) ≡ true)
place_back Blank = (refl, refl)
place_back Ready = (refl, refl)
place_back Delayed = (refl, refl)
place_back (Queued q) = (refl, refl)
place_back (Held m) = (refl, refl)
place_back (Accepting o) = (refl, refl)
place_back Completed = (refl, refl)

-- the number of a due time's four bytes
abbrev due : Timer → ℕ
due w = let n = timer_due w in four (n / 16777216) (n / 65536 % 256) (n / 256 % 256) (n % 256)

timer_back : (w : Timer) → (timer_from (timer_tag w) (due w) ≡ w) × (is_timer (timer_tag w) (due w) ≡ true)
timer_back Off = (refl, refl)
timer_back (Due d) = (ap Due (four_back d), refl)

task_back : (x : Task) (more : List ℕ) → (task_from (task_bytes x ++ more) ≡ x) × (is_task (task_bytes x ++ more) ≡ true)
task_back x more =
    let p = place_back x.place in
    let w = timer_back x.timer in
    let from : task_from (task_bytes x ++ more) ≡ x = λ i. record { priority = x.priority; current = x.current; entries = x.entries; place = p.0 i; timer = w.0 i } in
    (from, and_both p.1 w.1)

tasks_back : (l : List Task) (more : List ℕ) → (tasks_from (length l) (tasks_bytes l ++ more) ≡ l) × (are_tasks (length l) (tasks_bytes l ++ more) ≡ true)
unfolding tasks_from are_tasks
tasks_back [] more = (refl, refl)
tasks_back (x ∷ xs) more =
    let ih = tasks_back xs more in
    let t = task_back x (tasks_bytes xs ++ more) in
    let from : tasks_from (length (x ∷ xs)) (tasks_bytes (x ∷ xs) ++ more) ≡ x ∷ xs = λ i. t.0 i ∷ ih.0 i in
    (from, and_both t.1 ih.1)

-- ── a state ──

line_at : (p x q : List ℕ) (k : ℕ) → length p ≡ k → length x ≡ 31 → take 31 (drop k (p ++ (x ++ q))) ≡ x
line_at p x q k hp hx = rw (drop_at p (x ++ q) k hp) (take_at x q 31 hx)

-- what stands where in the bytes of a state
record Found (b t r c h d rest : List ℕ) : Type 0 where
  long : length b ≡ state_size + length rest
  tasks : drop 5 b ≡ t ++ (r ++ (c ++ (h ++ (d ++ rest))))
  ready : take 31 (drop ready_at b) ≡ r
  callers : take 31 (drop callers_at b) ≡ c
  held : take 31 (drop held_at b) ≡ h
  delays : take 31 (drop delays_at b) ≡ d

at_least : (n k m : ℕ) → n ≡ k + m → k ≤ n
at_least n k m e = omega arith

module _ (a t r c h d rest : List ℕ) (ha : length a ≡ 5) (ht : length t ≡ tasks_size) (hr : length r ≡ 31) (hc : length c ≡ 31) (hh : length h ≡ 31) (hd : length d ≡ 31) where
  abbrev whole : List ℕ
  whole = a ++ t ++ r ++ c ++ h ++ d ++ rest

  whole_long : length whole ≡ state_size + length rest
  whole_long = simp length-append (omega arith)

  at_tasks : drop 5 whole ≡ t ++ (r ++ (c ++ (h ++ (d ++ rest))))
  at_tasks =
      let e : whole ≡ a ++ (t ++ (r ++ (c ++ (h ++ (d ++ rest))))) = simp append_assoc in
      rw e (drop_at a (t ++ (r ++ (c ++ (h ++ (d ++ rest))))) 5 ha)

  at_ready : take 31 (drop ready_at whole) ≡ r
  at_ready =
      let e : whole ≡ (a ++ t) ++ (r ++ (c ++ (h ++ (d ++ rest)))) = simp append_assoc in
      let l : length (a ++ t) ≡ ready_at = simp length-append (omega arith) in
      rw e (line_at (a ++ t) r (c ++ (h ++ (d ++ rest))) ready_at l hr)

  at_callers : take 31 (drop callers_at whole) ≡ c
  at_callers =
      let e : whole ≡ (a ++ t ++ r) ++ (c ++ (h ++ (d ++ rest))) = simp append_assoc in
      let l : length (a ++ t ++ r) ≡ callers_at = simp length-append (omega arith) in
      rw e (line_at (a ++ t ++ r) c (h ++ (d ++ rest)) callers_at l hc)

  at_held : take 31 (drop held_at whole) ≡ h
  at_held =
      let e : whole ≡ (a ++ t ++ r ++ c) ++ (h ++ (d ++ rest)) = simp append_assoc in
      let l : length (a ++ t ++ r ++ c) ≡ held_at = simp length-append (omega arith) in
      rw e (line_at (a ++ t ++ r ++ c) h (d ++ rest) held_at l hh)

  at_delays : take 31 (drop delays_at whole) ≡ d
  at_delays =
      let e : whole ≡ (a ++ t ++ r ++ c ++ h) ++ (d ++ rest) = simp append_assoc in
      let l : length (a ++ t ++ r ++ c ++ h) ≡ delays_at = simp length-append (omega arith) in
      rw e (line_at (a ++ t ++ r ++ c ++ h) d rest delays_at l hd)

  pieces : Found whole t r c h d rest
  pieces = record { long = whole_long; tasks = at_tasks; ready = at_ready; callers = at_callers; held = at_held; delays = at_delays }

-- what the types of the code say of a state: 31 tasks, and 31 places in each line
pub record Sized (s : Supervisor) : Type 0 where
  pub tasks : length s.core.tasks ≡ 31
  pub ready : length s.core.ready ≡ 31
  pub callers : length s.callers ≡ 31
  pub held : length s.core.held ≡ 31
  pub delays : length s.core.delays ≡ 31

-- a state takes as many bytes as its size says
pub encode_long : (s : Supervisor) → Sized s → length (encode s) ≡ state_size
unfolding encode
encode_long s z = simp length-append (omega (arith, tasks_long s.core.tasks, z.tasks, z.ready, z.callers, z.held, z.delays))

module _ (s : Supervisor) (z : Sized s) (rest : List ℕ) where
  abbrev head : List ℕ
  head = bytes_of s.core.clock ++ (s.core.created ∷ [])

  abbrev more : List ℕ
  more = s.core.ready ++ (s.callers ++ (s.core.held ++ (s.core.delays ++ rest)))

  tasks_there : (tasks_from 31 (tasks_bytes s.core.tasks ++ more) ≡ s.core.tasks) × (are_tasks 31 (tasks_bytes s.core.tasks ++ more) ≡ true)
  tasks_there =
      subst (λ (n : ℕ). (tasks_from n (tasks_bytes s.core.tasks ++ more) ≡ s.core.tasks) × (are_tasks n (tasks_bytes s.core.tasks ++ more) ≡ true)) z.tasks
      (tasks_back s.core.tasks more)

  tasks_room : length (tasks_bytes s.core.tasks) ≡ tasks_size
  tasks_room = let h = z.tasks in omega (arith, tasks_long s.core.tasks)

  found : Found (head ++ tasks_bytes s.core.tasks ++ s.core.ready ++ s.callers ++ s.core.held ++ s.core.delays ++ rest) (tasks_bytes s.core.tasks) s.core.ready s.callers s.core.held s.core.delays rest
  found = pieces head (tasks_bytes s.core.tasks) s.core.ready s.callers s.core.held s.core.delays rest refl tasks_room z.ready z.callers z.held z.delays

  pub encoded : is_encoding (encode s ++ rest) ≡ true
  unfolding is_encoding encode
  encoded =
      and_both
      (le-leb state_size (length (encode s ++ rest)) (at_least (length (encode s ++ rest)) state_size (length rest) found.long))
      (ap (are_tasks 31) found.tasks ∙ tasks_there.1)

  pub decode_encode : decode (encode s ++ rest) ≡ s
  unfolding decode encode
  decode_encode =
      let t = ap (tasks_from 31) found.tasks ∙ tasks_there.0 in
      λ i. record {
        core = record {
          clock = four_back s.core.clock i;
          created = s.core.created;
          tasks = t i;
          ready = found.ready i;
          held = found.held i;
          delays = found.delays i;
        };
        callers = found.callers i;
      }

  -- what was put into lent bytes is found there
  pub kept : state_in (encode s ++ rest) ≡ s
  unfolding state_in
  kept = if-true (is_encoding (encode s ++ rest)) (decode (encode s ++ rest)) lost encoded ∙ decode_encode

-- bytes that are no encoding are no sound state
pub no_encoding : (b : List ℕ) → is_encoding b ≡ false → sound_whole (state_in b) ≡ false
unfolding state_in lost
no_encoding b e = ap sound_whole (if-false (is_encoding b) (decode b) lost e) ∙ refl
