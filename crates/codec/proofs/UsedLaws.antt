-- The tasks of the table that are not read are blank: their bytes are 0. So a loop over the others reads the state. Assumes nothing.
use Prim.Native.Nat.{ℕ, zero, suc, ◌+◌, ◌-◌, ◌*◌, ◌<◌, ◌≤◌}
use mathlib.Core.Path.{◌≡◌, refl, sym, ap, subst, ◌∙◌}
use mathlib.Core.Bool.{Bool, true, false, ◌&&◌}
use Rattle.std.specs.Bool.{then_some}
use Rattle.std.specs.Prelude.{Option, None, Some}
use mathlib.Core.List.{List, [], ◌∷◌, ◌++◌, append-nil}
use native.Mathlib.Nat.{sub-zero}
use native.Mathlib.Omega.{arith}
use borrow.Author.Tests.{ltb-true, ltb-false, lt-ltb, le-ltb}
use lib.ListN.{length, replicate, set, take, drop, take-append-drop, length-set}
use lib.Seq.{get_or-take, get_or-drop, drop-drop, drop-set-lt}
use lib.Dec.{ltb}
use Rattle.lists.specs.Lists.{when◌then◌else◌}
use Rattle.lists.specs.Line.{blanks}
use Rattle.lists.proofs.ListLaws.{by_bool, by_test}
use Rattle.lists.proofs.LineLaws.{blanks_at}
use Rattle.calls.specs.Record.{byte}
use Rattle.rules.specs.State.{blank}
use Rattle.rules.specs.declared.Task.{Task}
use Rattle.rules.specs.declared.Supervisor.{Supervisor}
use Rattle.codec.specs.Layout.{task_size, ready_at, state_size, is_task, task_from, are_tasks, tasks_from, decode, lost, state_in}
use Rattle.codec.specs.Used.{with_table, table_from, used_tasks, bare_in}
use Rattle.codec.proofs.CodecLaws.{turns, are_turn, from_turn, are_next, from_next, state_short, state_tested}

-- ── bytes that are 0 ──

zero_at : (b : List ℕ) (from : ℕ) → blanks (table_from b from) ≡ true → (j : ℕ) → from ≤ j → j < ready_at → byte b j ≡ 0
zero_at b from e j h k =
    let sum : j ≡ from + (j - from) = omega arith in
    ap (λ (n : ℕ). byte b n) sum
    ∙ sym (get_or-drop from b (j - from) 0)
    ∙ sym (get_or-take (ready_at - from) (drop from b) (j - from) 0 (omega arith))
    ∙ blanks_at (table_from b from) e (j - from)

-- ── bytes that are 0 are a blank task ──

blank_task : (l : List ℕ) → ((j : ℕ) → j < task_size → byte l j ≡ 0) → (is_task l ≡ true) × (task_from l ≡ blank)
blank_task l h =
    let z₀ : byte l 0 ≡ 0 = h 0 (omega arith) in
    let z₁ : byte l 1 ≡ 0 = h 1 (omega arith) in
    let z₂ : byte l 2 ≡ 0 = h 2 (omega arith) in
    let z₃ : byte l 3 ≡ 0 = h 3 (omega arith) in
    let z₄ : byte l 4 ≡ 0 = h 4 (omega arith) in
    let z₅ : byte l 5 ≡ 0 = h 5 (omega arith) in
    let z₆ : byte l 6 ≡ 0 = h 6 (omega arith) in
    let z₇ : byte l 7 ≡ 0 = h 7 (omega arith) in
    let z₈ : byte l 8 ≡ 0 = h 8 (omega arith) in
    let z₉ : byte l 9 ≡ 0 = h 9 (omega arith) in
    let z₁₀ : byte l 10 ≡ 0 = h 10 (omega arith) in
    let z₁₁ : byte l 11 ≡ 0 = h 11 (omega arith) in
    (rw (z₃, z₄, z₅, z₆, z₇, z₈, z₉, z₁₀, z₁₁), rw (z₀, z₁, z₂, z₃, z₇))

are_none : (b : List ℕ) → are_tasks 0 b ≡ true
unfolding are_tasks
are_none b = refl

from_none : (b : List ℕ) → tasks_from 0 b ≡ []
unfolding tasks_from
from_none b = refl

blank_rest : (n k : ℕ) (b : List ℕ) → ((j : ℕ) → k ≤ j → j < k + n * task_size → byte b j ≡ 0)
    → (are_tasks n (drop k b) ≡ true) × (tasks_from n (drop k b) ≡ replicate n blank)
blank_rest zero k b h = (are_none (drop k b), from_none (drop k b))
blank_rest (suc n) k b h =
    let x = blank_task (drop k b) (λ j e. get_or-drop k b j 0 ∙ h (k + j) (omega arith) (omega arith)) in
    let r = blank_rest n (k + task_size) b (λ j e f. h j (omega arith) (omega arith)) in
    (are_turn n k b ∙ (λ i. x.0 i && r.0 i), from_turn n k b ∙ (λ i. x.1 i ∷ r.1 i))

-- where the bytes behind the first m tasks are 0, these and n blank ones are all
front : (m n k : ℕ) (b : List ℕ) → ((j : ℕ) → k + m * task_size ≤ j → j < k + (m + n) * task_size → byte b j ≡ 0)
    → (are_tasks (m + n) (drop k b) ≡ are_tasks m (drop k b)) × (tasks_from (m + n) (drop k b) ≡ tasks_from m (drop k b) ++ replicate n blank)
front zero n k b h =
    let p : 0 + n ≡ n = omega arith in
    let r = blank_rest n k b (λ j l u. h j (omega arith) (omega arith)) in (
      ap (λ (n : ℕ). are_tasks n (drop k b)) p ∙ r.0 ∙ sym (are_none (drop k b)),
      ap (λ (n : ℕ). tasks_from n (drop k b)) p ∙ r.1 ∙ ap (λ (l : List Task). l ++ replicate n blank) (sym (from_none (drop k b))),
    )
front (suc m) n k b h =
    let p : suc m + n ≡ suc (m + n) = omega arith in
    let ih = front m n (k + task_size) b (λ j l u. h j (omega arith) (omega arith)) in (
      ap (λ (n : ℕ). are_tasks n (drop k b)) p ∙ are_turn (m + n) k b ∙ ap (λ (r : Bool). is_task (drop k b) && r) ih.0 ∙ sym (are_turn m k b),
      ap (λ (n : ℕ). tasks_from n (drop k b)) p ∙ from_turn (m + n) k b ∙ ap (λ (l : List Task). task_from (drop k b) ∷ l) ih.1 ∙ ap (λ (l : List Task). l ++ replicate n blank) (sym (from_turn m k b)),
    )

-- ── reading the used tasks is reading all ──

-- so many tasks that every byte of the table behind them is 0
abbrev Fits : List ℕ → ℕ → Type 0
Fits b m = (m ≤ 31) × ((j : ℕ) → 5 + m * task_size ≤ j → j < ready_at → byte b j ≡ 0)

all_fit : (b : List ℕ) → Fits b 31
all_fit b = (omega arith, λ j h k. absurd (omega arith))

used_fits : (b : List ℕ) → state_size ≤ length b → Fits b (used_tasks b)
unfolding used_tasks
used_fits b h =
    rw (le-ltb (length b) state_size h)
    (by_test (Fits b) (ltb 31 (byte b 4)) (λ e. all_fit b)
    (λ e. by_test (Fits b) (blanks (table_from b (5 + byte b 4 * task_size)))
    (λ f. (ltb-false 31 (byte b 4) e, zero_at b (5 + byte b 4 * task_size) f))
    (λ f. all_fit b)))

-- what the code finds
pub used_short : (b : List ℕ) → length b < state_size → 0 ≡ used_tasks b
unfolding used_tasks
used_short b h = rw (lt-ltb (length b) state_size h)

pub used_over : (b : List ℕ) → state_size ≤ length b → 31 < byte b 4 → 31 ≡ used_tasks b
unfolding used_tasks
used_over b long h = rw (le-ltb (length b) state_size long, lt-ltb 31 (byte b 4) h)

pub used_tested : (b : List ℕ) (t : Bool) → state_size ≤ length b → byte b 4 ≤ 31 → blanks (table_from b (5 + byte b 4 * task_size)) ≡ t → (when t then byte b 4 else 31) ≡ used_tasks b
unfolding used_tasks
used_tested b t long h e = rw (le-ltb (length b) state_size long, le-ltb 31 (byte b 4) h, e)

-- where a task is read, the bytes are enough
pub used_long : (b : List ℕ) → 0 < used_tasks b → state_size ≤ length b
used_long b h =
    by_bool (ltb (length b) state_size)
    (λ e. let none = used_short b (ltb-true (length b) state_size e) in absurd (omega arith))
    (ltb-false (length b) state_size)

pub used_small : (b : List ℕ) → used_tasks b ≤ 31
used_small b =
    by_bool (ltb (length b) state_size)
    (λ e. let none = used_short b (ltb-true (length b) state_size e) in omega arith)
    (λ e. (used_fits b (ltb-false (length b) state_size e)).0)

used_front : (b : List ℕ) → state_size ≤ length b → (are_tasks 31 (drop 5 b) ≡ are_tasks (used_tasks b) (drop 5 b)) × (tasks_from 31 (drop 5 b) ≡ tasks_from (used_tasks b) (drop 5 b) ++ replicate (31 - used_tasks b) blank)
used_front b h =
    let m = used_tasks b in
    let f = used_fits b h in
    let small = f.0 in
    let all : 31 ≡ m + (31 - m) = omega arith in
    let r = front m (31 - m) 5 b (λ j l u. f.1 j l (omega arith)) in
    (ap (λ (n : ℕ). are_tasks n (drop 5 b)) all ∙ r.0, ap (λ (n : ℕ). tasks_from n (drop 5 b)) all ∙ r.1)

-- ── the table, filled from its front ──

-- of n tasks the first i are made, and blank ones stand behind them
abbrev Filled : List ℕ → ℕ → ℕ → List Task → Type 0
Filled b n i tasks = (length tasks ≡ 31) × (take i tasks ++ tasks_from (n - i) (drop (5 + i * task_size) b) ≡ tasks_from n (drop 5 b)) × (drop i tasks ≡ replicate (31 - i) blank)

filled_start : (b : List ℕ) (n : ℕ) → Filled b n 0 lost.core.tasks
unfolding lost
filled_start b n = (refl, ap (λ (k : ℕ). tasks_from k (drop 5 b)) (sub-zero n), refl)

filled_next : (b : List ℕ) (n i : ℕ) (tasks : List Task) (x : Task) → i < n → n ≤ 31 → x ≡ task_from (drop (5 + i * task_size) b) → Filled b n i tasks → Filled b n (i + 1) (set tasks i x)
filled_next b n i tasks x h k e f =
    let long : length tasks ≡ 31 = f.0 in
    let one : drop (i + 1) tasks ≡ replicate (31 - (i + 1)) blank =
    sym (drop-drop 1 i tasks) ∙ ap (λ (l : List Task). drop 1 l) (f.2 ∙ ap (λ (n : ℕ). replicate n blank) (turns 31 i (omega arith))) in
    (length-set tasks i x ∙ long, sym (from_next b n i h tasks x (omega arith) e) ∙ f.1, drop-set-lt (i + 1) tasks i x (omega arith) ∙ one)

filled_end : (b : List ℕ) (tasks : List Task) → state_size ≤ length b → Filled b (used_tasks b) (used_tasks b) tasks → tasks ≡ tasks_from 31 (drop 5 b)
filled_end b tasks long f =
    let n = used_tasks b in
    let none : n - n ≡ 0 = omega arith in
    let made : take n tasks ≡ tasks_from n (drop 5 b) =
    sym (ap (λ (k : ℕ). take n tasks ++ tasks_from k (drop (5 + n * task_size) b)) none ∙ ap (λ (l : List Task). take n tasks ++ l) (from_none (drop (5 + n * task_size) b)) ∙ append-nil (take n tasks)) ∙ f.1 in
    sym (take-append-drop n tasks) ∙ (λ j. made j ++ f.2 j) ∙ sym (used_front b long).1

-- ── the state, by what a loop over the used tasks has read ──

-- of n tasks the first i are read: all n are tasks where the rest are; and a state with those of them that are made
abbrev pub Reading : List ℕ → ℕ → ℕ → Supervisor → Type 0
Reading b n i s = (are_tasks (n - i) (drop (5 + i * task_size) b) ≡ are_tasks n (drop 5 b)) × (s ≡ with_table (bare_in b) s.core.tasks) × Filled b n i s.core.tasks

pub bare_short : (b : List ℕ) → length b < state_size → bare_in b ≡ lost
unfolding bare_in
bare_short b h = rw (lt-ltb (length b) state_size h)

bare_long : (b : List ℕ) → state_size ≤ length b → bare_in b ≡ with_table (decode b) lost.core.tasks
unfolding bare_in
bare_long b h = rw (le-ltb (length b) state_size h)

pub is_bare : (b : List ℕ) {s : Supervisor} → state_size ≤ length b → s ≡ with_table (decode b) lost.core.tasks → s ≡ bare_in b
is_bare b h e = e ∙ sym (bare_long b h)

bare_tasks : (b : List ℕ) → (bare_in b).core.tasks ≡ lost.core.tasks
unfolding bare_in
bare_tasks b = by_test (λ (s : Supervisor). s.core.tasks ≡ lost.core.tasks) (ltb (length b) state_size) (λ e. refl) (λ e. refl)

pub reading_start : (b : List ℕ) (n : ℕ) (s : Supervisor) → s ≡ bare_in b → Reading b n 0 s
reading_start b n s e =
    let filled = subst (Filled b n 0) (sym (bare_tasks b)) (filled_start b n) in
    subst (λ (s : Supervisor). Reading b n 0 s) (sym e) (ap (λ (k : ℕ). are_tasks k (drop 5 b)) (sub-zero n), refl, filled)

-- what was read is no task, and is one
pub no_task : (good : Bool) (x : Task) {k : Option Task} → k ≡ then_some good x → k ≡ None → good ≡ false
no_task true x e q = absurd (cc)
no_task false x e q = refl

pub some_task : (good : Bool) (x y : Task) {k : Option Task} → k ≡ then_some good x → k ≡ Some y → (good ≡ true) × (y ≡ x)
some_task true x y e q = (refl, cc)
some_task false x y e q = absurd (cc)

module _ (b : List ℕ) (n i : ℕ) (s : Supervisor) (h : i < n) (r : Reading b n i s) where
  abbrev more : Bool
  more = are_tasks (n - (i + 1)) (drop (5 + (i + 1) * task_size) b)

  -- the next is a task, and it is none
  pub reading_next : (x : Task) → n ≤ 31 → is_task (drop (5 + i * task_size) b) ≡ true → x ≡ task_from (drop (5 + i * task_size) b) → Reading b n (i + 1) (with_table s (set s.core.tasks i x))
  reading_next x k e q =
      (sym (are_next b n i h ∙ ap (λ (t : Bool). t && more) e) ∙ r.0, ap (λ (s' : Supervisor). with_table s' (set s.core.tasks i x)) r.1, filled_next b n i s.core.tasks x h k q r.2)

  pub reading_none : is_task (drop (5 + i * task_size) b) ≡ false → n ≡ used_tasks b → lost ≡ state_in b
  reading_none e u =
      let long = used_long b (omega arith) in
      state_tested b lost false long ((used_front b long).0 ∙ ap (λ (m : ℕ). are_tasks m (drop 5 b)) (sym u) ∙ sym r.0 ∙ are_next b n i h ∙ ap (λ (t : Bool). t && more) e) refl

module _ (b : List ℕ) (s : Supervisor) (r : Reading b (used_tasks b) (used_tasks b) s) where
  read_tasks : are_tasks (used_tasks b) (drop 5 b) ≡ true
  read_tasks =
      let n = used_tasks b in
      let none : n - n ≡ 0 = omega arith in
      sym r.0 ∙ ap (λ (k : ℕ). are_tasks k (drop (5 + n * task_size) b)) none ∙ are_none (drop (5 + n * task_size) b)

  read_short : length b < state_size → s ≡ lost
  unfolding lost
  read_short h =
      let all = subst (λ (n : ℕ). drop n s.core.tasks ≡ replicate (31 - n) blank) (sym (used_short b h)) r.2.2 in
      r.1 ∙ (λ i. with_table (bare_short b h i) (all i))

  read_long : state_size ≤ length b → s ≡ decode b
  unfolding decode
  read_long h = r.1 ∙ (λ i. with_table (bare_long b h i) (filled_end b s.core.tasks h r.2 i))

  pub read_all : s ≡ state_in b
  read_all =
      by_bool (ltb (length b) state_size)
      (λ h. let short = ltb-true (length b) state_size h in state_short b s short (read_short short))
      (λ h. let long = ltb-false (length b) state_size h in state_tested b s true long ((used_front b long).0 ∙ read_tasks) (read_long long))
