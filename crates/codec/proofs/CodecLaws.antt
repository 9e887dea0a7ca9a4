-- Pieces put one behind the other, and tasks read one behind the other. Assumes nothing.
use Prim.Native.Nat.{ℕ, suc, ◌+◌, ◌-◌, ◌*◌, ◌<◌, ◌≤◌}
use mathlib.Core.Path.{◌≡◌, refl, sym, ap, ◌∙◌}
use mathlib.Core.Bool.{Bool, ◌&&◌}
use mathlib.Core.List.{List, [], ◌∷◌, ◌++◌, append_assoc}
use native.Mathlib.Numerals.{add-one}
use native.Mathlib.Nat.{add-zero, zero-add}
use native.Mathlib.Omega.{arith}
use lib.ListN.{length, set, take, drop, take-append-drop, length-append, length-take, length-drop, drop_of_length-le}
use lib.Seq.{take_at, drop_at, drop-drop, take_all, take-suc-set, append_snoc}
use borrow.Rule.Slice.PartMut.{put_mid}
use borrow.Author.Tests.{le-leb, lt-leb, lt-ltb, le-ltb}
use Rattle.lists.specs.Lists.{when◌then◌else◌}
use Rattle.calls.specs.Duration.{bytes_of}
use Rattle.rules.specs.declared.Task.{Task}
use Rattle.rules.specs.declared.Supervisor.{Supervisor}
use Rattle.codec.specs.Layout.{task_size, tasks_size, ready_at, callers_at, held_at, delays_at, state_size, task_bytes, tasks_bytes, encode, is_task, task_from, are_tasks, tasks_from, is_encoding, decode, lost, state_in, put_at, placed_at, placed_lines, stored}

-- ── pieces put one behind the other ──

pub rest_all : (b : List ℕ) (k : ℕ) → k ≤ length b → take (length b - k) (drop k b) ≡ drop k b
rest_all b k h = take_all (length b - k) (drop k b) (simp length-drop (omega arith))

module _ (b : List ℕ) (k : ℕ) (x : List ℕ) (h : k + length x ≤ length b) where
  pub put_length : length (put_at b k x) ≡ length b
  put_length = simp (length-append, length-take, length-drop) (omega arith)

  seam : length (take k b ++ x) ≡ k + length x
  seam = simp (length-append, length-take) (omega arith)

  pub put_put : (y : List ℕ) → put_at b k (x ++ y) ≡ put_at (put_at b k x) (k + length x) y
  put_put y =
      let d = drop (k + length x) b in
      let long : length (x ++ y) ≡ length x + length y = length-append x y in
      let sum : k + length x + length y ≡ k + length (x ++ y) = omega arith in
      let over : drop (k + length x + length y) ((take k b ++ x) ++ d) ≡ drop (k + length (x ++ y)) b =
      sym (drop-drop (length y) (k + length x) ((take k b ++ x) ++ d))
      ∙ ap (λ (l : List ℕ). drop (length y) l) (drop_at (take k b ++ x) d (k + length x) seam)
      ∙ drop-drop (length y) (k + length x) b
      ∙ ap (λ (n : ℕ). drop n b) sum in
      rw (
        ← append_assoc (take k b) x d,
        take_at (take k b ++ x) d (k + length x) seam,
        over,
      )
      (simp append_assoc)

pub put_none : (b : List ℕ) (k : ℕ) → put_at b k [] ≡ b
put_none b k = rw (add-zero k) (take-append-drop k b)

-- the next piece of those put from the start
pub put_next : (b pre piece : List ℕ) (at : ℕ) → length pre ≡ at → at ≤ length b → put_at (put_at b 0 pre) at piece ≡ put_at b 0 (pre ++ piece)
put_next b pre piece at e h =
    let z : at ≡ 0 + length pre = omega arith in
    rw z (sym (put_put b 0 pre (omega arith) piece))

-- ── tasks ──

pub tasks_long : (l : List Task) → length (tasks_bytes l) ≡ length l * task_size
tasks_long [] = refl
tasks_long (x ∷ xs) = let ih = tasks_long xs in omega arith

-- one turn further: n + 1 turns from k are the one at k and n behind its bytes
pub are_turn : (n k : ℕ) (b : List ℕ) → are_tasks (suc n) (drop k b) ≡ (is_task (drop k b) && are_tasks n (drop (k + task_size) b))
unfolding are_tasks
are_turn n k b = rw (drop-drop task_size k b)

pub from_turn : (n k : ℕ) (b : List ℕ) → tasks_from (suc n) (drop k b) ≡ task_from (drop k b) ∷ tasks_from n (drop (k + task_size) b)
unfolding tasks_from
from_turn n k b = rw (drop-drop task_size k b)

-- the place of the next task, and the turns left
pub next_place : (i : ℕ) → 5 + (i + 1) * task_size ≡ 5 + i * task_size + task_size
next_place i = omega arith

pub turns : (n i : ℕ) → i < n → n - i ≡ suc (n - (i + 1))
turns n i h = omega arith

module _ (b : List ℕ) (n i : ℕ) (h : i < n) where
  pub are_next : are_tasks (n - i) (drop (5 + i * task_size) b) ≡ (is_task (drop (5 + i * task_size) b) && are_tasks (n - (i + 1)) (drop (5 + (i + 1) * task_size) b))
  are_next = rw (turns n i h, next_place i) (are_turn (n - (i + 1)) (5 + i * task_size) b)

  pub from_next : (tasks : List Task) (x : Task) → i < length tasks → x ≡ task_from (drop (5 + i * task_size) b)
      → take i tasks ++ tasks_from (n - i) (drop (5 + i * task_size) b) ≡ take (i + 1) (set tasks i x) ++ tasks_from (n - (i + 1)) (drop (5 + (i + 1) * task_size) b)
  from_next tasks x fits e =
      rw (turns n i h, next_place i, from_turn (n - (i + 1)) (5 + i * task_size) b, ← e, add-one i, take-suc-set tasks i x fits)
      (sym (append_snoc (take i tasks) x (tasks_from (n - suc i) (drop (5 + i * task_size + task_size) b))))

-- a copy into a part that is as long
pub put_mid_is : (b x last : List ℕ) (k n : ℕ) → n ≡ length x → last ≡ x → put_mid k n b last ≡ put_at b k x
put_mid_is b x last k n z e = rw (e, drop-drop n k b, z)

pub put_end : (room : List ℕ) (tasks : List Task) (i : ℕ) → i ≡ 31 → length tasks ≡ 31 → put_at room (5 + i * task_size) (tasks_bytes (drop i tasks)) ≡ room
put_end room tasks i z h = rw (drop_of_length-le tasks {i = i} (omega arith)) (put_none room (5 + i * task_size))

pub put_turn : (i : ℕ) → i < 31 → (room : List ℕ) (tasks : List Task) (x : Task) → state_size ≤ length room → drop i tasks ≡ x ∷ drop (i + 1) tasks
    → put_at room (5 + i * task_size) (tasks_bytes (drop i tasks)) ≡ put_at (put_at room (5 + i * task_size) (task_bytes x)) (5 + (i + 1) * task_size) (tasks_bytes (drop (i + 1) tasks))
put_turn i h room tasks x r e = rw (e, next_place i) (put_put room (5 + i * task_size) (task_bytes x) (omega arith) (tasks_bytes (drop (i + 1) tasks)))

-- a piece that has room is placed; one that has none is not
pub placed_fits : (b : List ℕ) (k : ℕ) (x : List ℕ) → k + length x ≤ length b → placed_at b k x ≡ put_at b k x
unfolding placed_at
placed_fits b k x h = rw (le-leb (k + length x) (length b) h)

pub placed_not : (b : List ℕ) (k : ℕ) (x : List ℕ) → length b < k + length x → b ≡ placed_at b k x
unfolding placed_at
placed_not b k x h = rw (lt-leb (k + length x) (length b) h)

-- the pieces of a state, one behind the other from the start
pub placed_next : (b pre piece : List ℕ) (at : ℕ) → length pre ≡ at → at + length piece ≤ length b → placed_at (put_at b 0 pre) at piece ≡ put_at b 0 (pre ++ piece)
placed_next b pre piece at e h =
    let long = put_length b 0 pre (omega arith) in
    placed_fits (put_at b 0 pre) at piece (omega arith) ∙ put_next b pre piece at e (omega arith)

module _ (b head tasks ready callers held delays : List ℕ) (h₀ : length head ≡ 5) (h₁ : length tasks ≡ tasks_size) (h₂ : length ready ≡ 31) (h₃ : length callers ≡ 31) (h₄ : length held ≡ 31) (h₅ : length delays ≡ 31) (h : state_size ≤ length b) where
  pub store_pieces : placed_lines (put_at (placed_at b 0 head) 5 tasks) ready callers held delays ≡ head ++ tasks ++ ready ++ callers ++ held ++ delays ++ drop state_size b
  store_pieces =
      let p₁ = head ++ tasks in
      let p₂ = p₁ ++ ready in
      let p₃ = p₂ ++ callers in
      let p₄ = p₃ ++ held in
      let l₁ : length p₁ ≡ ready_at = simp length-append (omega arith) in
      let l₂ : length p₂ ≡ callers_at = simp length-append (omega arith) in
      let l₃ : length p₃ ≡ held_at = simp length-append (omega arith) in
      let l₄ : length p₄ ≡ delays_at = simp length-append (omega arith) in
      let l₅ : length (p₄ ++ delays) ≡ state_size = simp length-append (omega arith) in
      let e₁ = ap (λ (r : List ℕ). put_at r 5 tasks) (placed_fits b 0 head (omega arith)) ∙ put_next b head tasks 5 h₀ (omega arith) in
      let e₂ = ap (λ (r : List ℕ). placed_at r ready_at ready) e₁ ∙ placed_next b p₁ ready ready_at l₁ (omega arith) in
      let e₃ = ap (λ (r : List ℕ). placed_at r callers_at callers) e₂ ∙ placed_next b p₂ callers callers_at l₂ (omega arith) in
      let e₄ = ap (λ (r : List ℕ). placed_at r held_at held) e₃ ∙ placed_next b p₃ held held_at l₃ (omega arith) in
      let last : put_at b 0 (p₄ ++ delays) ≡ (p₄ ++ delays) ++ drop state_size b = rw (zero-add (length (p₄ ++ delays)), l₅) in
      ap (λ (r : List ℕ). placed_at r delays_at delays) e₄ ∙ placed_next b p₄ delays delays_at l₄ (omega arith) ∙ last

-- what putting a state leaves
pub stored_short : (b : List ℕ) (s : Supervisor) → length b < state_size → b ≡ stored s b
unfolding stored
stored_short b s h = rw (lt-ltb (length b) state_size h)

pub stored_long : (b : List ℕ) (s : Supervisor) (headed filled r : List ℕ) → state_size ≤ length b → length s.core.tasks ≡ 31 → length s.core.ready ≡ 31 → length s.callers ≡ 31 → length s.core.held ≡ 31 → length s.core.delays ≡ 31
    → headed ≡ placed_at b 0 (bytes_of s.core.clock ++ (s.core.created ∷ [])) → filled ≡ put_at headed 5 (tasks_bytes s.core.tasks) → r ≡ placed_lines filled s.core.ready s.callers s.core.held s.core.delays
    → r ≡ stored s b
unfolding stored encode
stored_long b s headed filled r h t₁ t₂ t₃ t₄ t₅ e₁ e₂ e₃ =
    let t : length (tasks_bytes s.core.tasks) ≡ tasks_size = omega (arith, tasks_long s.core.tasks) in
    let e = e₃ ∙ ap (λ (l : List ℕ). placed_lines l s.core.ready s.callers s.core.held s.core.delays) (e₂ ∙ ap (λ (l : List ℕ). put_at l 5 (tasks_bytes s.core.tasks)) e₁) in
    rw (le-ltb (length b) state_size h) (e ∙ store_pieces b (bytes_of s.core.clock ++ (s.core.created ∷ [])) (tasks_bytes s.core.tasks) s.core.ready s.callers s.core.held s.core.delays refl t t₂ t₃ t₄ t₅ h)

-- the state of lent bytes, by what the code has found
pub state_short : (b : List ℕ) (r : Supervisor) → length b < state_size → r ≡ lost → r ≡ state_in b
unfolding state_in is_encoding
state_short b r h e = rw (lt-leb state_size (length b) h) e

pub state_tested : (b : List ℕ) (r : Supervisor) (t : Bool) → state_size ≤ length b → are_tasks 31 (drop 5 b) ≡ t → r ≡ (when t then decode b else lost) → r ≡ state_in b
unfolding state_in is_encoding
state_tested b r t h a e = rw (le-leb state_size (length b) h, a) e
