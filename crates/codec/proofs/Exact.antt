-- Each encoding is the encoding of the state that it gives: the bytes of a state and the states of bytes are one to one. Assumes nothing.
use Prim.Native.Nat.{ℕ, zero, suc, ◌+◌, ◌*◌, ◌/◌, ◌%◌, ◌≤◌}
use mathlib.Core.Path.{◌≡◌, refl, sym, ap, ◌∙◌}
use mathlib.Core.Bool.{true, false, ◌&&◌}
use mathlib.Core.List.{List, [], ◌∷◌, ◌++◌}
use native.Mathlib.Nat.{add-zero}
use native.Mathlib.Omega.{arith}
use borrow.Author.Tests.{eqb-true, ne_eqb, lt-leb, leb-true}
use lib.ListN.{length, take, drop, length-drop}
use lib.Seq.{take-add, take-append-add, get_or-drop, drop-cons}
use lib.Dec.{eqb, leb}
use Rattle.lists.proofs.ListLaws.{by_bool}
use Rattle.lists.proofs.Tests.{each, differ, and_first, and_second}
use Rattle.calls.specs.Duration.{bytes_of}
use Rattle.calls.specs.Record.{byte, four_from}
use Rattle.calls.specs.Range.{Bytes}
use Rattle.rules.specs.State.{entry_of, kept_of}
use Rattle.codec.specs.Layout.{task_size, tasks_size, ready_at, callers_at, held_at, delays_at, state_size, place_tag, place_first, timer_tag, timer_due, task_bytes, tasks_bytes, encode, is_place, is_timer, place_from, timer_from, is_task, task_from, are_tasks, tasks_from, is_encoding, decode}

-- ── a task ──

all_zero : (a c k : ℕ) → (eqb a 0 && eqb c 0 && eqb k 0) ≡ true → (0 ≡ a) × (0 ≡ c) × (0 ≡ k)
all_zero a c k e =
    let p = each (eqb a 0) (eqb c 0 ∷ eqb k 0 ∷ []) e in
    (sym (eqb-true a 0 (p 0)), sym (eqb-true c 0 (p 1)), sym (eqb-true k 0 (p 2)))

place_exact : (tag a c k : ℕ) → is_place tag a c k ≡ true
    → (place_tag (place_from tag a c k) ≡ tag) × (place_first (place_from tag a c k) ≡ a) × (entry_of (place_from tag a c k) ≡ c) × (kept_of (place_from tag a c k) ≡ k)
place_exact zero a c k e = let z = all_zero a c k e in (refl, z.0, z.1, z.2)
place_exact (suc zero) a c k e = let z = all_zero a c k e in (refl, z.0, z.1, z.2)
place_exact (suc (suc zero)) a c k e = let z = all_zero a c k e in (refl, z.0, z.1, z.2)
place_exact (suc (suc (suc zero))) a c k e = (refl, refl, refl, sym (eqb-true k 0 e))
place_exact (suc (suc (suc (suc zero)))) a c k e = (refl, refl, refl, refl)
place_exact (suc (suc (suc (suc (suc zero))))) a c k e =
    let p = each (eqb c 0) (eqb k 0 ∷ []) e in
    (refl, refl, sym (eqb-true c 0 (p 0)), sym (eqb-true k 0 (p 1)))
place_exact (suc (suc (suc (suc (suc (suc zero)))))) a c k e = let z = all_zero a c k e in (refl, z.0, z.1, z.2)
place_exact (suc (suc (suc (suc (suc (suc (suc n))))))) a c k e =
    let f : leb (suc (suc (suc (suc (suc (suc (suc n))))))) 6 ≡ false = lt-leb (suc (suc (suc (suc (suc (suc (suc n))))))) 6 (omega arith) in
    differ (sym e ∙ rw f)

timer_exact : (tag d : ℕ) → is_timer tag d ≡ true → (timer_tag (timer_from tag d) ≡ tag) × (timer_due (timer_from tag d) ≡ d)
timer_exact zero d e = by_bool (eqb d 0) (λ h. (refl, sym (eqb-true d 0 h))) (λ h. differ (sym (rw h at e)))
timer_exact (suc zero) d e = (refl, refl)
timer_exact (suc (suc n)) d e =
    let f : eqb (suc (suc n)) 0 ≡ false = ne_eqb (suc (suc n)) 0 (λ z. omega arith) in
    let g : eqb (suc (suc n)) 1 ≡ false = ne_eqb (suc (suc n)) 1 (λ z. omega arith) in
    differ (sym e ∙ rw (f, g))

-- n bytes from index k on
abbrev bytes_from : ℕ → ℕ → List ℕ → List ℕ
bytes_from zero k b = []
bytes_from (suc n) k b = byte b k ∷ bytes_from n (suc k) b

bytes_from_lem : (n k : ℕ) (b : List ℕ) → k + n ≤ length b → drop k b ≡ bytes_from n k b ++ drop (k + n) b
bytes_from_lem zero k b h = rw (add-zero k)
bytes_from_lem (suc n) k b h =
    let e : suc k + n ≡ k + suc n = omega arith in
    drop-cons b k 0 (omega arith) ∙ ap (λ (l : List ℕ). byte b k ∷ l) (bytes_from_lem n (suc k) b (omega arith) ∙ ap (λ (m : ℕ). bytes_from n (suc k) b ++ drop m b) e)

four_bytes : (b : List ℕ) (i : ℕ) → Bytes b → bytes_of (four_from b i) ≡ byte b i ∷ byte b (i + 1) ∷ byte b (i + 2) ∷ byte b (i + 3) ∷ []
four_bytes b i all =
    let n = four_from b i in
    let e₀ : n / 16777216 ≡ byte b i = omega (arith, all i, all (i + 1), all (i + 2), all (i + 3)) in
    let e₁ : n / 65536 % 256 ≡ byte b (i + 1) = omega (arith, all i, all (i + 1), all (i + 2), all (i + 3)) in
    let e₂ : n / 256 % 256 ≡ byte b (i + 2) = omega (arith, all i, all (i + 1), all (i + 2), all (i + 3)) in
    let e₃ : n % 256 ≡ byte b (i + 3) = omega (arith, all i, all (i + 1), all (i + 2), all (i + 3)) in
    cc

task_exact : (b : List ℕ) → Bytes b → is_task b ≡ true → task_bytes (task_from b) ≡ bytes_from task_size 0 b
task_exact b all e =
    let placed = is_place (byte b 3) (byte b 4) (byte b 5) (byte b 6) in
    let timed = is_timer (byte b 7) (four_from b 8) in
    let p = place_exact (byte b 3) (byte b 4) (byte b 5) (byte b 6) (and_first placed timed e) in
    let w = timer_exact (byte b 7) (four_from b 8) (and_second placed timed e) in
    let t = ap bytes_of w.1 ∙ four_bytes b 8 all in
    cc (p.0, p.1, p.2, p.3, w.0, t)

rest_bytes : (b : List ℕ) (k : ℕ) → Bytes b → Bytes (drop k b)
rest_bytes b k all i = rw (get_or-drop k b i 0) (all (k + i))

tasks_exact : (n : ℕ) (b : List ℕ) → Bytes b → n * task_size ≤ length b → are_tasks n b ≡ true → tasks_bytes (tasks_from n b) ≡ take (n * task_size) b
unfolding are_tasks tasks_from
tasks_exact zero b all h e = refl
tasks_exact (suc n) b all h e =
    let long : n * task_size ≤ length (drop task_size b) = simp length-drop (omega arith) in
    let ih = tasks_exact n (drop task_size b) (rest_bytes b task_size all) long (and_second (is_task b) (are_tasks n (drop task_size b)) e) in
    let t = task_exact b all (and_first (is_task b) (are_tasks n (drop task_size b)) e) in
    let k : suc n * task_size ≡ task_size + n * task_size = omega arith in
    let s : take (task_size + n * task_size) b ≡ bytes_from task_size 0 b ++ take (n * task_size) (drop task_size b) =
    ap (λ (l : List ℕ). take (task_size + n * task_size) l) (bytes_from_lem task_size 0 b (omega arith)) ∙ take-append-add (bytes_from task_size 0 b) (drop task_size b) (n * task_size) in
    ap (λ (x : List ℕ). x ++ tasks_bytes (tasks_from n (drop task_size b))) t ∙ ap (λ (x : List ℕ). bytes_from task_size 0 b ++ x) ih ∙ sym (ap (λ (m : ℕ). take m b) k ∙ s)

-- ── a state ──

pub encode_decode : (b : List ℕ) → Bytes b → is_encoding b ≡ true → encode (decode b) ≡ take state_size b
unfolding is_encoding encode decode
encode_decode b all e =
    let long = leb-true state_size (length b) (and_first (leb state_size (length b)) (are_tasks 31 (drop 5 b)) e) in
    let room : 31 * task_size ≤ length (drop 5 b) = simp length-drop (omega arith) in
    let t = tasks_exact 31 (drop 5 b) (rest_bytes b 5 all) room (and_second (leb state_size (length b)) (are_tasks 31 (drop 5 b)) e) in
    let h : bytes_of (four_from b 0) ++ (byte b 4 ∷ []) ≡ take 5 b = ap (λ (l : List ℕ). l ++ (byte b 4 ∷ [])) (four_bytes b 0 all) ∙ sym (ap (take 5) (bytes_from_lem 5 0 b (omega arith))) in
    let s₁ = take-add 5 tasks_size b in
    let s₂ = take-add ready_at 31 b in
    let s₃ = take-add callers_at 31 b in
    let s₄ = take-add held_at 31 b in
    let s₅ = take-add delays_at 31 b in
    ap (λ (l : List ℕ). l ++ tasks_bytes (tasks_from 31 (drop 5 b)) ++ take 31 (drop ready_at b) ++ take 31 (drop callers_at b) ++ take 31 (drop held_at b) ++ take 31 (drop delays_at b)) h
    ∙ ap (λ (l : List ℕ). take 5 b ++ l ++ take 31 (drop ready_at b) ++ take 31 (drop callers_at b) ++ take 31 (drop held_at b) ++ take 31 (drop delays_at b)) t
    ∙ ap (λ (l : List ℕ). l ++ take 31 (drop ready_at b) ++ take 31 (drop callers_at b) ++ take 31 (drop held_at b) ++ take 31 (drop delays_at b)) (sym s₁)
    ∙ ap (λ (l : List ℕ). l ++ take 31 (drop callers_at b) ++ take 31 (drop held_at b) ++ take 31 (drop delays_at b)) (sym s₂)
    ∙ ap (λ (l : List ℕ). l ++ take 31 (drop held_at b) ++ take 31 (drop delays_at b)) (sym s₃)
    ∙ ap (λ (l : List ℕ). l ++ take 31 (drop delays_at b)) (sym s₄)
    ∙ sym s₅
