-- The orders that document 01 asks for, over runs: waits with equal times end in the order in which they began; the caller that is taken is the
-- longest-waiting one of its entry; of those whom a task holds, the rendezvous that began last ends first. Each is said of three steps of a log.
-- Assumes nothing.
use Rattle.std.specs.Prelude.{ℕ, ◌+◌, ◌≤◌, ◌<◌, ◌≡◌, true, false, List, [], ◌∷◌, ◌++◌, map}
use Rattle.lists.specs.Lists.{ahead}
use Rattle.rules.specs.State.{place_of, is_held, waits_on, holds}
use Rattle.rules.specs.Runs.{Ask, Entry, start, log_whole, begins, ended, reasons, duration, tick_count}
use Rattle.rules.specs.OverRuns.{EndsByTime}
use Rattle.rules.specs.declared.Item.{Item}

-- x, y and z are steps of the log, one after the other; `between` are the steps from x to y, `since` those from y to z
pub record InTurn (log : List Entry) (x : Entry) (between : List Entry) (y : Entry) (since : List Entry) (z : Entry) : Type 0 where
  pub before : List Entry
  pub behind : List Entry
  pub is : log ≡ before ++ (x ∷ (between ++ (y ∷ (since ++ (z ∷ behind)))))

-- it holds wherever three steps of the log stand so
abbrev pub OfThree : List Entry → (Entry → List Entry → Entry → List Entry → Entry → Type 0) → Type 0
OfThree log P = (x : Entry) (between : List Entry) (y : Entry) (since : List Entry) (z : Entry) → InTurn log x between y since z → P x between y since z

-- "equal times in the order in which the waits began": t's wait with a time began in x, u's in the later step y, and both end by time in z. If the time of
-- t's comes at the same tick or earlier, t is listed before u
abbrev pub TimesInOrder : Entry → List Entry → Entry → List Entry → Entry → Type 0
TimesInOrder x between y since z =
    (t u : ℕ) → begins t x ≡ true → 0 < duration x.call → begins u y ≡ true → 0 < duration y.call
    → EndsByTime t x.call (between ++ (y ∷ since)) z → EndsByTime u y.call since z
    → duration x.call ≤ tick_count between + duration y.call
    → ahead t u (map (λ (i : Item). i.task) z.out.ended) ≡ true

-- "its longest-waiting caller is held": c's wait began in x and has not ended, c''s began in the later step y. While both wait on one entry of task g, no
-- step takes c' from that queue
abbrev pub LongestFirst : Entry → List Entry → Entry → List Entry → Entry → Type 0
LongestFirst x between y since z =
    (g e c c' : ℕ) → begins c x ≡ true → begins c' y ≡ true → ended c (between ++ (y ∷ since)) ≡ 0
    → waits_on z.before g e c ≡ true → waits_on z.before g e c' ≡ true
    → is_held (place_of z.out.state c') ≡ false

-- the rendezvous of the caller c with task g begins in the step x: c is in none before
pub record Meets (g c : ℕ) (x : Entry) : Type 0 where
  pub before : is_held (place_of x.before c) ≡ false
  pub after : holds x.out.state g c ≡ true

-- "they end last first": the rendezvous of c with g began in x and has not ended, that of c' with g began in the later step y. While g holds c', no step ends
-- that of c
abbrev pub LastFirst : Entry → List Entry → Entry → List Entry → Entry → Type 0
LastFirst x between y since z =
    (g c c' : ℕ) → Meets g c x → Meets g c' y → ended c (between ++ (y ∷ since)) ≡ 0 → holds z.before g c' ≡ true
    → reasons c z.out.ended ≡ []

-- of every run from an empty supervisor with its clock at n
pub record OrdersWhole : Type 0 where
  pub equal_times : (n : ℕ) → n < 4294967296 → (run : List Ask) → OfThree (log_whole (start n) run) TimesInOrder
  pub longest_first : (n : ℕ) → n < 4294967296 → (run : List Ask) → OfThree (log_whole (start n) run) LongestFirst
  pub last_first : (n : ℕ) → n < 4294967296 → (run : List Ask) → OfThree (log_whole (start n) run) LastFirst
