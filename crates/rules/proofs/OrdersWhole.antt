-- The orders hold wherever three steps stand in the log of a run.
-- Assumes nothing.
use Prim.Native.Nat.{ℕ, ◌<◌}
use mathlib.Core.Path.{◌≡◌, refl, sym, subst}
use mathlib.Core.List.{List, [], ◌∷◌, ◌++◌}
use Rattle.lists.proofs.Tests.{no}
use Rattle.rules.specs.State.{State, empty}
use Rattle.rules.specs.Runs.{Ask, Entry, start, log_whole}
use Rattle.rules.specs.Orders.{OfThree, TimesInOrder, LongestFirst, LastFirst, OrdersWhole}
use Rattle.rules.proofs.Invariant.{Sound}
use Rattle.rules.proofs.StateRuns.{entry, log_of, reach}
use Rattle.rules.proofs.OverRuns.{empty_sound, reach_sound}
use Rattle.rules.proofs.WholeLaws.{log_whole_lem}
use Rattle.rules.proofs.OrderKept.{OfAsks}
use Rattle.rules.proofs.TimeOrder.{equal_times}
use Rattle.rules.proofs.CallerOrder.{longest_first}
use Rattle.rules.proofs.HeldOrder.{last_first}

-- a step x of the log of a run: the run up to it, its ask, and the run behind it
pub record At (s : State) (pre : List Entry) (x : Entry) (rest : List Entry) : Type 0 where
  pub asks : List Ask
  pub ask : Ask
  pub more : List Ask
  pub pre_is : pre ≡ log_of s asks
  pub x_is : x ≡ entry (reach s asks) ask
  pub rest_is : log_of (entry (reach s asks) ask).out.state more ≡ rest

split : (pre : List Entry) (x : Entry) (rest : List Entry) (run : List Ask) (s : State) → log_of s run ≡ pre ++ (x ∷ rest) → At s pre x rest
split [] x rest [] s e = no (cc)
split [] x rest (a ∷ more) s e = record { asks = []; ask = a; more = more; pre_is = refl; x_is = cc; rest_is = cc }
split (p ∷ ps) x rest [] s e = no (cc)
split (p ∷ ps) x rest (a ∷ run) s e =
    let i = split ps x rest run (entry s a).out.state (cc) in
    let q : p ≡ entry s a = cc in
    record { asks = a ∷ i.asks; ask = i.ask; more = i.more; pre_is = λ j. q j ∷ i.pre_is j; x_is = i.x_is; rest_is = i.rest_is }

-- what holds of each step of a run, and of the log up to it, holds of x and pre
of_at : (P : List Entry → Entry → Type 0) (s : State) (pre : List Entry) (x : Entry) (rest : List Entry) → At s pre x rest
    → ((asks : List Ask) (a : Ask) (more : List Ask) → log_of (entry (reach s asks) a).out.state more ≡ rest → P (log_of s asks) (entry (reach s asks) a))
    → P pre x
of_at P s pre x rest i f =
    subst (λ (l : List Entry). P l x) (sym i.pre_is) (subst (λ (e : Entry). P (log_of s i.asks) e) (sym i.x_is) (f i.asks i.ask i.more i.rest_is))

-- what holds of any three steps of a run of the rules holds of any three of its log
of_three : (P : Entry → List Entry → Entry → List Entry → Entry → Type 0)
    → OfAsks P → (s : State) → Sound s → (run : List Ask) → OfThree (log_of s run) P
of_three P f s h run x between y since z t =
    of_at (λ _ x. P x between y since z) s t.before x (between ++ (y ∷ (since ++ (z ∷ t.behind)))) (split t.before x (between ++ (y ∷ (since ++ (z ∷ t.behind)))) run s t.is) λ pre a more e.
    let s1 = (entry (reach s pre) a).out.state in
    of_at (λ l y. P (entry (reach s pre) a) l y since z) s1 between y (since ++ (z ∷ t.behind)) (split between y (since ++ (z ∷ t.behind)) more s1 e) λ mid b more' e'.
    let s3 = (entry (reach s1 mid) b).out.state in
    of_at (P (entry (reach s pre) a) (log_of s1 mid) (entry (reach s1 mid) b)) s3 since z t.behind (split since z t.behind more' s3 e') λ mid' c _ _.
    f (reach s pre) a mid b mid' c (reach_sound pre s h)

pub orders_whole : OrdersWhole
orders_whole = record {
  equal_times = of_run TimesInOrder equal_times;
  longest_first = of_run LongestFirst longest_first;
  last_first = of_run LastFirst last_first;
}
  where
    -- and so of the struct's log
    of_run : (P : Entry → List Entry → Entry → List Entry → Entry → Type 0)
        → OfAsks P → (n : ℕ) → n < 4294967296 → (run : List Ask) → OfThree (log_whole (start n) run) P
    of_run P f n h run = let k = empty_sound n h in subst (λ (l : List Entry). OfThree l P) (sym (log_whole_lem run (empty n) k)) (of_three P f (empty n) k run)
