-- The window on the bytes of a log that stand unread, the rest of a log that is skipped, and numbers in a head.
-- Assumes nothing.
use Prim.Native.Nat.{ℕ, zero, suc, ◌+◌, ◌-◌, ◌≤◌, ◌<◌, min}
use native.Mathlib.Nat.{min-eq_left, min-eq_right, min-le_left}
use native.Mathlib.Omega.{arith}
use mathlib.Core.Path.{◌≡◌, sym, ap, ◌∙◌}
use mathlib.Core.Bool.{Bool, ◌||◌}
use mathlib.Core.List.{List, [], ◌∷◌, ◌++◌, append_assoc, append-nil}
use lib.ListN.{length, take, drop, length-append, length-take, length-drop, drop_of_length-le}
use lib.Seq.{take-take, take_all, drop-length}
use lib.Dec.{leb}
use borrow.Author.Tests.{le-leb, lt-leb, leb-true, leb-false}
use Rattle.lists.proofs.ListLaws.{by_bool}
use Rattle.calls.specs.Record.{four_from}
use Rattle.stream.specs.Windows.{moved_to, end_in, start_in, unread_in, Grown}
use Rattle.stream.specs.declared.window.Window.{Window}
use Rattle.stream.proofs.Growing.{unread_length, unread_behind}
use Rattle.session.specs.Engines.{Rules}
use Rattle.session.specs.Turn.{turn_of}
use Rattle.session.specs.declared.turns.Session.{Session}
use Rattle.session.proofs.Pieces.{turn_within}
use Rattle.logs.specs.declared.Log.{Log}
use Rattle.logs.specs.declared.Rest.{Rest}
use Rattle.logs.specs.Logs.{part_of, bytes_in, is_last, place_behind, Moved}
use Rattle.logs.specs.Rests.{dropped_of, number_at}

-- the first of at most n are the first n of those
take_least : (n m : ℕ) (l : List ℕ) → take (min m n) l ≡ take n (take m l)
take_least n m l =
    by_bool (leb n m)
    (λ e. let h = leb-true n m e in let k : min m n ≡ n = omega arith in rw k (sym (take-take n m l h)))
    (λ e.
    let h = leb-false n m e in
    let k : min m n ≡ m = omega arith in
    rw k (sym (take_all n (take m l) (omega (arith, length-take m l)))))

-- as many as n are among m exactly where they are among the least of both
least_leb : (n m : ℕ) → leb n (min m n) ≡ leb n m
least_leb n m =
    by_bool (leb n m)
    (λ e. let h = leb-true n m e in le-leb n (min m n) (omega arith) ∙ sym e)
    (λ e. let h = leb-false n m e in lt-leb n (min m n) (omega arith) ∙ sym e)

module _ (l : Log) (b : List ℕ) where
  -- it shows them
  pub part_bytes : (let p = part_of l.flow.window l.left (length b) in take (p.end - p.at) (drop p.at b)) ≡ bytes_in l b
  part_bytes =
      let a = start_in l.flow.window b in
      let m = end_in l.flow.window b - a in
      let k : a + min m l.left - a ≡ min m l.left = omega arith in
      rw k (take_least l.left m (drop a b))

  -- and says whether they are the last
  pub part_last : (part_of l.flow.window l.left (length b)).last ≡ is_last l b
  part_last =
      let a = start_in l.flow.window b in
      let m = end_in l.flow.window b - a in
      ap (λ (t : Bool). l.flow.window.last || t) (least_leb l.left m ∙ ap (λ (k : ℕ). leb l.left k) (sym (unread_length l.flow.window b)))

-- ---- what is taken is taken off the front

-- a window that goes on behind k of its bytes shows those behind them
unread_taken : (w : Window) (b : List ℕ) (k : ℕ) → k ≤ length (unread_in w b) → unread_in (moved_to w (place_behind w k)) b ≡ drop k (unread_in w b)
unread_taken w b k h =
    by_bool (leb w.at (end_in w b))
    (λ q. inside (leb-true w.at (end_in w b) q) (min-le_left w.end (length b)) (rw (unread_length w b) at h))
    (λ q. outside (leb-false w.at (end_in w b) q) (min-le_left w.end (length b)) (rw (unread_length w b) at h))
  where
    nothing : (a c : ℕ) → k ≤ a - c → c ≡ a → k ≡ 0
    nothing a c f e = omega arith

    under : (a m n y : ℕ) → a ≤ m → a ≤ n → a ≤ min m n + y
    under a m n y h l = omega arith

    inside : w.at ≤ end_in w b → end_in w b ≤ w.end → k ≤ end_in w b - start_in w b → unread_in (moved_to w (place_behind w k)) b ≡ drop k (unread_in w b)
    inside p c f =
        let start : start_in w b ≡ w.at = min-eq_left p in
        let front : min w.at w.end ≡ w.at = min-eq_left (omega arith) in
        let few : k ≤ w.end - w.at = omega (arith, start) in
        let place : place_behind w k ≡ start_in w b + k = rw (front, min-eq_left few, start) in
        rw place (unread_behind w b k h)

    outside : end_in w b < w.at → end_in w b ≤ w.end → k ≤ end_in w b - start_in w b → unread_in (moved_to w (place_behind w k)) b ≡ drop k (unread_in w b)
    outside p c f =
        let start : start_in w b ≡ end_in w b = min-eq_right (omega arith) in
        let place : min (place_behind w k) (end_in w b) ≡ end_in w b = min-eq_right (under (end_in w b) w.at w.end (min k (w.end - min w.at w.end)) (omega arith) c) in
        let none = nothing (end_in w b) (start_in w b) f start in
        rw (place, none, start)

-- what stands unread behind a turn is what stood behind the bytes that it took: none is lost, and none comes twice
pub taken_once : {E : Type 0} (g : Rules E) {l r : Log} {place : ℕ} {onward : Bool} {out : List ℕ} (b : List ℕ) (s : Session E) (last : Bool) (room : List ℕ)
    → Moved l (turn_of g s (bytes_in l b) last room).count place onward out r
    → unread_in r.flow.window b ≡ drop (turn_of g s (bytes_in l b) last room).count (unread_in l.flow.window b)
taken_once g {l} b s last room m =
    let u = unread_in l.flow.window b in
    let few = turn_within g s room (bytes_in l b) last in
    rw m.window (unread_taken l.flow.window b (turn_of g s (bytes_in l b) last room).count (omega (arith, length-take l.left u)))

-- ---- the rest of a log

-- without the first of at most n there is what is there without the first n
drop_least : (n : ℕ) (l : List ℕ) → drop (min (length l) n) l ≡ drop n l
drop_least n l =
    by_bool (leb n (length l))
    (λ e. let h = leb-true n (length l) e in let k : min (length l) n ≡ n = omega arith in rw k)
    (λ e.
    let h = leb-false n (length l) e in
    let k : min (length l) n ≡ length l = omega arith in
    let few : length l ≤ n = omega arith in
    rw (k, drop_of_length-le l few) (drop-length l))

-- n are dropped of x, and as many of y as x lacks
drop_on : (n : ℕ) (x y : List ℕ) → drop (n - length x) (drop n x ++ y) ≡ drop n (x ++ y)
drop_on zero x y = let z : zero - length x ≡ 0 = omega arith in rw z
drop_on (suc n) [] y = let z : suc n - 0 ≡ suc n = omega arith in rw z
drop_on (suc n) (t ∷ x) y = let z : suc n - suc (length x) ≡ n - length x = omega arith in rw z (drop_on n x y)

-- what is left of n without the first of at most n, which stand from a on
less_least : (a m n : ℕ) → n - (a + min m n - a) ≡ n - m
less_least a m n = omega arith

module _ (w : Window) (left : ℕ) (b : List ℕ) where
  -- what stands of it is passed over
  pub dropped_unread : unread_in (dropped_of w left (length b)).window b ≡ drop left (unread_in w b)
  dropped_unread =
      let u = unread_in w b in
      let m = end_in w b - start_in w b in
      let k : min m left ≡ min (length u) left = rw (unread_length w b) in
      rw k (unread_behind w b (min (length u) left) (omega arith) ∙ drop_least left u)

  -- and counts
  pub dropped_left : (dropped_of w left (length b)).left ≡ left - length (unread_in w b)
  dropped_left = rw (unread_length w b) (less_least (start_in w b) (end_in w b - start_in w b) left)

-- so much is passed over, of what stood unread and what came
pub record Passed (left : ℕ) (w : Window) (b : List ℕ) (s : Rest) (b' : List ℕ) : Type 0 where
  pub came : List ℕ
  pub behind : unread_in s.window b' ≡ drop left (unread_in w b ++ came)
  pub rest : s.left ≡ left - length (unread_in w b ++ came)

-- at first
pub passed_first : (w : Window) (left : ℕ) (b : List ℕ) → Passed left w b (dropped_of w left (length b)) b
passed_first w left b = record {
  came = [];
  behind = rw (append-nil (unread_in w b)) (dropped_unread w left b);
  rest = rw (append-nil (unread_in w b)) (dropped_left w left b);
}

-- and with what came since
pub passed_on : {left : ℕ} {w w'' : Window} {b b' b'' : List ℕ} {s : Rest} → Passed left w b s b' → Grown s.window b' w'' b''
    → Passed left w b (dropped_of w'' s.left (length b'')) b''
passed_on {left} {w} {w''} {b} {b'' = b''} {s = s} p g =
    let x = unread_in w b ++ p.came in
    let all : unread_in w'' b'' ≡ drop left x ++ g.came = g.behind ∙ ap (λ (l : List ℕ). l ++ g.came) p.behind in
    record {
      came = p.came ++ g.came;
      behind =
          rw (← append_assoc (unread_in w b) p.came g.came)
          (dropped_unread w'' s.left b'' ∙ (rw (p.rest, all) (drop_on left x g.came)));
      rest =
          rw (← append_assoc (unread_in w b) p.came g.came)
          (dropped_left w'' s.left b'' ∙ (rw (p.rest, all) (simp (length-append, length-drop) (omega arith))));
    }

-- ---- a number in a head

-- all four are there
pub all_there : (b : List ℕ) (at : ℕ) → at + 4 ≤ length b → four_from b at ≡ number_at b at
all_there b at h = rw (le-leb (at + 4) (length b) h)
