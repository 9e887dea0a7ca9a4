-- The items are read back from the room in which they were written, so the log from the uses of `step`.
-- Assumes nothing.
use Prim.Native.Nat.{ℕ}
use mathlib.Core.Path.{◌≡◌, refl, ◌∙◌, ap}
use mathlib.Core.List.{List, [], ◌∷◌, map}
use lib.ListN.{length, drop}
use Rattle.rules.specs.Step.{room_after}
use Rattle.rules.specs.Whole.{Whole, view, step_whole, stepped_of}
use Rattle.rules.specs.Runs.{Entry, entry_whole, log_whole}
use Rattle.rules.specs.Uses.{Use, Keeps, asked, items_in, read_entry, read_log, ReadBack}
use Rattle.rules.specs.declared.Item.{Item}
use Rattle.rules.specs.declared.Stepped.{Stepped}
use Rattle.rules.specs.declared.Supervisor.{Supervisor}

pub items_back : (is : List Item) (room : List ℕ) → items_in (length is) (room_after room is) ≡ is
items_back [] room = refl
items_back (i ∷ is) room = ap (λ (l : List Item). i ∷ l) (items_back is (drop 4 room))

pub entry_back : (s : Supervisor) (u : Use) → Keeps s u → read_entry s u ≡ entry_whole s (asked u)
entry_back s u k = go u.gave u.wrote k.answer k.room
  where
    w : Whole
    w = step_whole s u.call (length u.lent)

    go : (g : Stepped Supervisor) (b : List ℕ) → g ≡ stepped_of w → b ≡ room_after u.lent w.ended → read_entry s (record { call = u.call; lent = u.lent; gave = g; wrote = b }) ≡ entry_whole s (asked u)
    go g b e f = rw (e, f) (λ j. record { before = view s; call = u.call; out = record { refusal = w.refusal; answer = w.answer; ended = items_back w.ended u.lent j; next = w.next; state = view w.state } })

pub read_back : ReadBack
read_back s [] k = refl
read_back s (u ∷ us) k =
    let e : u.gave.state ≡ (step_whole s u.call (length u.lent)).state = ap (λ (g : Stepped Supervisor). g.state) k.0.answer in
    ap (λ (x : Entry). x ∷ read_log u.gave.state us) (entry_back s u k.0)
    ∙ ap (λ (l : List Entry). entry_whole s (asked u) ∷ l) (read_back u.gave.state us k.1 ∙ ap (λ (t : Supervisor). log_whole t (map asked us)) e)
