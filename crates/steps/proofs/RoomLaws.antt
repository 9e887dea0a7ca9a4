-- The lent room, and the loop that writes an item for each of a list.
-- Assumes nothing.
use Rattle.std.proofs.Common.{◌≡◌, ℕ, ◌+◌, ◌-◌, ◌*◌, ◌≤◌, Bool, List, [], ◌∷◌, ◌++◌, map, length, take, drop, set, sym, refl, ap, ◌∙◌, append_assoc, append-nil, arith, length-append, length-drop, take-append-drop, drop_of_length-le, length-take, take_all, take_at, drop_at}
use borrow.Rule.Slice.PartMut.{put_mid}
use Rattle.lists.specs.Line.{line}
use Rattle.lists.proofs.LineLaws.{length_line}
use Rattle.rules.specs.State.{State}
use Rattle.rules.specs.Step.{bytes, room_after}
use Rattle.rules.specs.declared.Item.{Item}
use Rattle.steps.specs.Taken.{item_of}

-- 124 bytes are room for what stands in an array
pub in_room : (a : List ℕ) (n : ℕ) → length a ≡ 31 → 124 ≤ n → length (line a) * 4 ≤ n
in_room a n l h = omega (arith, length_line a, l, h)

pub four : (xs : List ℕ) → 4 ≤ length xs → {a b c d : ℕ} → set (set (set (set xs 0 a) 1 b) 2 c) 3 d ≡ a ∷ b ∷ c ∷ d ∷ drop 4 xs
four [] h = absurd (omega arith)
four (x ∷ []) h = absurd (omega arith)
four (x ∷ y ∷ []) h = absurd (omega arith)
four (x ∷ y ∷ z ∷ []) h = absurd (omega arith)
four (x ∷ y ∷ z ∷ u ∷ xs) h = refl

-- the room with these items from k on
pub room_from : List ℕ → ℕ → List Item → List ℕ
room_from room k is = take k room ++ room_after (drop k room) is

pub from_none : (room : List ℕ) (k : ℕ) → room_from room k [] ≡ room
unfolding room_from
from_none room k = take-append-drop k room

-- the rest of the room from k on is lent, and an item written at its front
pub put_part : (room last : List ℕ) (k : ℕ) (w : Item) → k ≤ length room → last ≡ room_after (take (length room - k) (drop k room)) (w ∷ [])
    → put_mid k (length room - k) room last ≡ take k room ++ (bytes w ++ drop 4 (drop k room))
put_part room last k w h e =
    let l : length (drop k room) ≤ length room - k = simp length-drop (omega arith) in
    let is = w ∷ [] in
    let t : last ≡ room_after (drop k room) is = e ∙ ap (λ (r : List ℕ). room_after r is) (take_all (length room - k) (drop k room) l) in
    ap (λ (x : List ℕ). take k room ++ (x ++ drop (length room - k) (drop k room))) t
    ∙ ap (λ (x : List ℕ). take k room ++ (room_after (drop k room) is ++ x)) (drop_of_length-le (drop k room) l)
    ∙ ap (λ (x : List ℕ). take k room ++ x) (append-nil (room_after (drop k room) is))

module _ (room : List ℕ) (k : ℕ) (w : Item) (h : k + 4 ≤ length room) where
  four_on : length (take k room ++ bytes w) ≡ k + 4
  four_on = simp (length-append, length-take) (omega arith)

  pub put_on : (is : List Item) → room_from room k (w ∷ is) ≡ room_from (take k room ++ (bytes w ++ drop 4 (drop k room))) (k + 4) is
  unfolding room_from
  put_on is =
      rw (
        ← append_assoc (take k room) (bytes w) (drop 4 (drop k room)),
        take_at (take k room ++ bytes w) (drop 4 (drop k room)) (k + 4) four_on,
        drop_at (take k room ++ bytes w) (drop 4 (drop k room)) (k + 4) four_on,
      )
      (sym (append_assoc (take k room) (bytes w) (room_after (drop 4 (drop k room)) is)))

  pub put_length : length (take k room ++ (bytes w ++ drop 4 (drop k room))) ≡ length room
  put_length = simp (length-append, length-take, length-drop) (omega arith)

-- the items of the first i of the list are written, and the rest is to do
pub record Going (v : State) (failed : Bool) (l : List ℕ) (room₀ : List ℕ) (room : List ℕ) (i : ℕ) (rest : List ℕ) : Type 0 where
  pub number : length l ≡ i + length rest
  pub long : length room ≡ length room₀
  pub written : room_after room₀ (map (item_of v failed) l) ≡ room_from room (i * 4) (map (item_of v failed) rest)

module _ (v : State) (failed : Bool) (l : List ℕ) (room₀ : List ℕ) where
  pub going_start : Going v failed l room₀ room₀ 0 l
  unfolding room_from
  going_start = record { number = omega arith; long = refl; written = refl }

  pub going_end : (room : List ℕ) (i : ℕ) (rest : List ℕ) → Going v failed l room₀ room i rest → rest ≡ [] → (i ≡ length l) × (room ≡ room_after room₀ (map (item_of v failed) l))
  going_end room i rest g e =
      let z : length rest ≡ 0 = ap length e in (
        omega (arith, g.number),
        sym (g.written ∙ ap (λ (r : List ℕ). room_from room (i * 4) (map (item_of v failed) r)) e ∙ from_none room (i * 4)),
      )

  pub going_on : (room last : List ℕ) (i t : ℕ) (rest ys : List ℕ) (w : Item) → Going v failed l room₀ room i rest → rest ≡ t ∷ ys → w ≡ item_of v failed t
      → last ≡ room_after (take (length room - i * 4) (drop (i * 4) room)) (w ∷ []) → length l * 4 ≤ length room₀
      → Going v failed l room₀ (put_mid (i * 4) (length room - i * 4) room last) (i + 1) ys
  going_on room last i t rest ys w g q ew el hr =
      let len = g.long in
      let fit : i * 4 + 4 ≤ length room = omega (arith, g.number, ap length q, len, hr) in
      let k : (i + 1) * 4 ≡ i * 4 + 4 = omega arith in
      let p = put_part room last (i * 4) w (omega arith) el in
      record {
        number = omega (arith, g.number, ap length q);
        long = ap length p ∙ put_length room (i * 4) w (omega arith) ∙ len;
        written = g.written ∙ ap (λ (r : List ℕ). room_from room (i * 4) (map (item_of v failed) r)) q
            ∙ ap (λ (x : Item). room_from room (i * 4) (x ∷ map (item_of v failed) ys)) (sym ew)
            ∙ put_on room (i * 4) w (omega arith) (map (item_of v failed) ys)
            ∙ rw (p, k);
      }
