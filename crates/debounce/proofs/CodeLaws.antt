-- What the code's branches and turns of loops know.
-- Assumes nothing.
use Rattle.std.proofs.Common.{◌≡◌, ℕ, zero, suc, ◌+◌, ◌-◌, ◌*◌, ◌^◌, ◌<◌, ◌≤◌, Bool, true, false, not, ◌&&◌, eqb, ltb, leb, List, [], ◌∷◌, map, length, get_or, drop, sym, ap, ◌∙◌, arith, refl, length-drop, drop_of_length-le, pow_pos, eq-eqb, ne_eqb, eqb-true}
use mir.Val.{bool_byte}
use native.Mathlib.Nat.{two-pow-succ}
use lib.ListN.{length-map}
use Rattle.std.specs.List.{list_all, zip}
use mathlib.Core.Bool.{beq}
use Rattle.lists.specs.Lists.{when◌then◌else◌, bit}
use Rattle.lists.proofs.Tests.{and_first, if-true, if-false, bit_le, byte_bit}
use Rattle.lists.proofs.Turns.{rest_cons}
use Rattle.rules.specs.declared.Supervisor.{Supervisor}
use Rattle.rules.specs.declared.Task.{Task}
use Rattle.debounce.specs.declared.Card.{Card}
use Rattle.debounce.specs.declared.Contact.{Contact}
use Rattle.debounce.specs.declared.Made.{Made}
use Rattle.debounce.specs.Rule.{differs, byte_of}
use Rattle.debounce.specs.Card.{opened, no_contact, is_closed, waits_for, all_wait, start_one, start_all, turn_of, serve, all_served, whole, ticked_card, answered, damaged, tick_of}
use Rattle.debounce.specs.Settings.{setting_at, settings_from, good_field, good_from, good_settings, settings_in, fresh_card, no_card, fresh_of}

-- ── the fields of settings ──

module _ (b : List ℕ) (i : ℕ) where
  pub fields_next : i < 8 → good_field b i ≡ true → good_from (8 - i) i b ≡ good_from (8 - (i + 1)) (i + 1) b
  fields_next h e = let f : 8 - i ≡ suc (8 - (i + 1)) = omega arith in rw (f, e)

  pub fields_stop : i < 8 → good_field b i ≡ false → good_from (8 - i) i b ≡ false
  fields_stop h e = let f : 8 - i ≡ suc (8 - (i + 1)) = omega arith in rw (f, e)

  pub fields_done : 8 ≤ i → good_from (8 - i) i b ≡ true
  fields_done h = let f : 8 - i ≡ 0 = omega arith in rw f

pub fields_are : (b : List ℕ) (r : Bool) → length b ≡ 48 → good_from 8 0 b ≡ r → r ≡ good_settings b
unfolding good_settings
fields_are b r h e = sym e ∙ ap (λ (x : Bool). x && good_from 8 0 b) (sym (eq-eqb (length b) 48 h))

pub wrong_length : (b : List ℕ) → (length b ≡ 48 → ⊥) → false ≡ good_settings b
unfolding good_settings
wrong_length b n = ap (λ (x : Bool). x && good_from 8 0 b) (sym (ne_eqb (length b) 48 n))

-- contacts each of which is the one of its field are those of all settings
contacts_from : (b : List ℕ) (n i : ℕ) (cs : List Contact) → length cs ≡ n → ((k : ℕ) → k < n → get_or cs k no_contact ≡ opened (setting_at b (i + k))) → cs ≡ map opened (settings_from n i b)
contacts_from b zero i [] e h = refl
contacts_from b zero i (c ∷ cs) e h = absurd (omega arith)
contacts_from b (suc n) i [] e h = absurd (omega arith)
contacts_from b (suc n) i (c ∷ cs) e h =
    let first : c ≡ opened (setting_at b i) = h 0 (omega arith) ∙ ap (λ (j : ℕ). opened (setting_at b j)) (omega arith) in
    let rest : cs ≡ map opened (settings_from n (i + 1) b) = contacts_from b n (i + 1) cs (omega arith) (λ k l. h (suc k) (omega arith) ∙ ap (λ (j : ℕ). opened (setting_at b j)) (omega arith)) in
    λ j. first j ∷ rest j

pub contacts_each : (b : List ℕ) (cs : List Contact) → length cs ≡ 8 → ((k : ℕ) (d : Contact) → k < 8 → get_or cs k d ≡ opened (setting_at b k)) → cs ≡ map opened (settings_in b)
unfolding settings_in
contacts_each b cs e h = contacts_from b 8 0 cs e (λ k l. h k no_contact l ∙ ap (λ (j : ℕ). opened (setting_at b j)) (omega arith))

-- ── samples ──

-- two samples differ where they are not equal
pub differs_is : (x y : Bool) → differs x y ≡ not (beq x y)
differs_is true true = refl
differs_is true false = refl
differs_is false true = refl
differs_is false false = refl

-- ── tasks and contacts ──

-- each waits for its contact where all pairs do
pub wait_list : (now : ℕ) (xs : List Task) (cs : List Contact) → length cs ≤ length xs → list_all (λ (p : Task × Contact). waits_for now p.0 p.1) (zip xs cs) ≡ all_wait now xs cs
wait_list now [] [] h = refl
wait_list now [] (c ∷ cs) h = absurd (omega arith)
wait_list now (x ∷ xs) [] h = refl
wait_list now (x ∷ xs) (c ∷ cs) h = ap (λ (b : Bool). waits_for now x c && b) (wait_list now xs cs (omega arith))

-- ── the start ──

pub start_next : (s : Supervisor) (cs : List Contact) (i : ℕ) → i < length cs → start_all s (drop i cs) ≡ start_all (start_one s (get_or cs i no_contact).p) (drop (i + 1) cs)
start_next s cs i h = ap (start_all s) (rest_cons cs i no_contact h)

pub start_done : (s : Supervisor) (cs : List Contact) (i : ℕ) → length cs ≤ i → start_all s (drop i cs) ≡ s
start_done s cs i h = ap (start_all s) (drop_of_length-le cs h)

-- ── turns ──

module _ (c : Card) (t bits i : ℕ) where
  pub serve_next : i < 8 → (ltb 0 t && leb t 8) ≡ true → serve (8 - i) c t bits ≡ serve (8 - (i + 1)) (turn_of c t bits).card (turn_of c t bits).next bits
  serve_next h e = let f : 8 - i ≡ suc (8 - (i + 1)) = omega arith in ap (λ (k : ℕ). serve k c t bits) f ∙ ap (λ (x : Bool). when x then serve (8 - (i + 1)) (turn_of c t bits).card (turn_of c t bits).next bits else c) e

  pub serve_stop : i < 8 → (ltb 0 t && leb t 8) ≡ false → serve (8 - i) c t bits ≡ c
  serve_stop h e = let f : 8 - i ≡ suc (8 - (i + 1)) = omega arith in ap (λ (k : ℕ). serve k c t bits) f ∙ ap (λ (x : Bool). when x then serve (8 - (i + 1)) (turn_of c t bits).card (turn_of c t bits).next bits else c) e

  pub serve_done : 8 ≤ i → serve (8 - i) c t bits ≡ c
  serve_done h = let f : 8 - i ≡ 0 = omega arith in ap (λ (k : ℕ). serve k c t bits) f

pub served_start : (c : Card) (t bits : ℕ) {r : Card} → r ≡ serve (8 - 0) c t bits → r ≡ all_served c t bits
unfolding all_served
served_start c t bits e = e

-- ── the settings that are good are 48 bytes ──

pub good_length : (b : List ℕ) → good_settings b ≡ true → length b ≡ 48
unfolding good_settings
good_length b e = eqb-true (length b) 48 (and_first (eqb (length b) 48) (good_from 8 0 b) e)

-- ── the report ──

-- the report of the contacts from index i on
abbrev pub report_at : List Contact → ℕ → ℕ
report_at cs i = byte_of (map is_closed (drop i cs))

byte_small : (k : ℕ) (l : List Bool) → length l ≤ k → byte_of l < 2 ^ k
byte_small k [] h = pow_pos k
byte_small zero (b ∷ bs) h = absurd (omega arith)
byte_small (suc k) (b ∷ bs) h = omega (arith, two-pow-succ k, byte_small k bs (omega arith), bit_le b)

-- behind the first contact the report has seven bits
pub report_small : (cs : List Contact) (i : ℕ) → length cs ≡ 8 → 0 < i → report_at cs i ≤ 127
report_small cs i l h =
    let s : byte_of (map is_closed (drop i cs)) < 2 ^ 7 = byte_small 7 (map is_closed (drop i cs)) (omega (arith, length-map (drop i cs) is_closed, length-drop i cs, l, h)) in
    omega (arith, s)

pub report_next : (cs : List Contact) (i r : ℕ) → i < length cs → r ≡ report_at cs (i + 1) → r * 2 + bool_byte (get_or cs i no_contact).closed ≡ report_at cs i
report_next cs i r h e =
    let s : report_at cs i ≡ bit (get_or cs i no_contact).closed + 2 * report_at cs (i + 1) = ap (λ (l : List Contact). byte_of (map is_closed l)) (rest_cons cs i no_contact h) in
    omega (arith, s, e, byte_bit (get_or cs i no_contact).closed)

pub report_none : (cs : List Contact) → length cs ≡ 8 → 0 ≡ report_at cs 8
report_none cs l = ap (λ (l : List Contact). byte_of (map is_closed l)) (sym (drop_of_length-le cs {i = 8} (omega (arith, l))))

-- ── what is answered ──

module _ (c : Card) (bits : ℕ) where
  pub tick_taken : whole c ≡ true → tick_of c bits ≡ answered (ticked_card c bits)
  tick_taken e = if-true (whole c) (answered (ticked_card c bits)) (damaged c) e

  pub tick_refused : whole c ≡ false → tick_of c bits ≡ damaged c
  tick_refused e = if-false (whole c) (answered (ticked_card c bits)) (damaged c) e

abbrev pub made : ℕ → Card → Made
made r c = record { refusal = r; card = c }

pub fresh_made : (b : List ℕ) → good_settings b ≡ true → fresh_of b ≡ made 0 (fresh_card (settings_in b))
fresh_made b e = if-true (good_settings b) (made 0 (fresh_card (settings_in b))) (made 17 no_card) e

pub fresh_refused : (b : List ℕ) (x : Card) → good_settings b ≡ false → x ≡ no_card → made 17 x ≡ fresh_of b
fresh_refused b x e q = ap (made 17) q ∙ sym (if-false (good_settings b) (made 0 (fresh_card (settings_in b))) (made 17 no_card) e)
