-- Settings are taken exactly where they are the bytes of eight settings in range.
-- Assumes nothing.
use Rattle.std.proofs.Common.{◌≡◌, ℕ, zero, suc, ◌+◌, ◌*◌, ◌/◌, ◌%◌, ◌≤◌, true, eqb, List, [], ◌∷◌, length, drop, sym, refl, ap, ◌∙◌, subst, arith, length-drop, drop_of_length-le, get_or-drop, drop-drop, eq-eqb, eqb-true}
use Rattle.lists.specs.Lists.{every}
use Rattle.lists.proofs.Tests.{each, and_first, and_second, and_both}
use Rattle.calls.specs.Range.{Bytes}
use Rattle.calls.specs.Record.{byte}
use Rattle.debounce.specs.Rule.{Setting}
use Rattle.debounce.specs.Card.{good_setting}
use Rattle.debounce.specs.Settings.{setting_at, good_field, good_from, good_settings, settings_from, settings_in}
use Rattle.debounce.specs.Facts.{bytes_from, SettingsOf}

-- ── from the test to the bytes ──

-- six bytes and the rest
six_is : (l : List ℕ) → 6 ≤ length l → l ≡ byte l 0 ∷ byte l 1 ∷ byte l 2 ∷ byte l 3 ∷ byte l 4 ∷ byte l 5 ∷ drop 6 l
six_is [] h = absurd (omega arith)
six_is (x₀ ∷ []) h = absurd (omega arith)
six_is (x₀ ∷ x₁ ∷ []) h = absurd (omega arith)
six_is (x₀ ∷ x₁ ∷ x₂ ∷ []) h = absurd (omega arith)
six_is (x₀ ∷ x₁ ∷ x₂ ∷ x₃ ∷ []) h = absurd (omega arith)
six_is (x₀ ∷ x₁ ∷ x₂ ∷ x₃ ∷ x₄ ∷ []) h = absurd (omega arith)
six_is (x₀ ∷ x₁ ∷ x₂ ∷ x₃ ∷ x₄ ∷ x₅ ∷ l) h = refl

-- the tests of a field
fields : (b : List ℕ) (i : ℕ) → good_field b i ≡ true
    → (byte b (i * 6) ≡ i + 1) × (byte b (i * 6 + 1) ≡ 0) × (byte b (i * 6 + 2) ≡ 3) × (good_setting (setting_at b i).n (setting_at b i).p ≡ true)
fields b i e =
    let x = setting_at b i in
    let q = each (eqb (byte b (i * 6)) (i + 1)) (eqb (byte b (i * 6 + 1)) 0 ∷ eqb (byte b (i * 6 + 2)) 3 ∷ good_setting x.n x.p ∷ []) e in
    (eqb-true (byte b (i * 6)) (i + 1) (q 0), eqb-true (byte b (i * 6 + 1)) 0 (q 1), eqb-true (byte b (i * 6 + 2)) 3 (q 2), q 3)

read_back : (b : List ℕ) → Bytes b → (m i : ℕ) → length b ≡ i * 6 + m * 6 → good_from m i b ≡ true → drop (i * 6) b ≡ bytes_from (i + 1) (settings_from m i b)
read_back b small zero i l e = drop_of_length-le b {i = i * 6} (omega (arith, l))
read_back b small (suc m) i l e =
    let f = fields b i (and_first (good_field b i) (good_from m (i + 1) b) e) in
    let d = drop (i * 6) b in
    let at : (j : ℕ) → byte d j ≡ byte b (i * 6 + j) = λ j. get_or-drop (i * 6) b j 0 in
    let high = small (i * 6 + 4) in
    let low = small (i * 6 + 5) in
    let p = (setting_at b i).p in
    let e₀ : byte d 0 ≡ i + 1 = at 0 ∙ ap (byte b) {x = i * 6 + 0} {y = i * 6} (omega arith) ∙ f.0 in
    let e₁ : byte d 1 ≡ 0 = at 1 ∙ f.1 in
    let e₂ : byte d 2 ≡ 3 = at 2 ∙ f.2 in
    let e₃ : byte d 3 ≡ (setting_at b i).n = at 3 in
    let e₄ : byte d 4 ≡ p / 256 = omega (arith, at 4, high, low) in
    let e₅ : byte d 5 ≡ p % 256 = omega (arith, at 5, high, low) in
    let rest : drop 6 d ≡ bytes_from (i + 1 + 1) (settings_from m (i + 1) b) =
    drop-drop 6 (i * 6) b ∙ ap (λ (k : ℕ). drop k b) {x = i * 6 + 6} {y = (i + 1) * 6} (omega arith)
    ∙ read_back b small m (i + 1) (omega (arith, l)) (and_second (good_field b i) (good_from m (i + 1) b) e) in
    six_is d (omega (arith, length-drop (i * 6) b, l)) ∙ (λ k. e₀ k ∷ e₁ k ∷ e₂ k ∷ e₃ k ∷ e₄ k ∷ e₅ k ∷ rest k)

in_range_lem : (b : List ℕ) (m i : ℕ) → good_from m i b ≡ true → every (λ x. good_setting x.n x.p) (settings_from m i b) ≡ true
in_range_lem b zero i e = refl
in_range_lem b (suc m) i e =
    and_both (fields b i (and_first (good_field b i) (good_from m (i + 1) b) e)).3 (in_range_lem b m (i + 1) (and_second (good_field b i) (good_from m (i + 1) b) e))

length_settings : (m i : ℕ) (b : List ℕ) → length (settings_from m i b) ≡ m
length_settings zero i b = refl
length_settings (suc m) i b = ap suc (length_settings m (i + 1) b)

-- the settings of good bytes are eight and in range
pub settings_eight : (b : List ℕ) → length (settings_in b) ≡ 8
unfolding settings_in
settings_eight b = length_settings 8 0 b

pub settings_range : (b : List ℕ) → good_settings b ≡ true → every (λ x. good_setting x.n x.p) (settings_in b) ≡ true
unfolding good_settings settings_in
settings_range b e = in_range_lem b 8 0 (and_second (eqb (length b) 48) (good_from 8 0 b) e)

-- and the bytes are theirs
pub settings_said : (b : List ℕ) → Bytes b → good_settings b ≡ true → SettingsOf (settings_in b) b
unfolding good_settings settings_in
settings_said b small e =
    let long = eqb-true (length b) 48 (and_first (eqb (length b) 48) (good_from 8 0 b) e) in
    let all = and_second (eqb (length b) 48) (good_from 8 0 b) e in
    record { eight = settings_eight b; range = settings_range b e; bytes = read_back b small 8 0 long all }

-- ── from the bytes to the test ──

-- what is read of the bytes of a setting
module _ (b : List ℕ) (i : ℕ) (x : Setting) (rest : List ℕ) (e : drop (i * 6) b ≡ (i + 1) ∷ 0 ∷ 3 ∷ x.n ∷ (x.p / 256) ∷ (x.p % 256) ∷ rest) where
  at : (j : ℕ) → byte b (i * 6 + j) ≡ byte ((i + 1) ∷ 0 ∷ 3 ∷ x.n ∷ (x.p / 256) ∷ (x.p % 256) ∷ rest) j
  at j = sym (get_or-drop (i * 6) b j 0) ∙ ap (λ (l : List ℕ). byte l j) e

  setting_back : setting_at b i ≡ x
  setting_back = let p : (setting_at b i).p ≡ x.p = omega (arith, at 4, at 5) in λ k. record { n = at 3 k; p = p k }

  field_back : good_setting x.n x.p ≡ true → good_field b i ≡ true
  field_back r =
      and_both (and_both (and_both
      (eq-eqb (byte b (i * 6)) (i + 1) (ap (byte b) {x = i * 6} {y = i * 6 + 0} (omega arith) ∙ at 0))
      (eq-eqb (byte b (i * 6 + 1)) 0 (at 1))) (eq-eqb (byte b (i * 6 + 2)) 3 (at 2)))
      ((λ k. good_setting (setting_back k).n (setting_back k).p) ∙ r)

  rest_back : drop ((i + 1) * 6) b ≡ rest
  rest_back = ap (λ (k : ℕ). drop k b) {x = (i + 1) * 6} {y = i * 6 + 6} (omega arith) ∙ sym (drop-drop 6 (i * 6) b) ∙ ap (drop 6) e

good_back : (xs : List Setting) (i : ℕ) (b : List ℕ) → drop (i * 6) b ≡ bytes_from (i + 1) xs → every (λ x. good_setting x.n x.p) xs ≡ true
    → (good_from (length xs) i b ≡ true) × (settings_from (length xs) i b ≡ xs)
good_back [] i b e r = (refl, refl)
good_back (x ∷ xs) i b e r =
    let l = bytes_from (i + 1 + 1) xs in
    let first = good_setting x.n x.p in
    let others = every (λ x. good_setting x.n x.p) xs in
    let ih = good_back xs (i + 1) b (rest_back b i x l e) (and_second first others r) in
    (and_both (field_back b i x l e (and_first first others r)) ih.0, λ k. setting_back b i x l e k ∷ ih.1 k)

length_bytes : (xs : List Setting) (k : ℕ) → length (bytes_from k xs) ≡ length xs * 6
length_bytes [] k = refl
length_bytes (x ∷ xs) k = omega (arith, length_bytes xs (k + 1))

pub settings_only : (xs : List Setting) (b : List ℕ) → SettingsOf xs b → (good_settings b ≡ true) × (settings_in b ≡ xs)
unfolding good_settings settings_in
settings_only xs b f =
    let k = good_back xs 0 b f.bytes f.range in
    let long : length b ≡ 48 = omega (arith, ap length f.bytes, length_bytes xs 1, f.eight) in
    (and_both (eq-eqb (length b) 48 long) (subst (λ (m : ℕ). good_from m 0 b ≡ true) f.eight k.0), subst (λ (m : ℕ). settings_from m 0 b ≡ xs) f.eight k.1)
