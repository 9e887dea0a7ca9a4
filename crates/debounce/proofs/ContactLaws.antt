-- A contact: its setting is kept, and its two numbers say what the rule says of all its samples.
-- Assumes nothing.
use Rattle.std.proofs.Common.{◌≡◌, ℕ, zero, suc, ◌+◌, ◌<◌, ◌≤◌, Bool, true, false, not, ltb, leb, List, [], ◌∷◌, length, sym, refl, ap, ◌∙◌, arith, ltb-false, ltb-true, le-leb, leb-true}
use mathlib.Core.Bool.{and-false}
use lib.Dec.{leb-zero, leb-suc-zero, leb-suc-suc}
use borrow.Author.Tests.{lt-leb}
use Rattle.lists.specs.Lists.{when◌then◌else◌}
use Rattle.lists.proofs.ListLaws.{by_bool, by_test, clash}
use Rattle.lists.proofs.Tests.{each, and_both}
use Rattle.debounce.specs.Rule.{differs, last_all, report_of}
use Rattle.debounce.specs.Card.{good_setting, told, sampled}
use Rattle.debounce.specs.declared.Contact.{Contact}

-- ── its setting ──

-- n is 1 to 16, p is 1 to 65535
pub record InRange (n p : ℕ) : Type 0 where
  pub some : 1 ≤ n
  pub few : n ≤ 16
  pub later : 1 ≤ p
  pub soon : p ≤ 65535

pub in_range_of : (n p : ℕ) → good_setting n p ≡ true → InRange n p
in_range_of n p e =
    let q = each (leb 1 n) (leb n 16 ∷ leb 1 p ∷ leb p 65535 ∷ []) e in
    record { some = leb-true 1 n (q 0); few = leb-true n 16 (q 1); later = leb-true 1 p (q 2); soon = leb-true p 65535 (q 3) }

pub range_test : (n p : ℕ) → InRange n p → good_setting n p ≡ true
range_test n p r =
    and_both (and_both (and_both (le-leb 1 n r.some) (le-leb n 16 r.few)) (le-leb 1 p r.later)) (le-leb p 65535 r.soon)

-- whatever is sampled, the setting stays
same_setting : (P : ℕ → ℕ → Type 0) (c : Contact) (x : Bool) → P c.n c.p → P (sampled c x).n (sampled c x).p
same_setting P c x h =
    by_test (λ (d : Contact). P d.n d.p) (differs x c.closed)
    (λ e. by_test (λ (d : Contact). P d.n d.p) (ltb (c.against + 1) c.n) (λ f. h) (λ f. h)) (λ e. h)

pub sampled_n : (c : Contact) (x : Bool) → (sampled c x).n ≡ c.n
sampled_n c x = same_setting (λ n p. n ≡ c.n) c x refl

pub sampled_p : (c : Contact) (x : Bool) → (sampled c x).p ≡ c.p
sampled_p c x = same_setting (λ n p. p ≡ c.p) c x refl

pub in_range_sampled : (c : Contact) (x : Bool) → InRange c.n c.p → InRange (sampled c x).n (sampled c x).p
in_range_sampled = same_setting InRange

-- ── its samples ──

-- how many of the latest samples in a row are as v says
abbrev pub in_row : Bool → List Bool → ℕ
in_row v [] = 0
in_row v (x ∷ xs) = when differs x v then 0 else suc (in_row v xs)

last_row : (n : ℕ) (v : Bool) (l : List Bool) → last_all n v l ≡ leb n (in_row v l)
last_row zero v l = rw (leb-zero (length l), leb-zero (in_row v l))
last_row (suc n) v [] = rw (leb-suc-zero n)
last_row (suc n) v (x ∷ xs) =
    let ih = last_row n v xs in
    by_bool (differs x v)
    (λ e. rw (e, leb-suc-zero n) (and-false (leb (suc n) (suc (length xs)))))
    (λ e. rw (e, leb-suc-suc n (length xs), leb-suc-suc n (in_row v xs)) ih)

-- a sample that is not so ends the row
row_ended : (n : ℕ) (v x : Bool) (l : List Bool) → 1 ≤ n → differs x v ≡ true → last_all n v (x ∷ l) ≡ false
row_ended n v x l h e = last_row n v (x ∷ l) ∙ rw e (lt-leb n 0 h)

-- the last n samples are all as the latest: so is the report
report_turns : (n : ℕ) (x : Bool) (l : List Bool) → 1 ≤ n → last_all n x (x ∷ l) ≡ true → report_of n (x ∷ l) ≡ x
report_turns n true l h e = rw e
report_turns n false l h e = rw (row_ended n true false l h refl, e)

-- the last n samples are not all other than the report: it stays
report_stays : (n : ℕ) (v x : Bool) (l : List Bool) → report_of n l ≡ v → last_all n (not v) (x ∷ l) ≡ false → report_of n (x ∷ l) ≡ v
report_stays n true x l r e = by_bool (last_all n true (x ∷ l)) (λ a. rw a) (λ a. rw (a, e) r)
report_stays n false x l r e = rw e (by_bool (last_all n false (x ∷ l)) (λ a. rw a) (λ a. rw a r))

-- what a contact knows of its samples
pub record Knows (n : ℕ) (samples : List Bool) (c : Contact) : Type 0 where
  pub closed : c.closed ≡ report_of n samples
  pub against : c.against ≡ in_row (not c.closed) samples
  pub few : c.against < n

differs_not : (x v : Bool) → differs x v ≡ true → x ≡ not v
differs_not true true e = clash e refl
differs_not true false e = refl
differs_not false true e = refl
differs_not false false e = clash e refl

not-differs : (x v : Bool) → differs x v ≡ false → differs x (not v) ≡ true
not-differs true true e = refl
not-differs true false e = clash refl e
not-differs false true e = clash refl e
not-differs false false e = refl

same_not : (v : Bool) → differs (not v) (not v) ≡ false
same_not true = refl
same_not false = refl

-- one more sample
module _ (n : ℕ) (l : List Bool) (c : Contact) (low : 1 ≤ n) (same : c.n ≡ n) (k : Knows n l c) where
  abbrev v : Bool
  v = c.closed

  -- it is as the report
  agrees : (x : Bool) → differs x v ≡ false → Knows n (x ∷ l) (told c v 0)
  agrees x e =
      let d = not-differs x v e in
      record { closed = sym (report_stays n v x l (sym k.closed) (row_ended n (not v) x l low d)); against = rw d; few = low }

  -- it is not: so many in a row say otherwise
  otherwise : last_all n (not v) (not v ∷ l) ≡ leb n (c.against + 1)
  otherwise =
      let r : in_row (not v) (not v ∷ l) ≡ c.against + 1 = rw (same_not v) (omega (arith, k.against)) in
      last_row n (not v) (not v ∷ l) ∙ ap (leb n) r

  -- one more against the report, and that is not enough
  counts : c.against + 1 < n → Knows n (not v ∷ l) (told c v (c.against + 1))
  counts h = record {
    closed = sym (report_stays n v (not v) l (sym k.closed) (otherwise ∙ lt-leb n (c.against + 1) h));
    against = rw (same_not v) (omega (arith, k.against));
    few = h;
  }

  -- the n-th turns it
  turns : n ≤ c.against + 1 → Knows n (not v ∷ l) (told c (not v) 0)
  turns h = record { closed = sym (report_turns n (not v) l low (otherwise ∙ le-leb n (c.against + 1) h)); against = rw (not-differs (not v) (not v) (same_not v)); few = low }

  pub knows_sampled : (x : Bool) → Knows n (x ∷ l) (sampled c x)
  knows_sampled x =
      by_test (Knows n (x ∷ l)) (differs x v)
      (λ e. rw (differs_not x v e) (by_test (Knows n (not v ∷ l)) (ltb (c.against + 1) c.n)
      (λ q. counts (omega (arith, ltb-true (c.against + 1) c.n q, same)))
      (λ q. turns (omega (arith, ltb-false (c.against + 1) c.n q, same)))))
      (agrees x)
