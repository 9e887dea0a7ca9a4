-- The card of good settings, and what holds from it on: over every history the report is the rule's.
-- Assumes nothing.
use Rattle.std.proofs.Common.{◌≡◌, ℕ, zero, suc, ◌-◌, ◌<◌, ◌≤◌, true, List, [], ◌∷◌, map, length, get_or, sym, refl, ap, ◌∙◌, subst, arith}
use native.Mathlib.Nat.{zero-mod}
use lib.ListN.{length-map}
use Rattle.lists.specs.Lists.{every}
use Rattle.lists.proofs.Tests.{and_first, and_second}
use Rattle.rules.specs.State.{timer_of, ticks_left, empty}
use Rattle.debounce.specs.declared.Contact.{Contact}
use Rattle.debounce.specs.Rule.{Setting, report_byte}
use Rattle.debounce.specs.Card.{good_setting, opened, no_setting, no_contact, nth_of, whole, ticked_card, answered, no_tasks, start_all}
use Rattle.debounce.specs.Settings.{fresh_card}
use Rattle.debounce.specs.Facts.{Undamaged}
use Rattle.debounce.proofs.ContactLaws.{InRange, in_range_of}
use Rattle.debounce.proofs.StartLaws.{Started, start_all_lem, starts_none}
use Rattle.debounce.proofs.HistoryLaws.{Tells, After, after_whole, after_undamaged, after_tick, after_reach, reach, report_is}

-- ── the settings and their contacts ──

range_at : (xs : List Setting) → every (λ x. good_setting x.n x.p) xs ≡ true → (i : ℕ) → i < length xs → InRange (get_or xs i no_setting).n (get_or xs i no_setting).p
range_at [] e i h = absurd (omega arith)
range_at (x ∷ xs) e zero h = in_range_of x.n x.p (and_first (good_setting x.n x.p) (every (λ x. good_setting x.n x.p) xs) e)
range_at (x ∷ xs) e (suc i) h = range_at xs (and_second (good_setting x.n x.p) (every (λ x. good_setting x.n x.p) xs) e) i (omega arith)

opened_at : (xs : List Setting) (i : ℕ) → get_or (map opened xs) i no_contact ≡ opened (get_or xs i no_setting)
opened_at [] i = refl
opened_at (x ∷ xs) zero = refl
opened_at (x ∷ xs) (suc i) = opened_at xs i

-- ── the start, and what follows ──

module _ (xs : List Setting) (eight : length xs ≡ 8) (good : every (λ x. good_setting x.n x.p) xs ≡ true) where
  abbrev cs : List Contact
  cs = map opened xs

  abbrev setting_of : ℕ → Setting
  setting_of k = get_or xs (k - 1) no_setting

  many : length cs ≡ 8
  many = length-map xs opened ∙ eight

  range : (k : ℕ) → 0 < k → k ≤ 8 → InRange (setting_of k).n (setting_of k).p
  range k lo hi = range_at xs good (k - 1) (omega (arith, lo, hi, eight))

  is_at : (k : ℕ) → nth_of cs k ≡ opened (setting_of k)
  is_at k = opened_at xs (k - 1)

  all_started : Started (λ k. (setting_of k).p) 8 (start_all no_tasks cs)
  all_started =
      subst (λ (m : ℕ). Started (λ k. (setting_of k).p) m (start_all no_tasks cs)) (omega (arith, many))
      (start_all_lem (λ k. (setting_of k).p) cs (empty 0) 0 (starts_none (λ k. (setting_of k).p)) (omega (arith, many))
      (λ i h. let e = ap (λ (c : Contact). c.p) (opened_at xs i) in
      let r = range_at xs good i (omega (arith, h, many, eight)) in
      (e ∙ ap (λ (j : ℕ). (get_or xs j no_setting).p) (omega arith), omega (arith, e, r.later), omega (arith, e, r.soon))))

  fresh_after : After xs [] (fresh_card xs)
  fresh_after =
      let s = all_started.starts in
      let v = all_started.state in
      record {
        state = v;
        contacts = cs;
        is = λ i. record { supervisor = all_started.is i; contacts = cs };
        idle = record {
          sound = s.sound;
          tree = s.tree;
          tasks = s.tasks;
          contacts = many;
          settings = λ k lo hi. rw (is_at k) (range k lo hi);
          each = λ k lo hi.
              let l : ticks_left v.clock (timer_of v k) ≡ (setting_of k).p = s.left k lo hi in
              let e : (nth_of cs k).p ≡ (setting_of k).p = ap (λ (c : Contact). c.p) (is_at k) in
              record { place = s.delayed k lo hi; low = omega (arith, l, (range k lo hi).later); high = omega (arith, l, e) };
        };
        tells = λ k lo hi. subst (λ (c : Contact). Tells xs [] v c k) (sym (is_at k)) (record {
          n = refl;
          p = refl;
          left = s.left k lo hi ∙ rw (zero-mod (setting_of k).p) (omega arith);
          knows = record { closed = refl; against = refl; few = (range k lo hi).some };
        });
      }

  module _ (history : List ℕ) where
    after : After xs history (reach xs (fresh_card xs) history)
    after = after_reach xs (fresh_card xs) fresh_after history

    -- the card is not damaged
    pub stays_whole : whole (reach xs (fresh_card xs) history) ≡ true
    stays_whole = after_whole xs history (reach xs (fresh_card xs) history) after

    pub stays_undamaged : Undamaged (reach xs (fresh_card xs) history)
    stays_undamaged = after_undamaged xs history (reach xs (fresh_card xs) history) after

    -- and the next report is the rule's, worked out from the raw bits alone
    pub reports_rule : (bits : ℕ) → (answered (ticked_card (reach xs (fresh_card xs) history) bits)).reported ≡ report_byte xs (bits ∷ history)
    reports_rule bits =
        let c = reach xs (fresh_card xs) history in
        report_is xs eight (bits ∷ history) (ticked_card c bits) (after_tick xs history c bits after)
