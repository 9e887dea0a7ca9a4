-- The contact debouncer, proved: what a contract allows is what its definition says.
-- Assumes nothing.
use Prim.Native.Nat.{ℕ}
use mathlib.Core.Path.{◌≡◌, refl, sym, ◌∙◌, ap, subst}
use mathlib.Core.Bool.{true, false}
use mathlib.Core.List.{List, [], ◌∷◌}
use Rattle.lists.proofs.ListLaws.{by_bool}
use Rattle.calls.specs.Range.{Bytes}
use Rattle.debounce.specs.declared.Card.{Card}
use Rattle.debounce.specs.declared.Made.{Made}
use Rattle.debounce.specs.declared.Ticked.{Ticked}
use Rattle.debounce.specs.Rule.{Setting}
use Rattle.debounce.specs.Card.{whole, ticked_card, answered}
use Rattle.debounce.specs.Settings.{good_settings, settings_in, fresh_card, no_card, fresh_of}
use Rattle.debounce.specs.Facts.{CardTyped, Undamaged, SettingsOf}
use Rattle.debounce.proofs.CodeLaws.{tick_taken, tick_refused, fresh_made, fresh_refused}
use Rattle.debounce.proofs.CheckLaws.{undamaged, passes}
use Rattle.debounce.proofs.HistoryLaws.{reach}
use Rattle.debounce.proofs.FreshLaws.{stays_whole, stays_undamaged, reports_rule}
use Rattle.debounce.proofs.SettingsLaws.{settings_said, settings_only}
use Rattle.debounce.proofs.TickSaid.{one_tick, next_undamaged, none_damaged}
use Rattle.debounce.proofs.fresh.Met as fresh
use Rattle.debounce.proofs.tick.Met as tick
use Rattle.statements.specs.Debouncer.{Tick, Allowed, reached, Chain, raw_bits, Debounces, Refused, Taken, Debouncer}

-- ── one tick ──

-- a tick of a card whose test passes
gave : (c : Card) (u : Tick) → Allowed c u → whole c ≡ true → u.gave ≡ answered (ticked_card c u.bits)
gave c u a e = a ∙ tick_taken c u.bits e

refused : (c : Card) (u : Tick) → Allowed c u → whole c ≡ false → Refused c u
refused c u a e =
    let q = a ∙ tick_refused c u.bits e in
    record { refusal = ap (λ (x : Ticked). x.refusal) q; card = ap (λ (x : Ticked). x.card) q; reported = ap (λ (x : Ticked). x.reported) q }

is_taken : (c : Card) → CardTyped c → (u : Tick) → Allowed c u → Undamaged c → Taken c u
is_taken c t u a f =
    let e = passes c t f in
    let q = gave c u a e in
    let p = ap (λ (x : Ticked). x.card) q in
    record { refusal = ap (λ (x : Ticked). x.refusal) q; undamaged = subst Undamaged (sym p) (next_undamaged c u.bits t e); contacts = rw p (one_tick c u.bits t e) }

-- ── from a fresh card on ──

module _ (xs : List Setting) (b : List ℕ) (f : SettingsOf xs b) where
  at_end : (us : List Tick) → Chain (fresh_card xs) us → reached (fresh_card xs) us ≡ reach xs (fresh_card xs) (raw_bits us)
  at_end [] k = refl
  at_end (u ∷ before) k =
      let ih = at_end before k.1 in
      let safe = ap whole ih ∙ stays_whole xs f.eight f.range (raw_bits before) in
      ap (λ (x : Ticked). x.card) (gave (reached (fresh_card xs) before) u k.0 safe) ∙ ap (λ (c : Card). ticked_card c u.bits) ih

  -- the answer to the next tick
  next : (u : Tick) (before : List Tick) → Chain (fresh_card xs) (u ∷ before) → u.gave ≡ answered (ticked_card (reach xs (fresh_card xs) (raw_bits before)) u.bits)
  next u before k =
      let e = at_end before k.1 in
      let safe = ap whole e ∙ stays_whole xs f.eight f.range (raw_bits before) in
      gave (reached (fresh_card xs) before) u k.0 safe ∙ ap (λ (c : Card). answered (ticked_card c u.bits)) e

  debounces : Debounces (fresh_card xs) xs
  debounces = record {
    undamaged = λ us k. subst Undamaged (sym (at_end us k)) (stays_undamaged xs f.eight f.range (raw_bits us));
    taken = λ u before k. ap (λ (x : Ticked). x.refusal) (next u before k);
    reports = λ u before k. ap (λ (x : Ticked). x.reported) (next u before k) ∙ reports_rule xs f.eight f.range (raw_bits before) u.bits;
  }

  makes : (r : Made) → r ≡ fresh_of b → (r.refusal ≡ 0) × Debounces r.card xs
  makes r e =
      let s = settings_only xs b f in
      let q = e ∙ fresh_made b s.0 in
      let c : r.card ≡ fresh_card xs = ap (λ (m : Made). m.card) q ∙ ap fresh_card s.1 in
      (ap (λ (m : Made). m.refusal) q, subst (λ (c : Card). Debounces c xs) (sym c) debounces)

-- bytes of another form
makes_none : (b : List ℕ) → Bytes b → ((xs : List Setting) → SettingsOf xs b → ⊥) → (r : Made) → r ≡ fresh_of b
    → (r.refusal ≡ 17) × ((u : Tick) → Allowed r.card u → Refused r.card u)
makes_none b small n r e =
    let bad : good_settings b ≡ false = by_bool (good_settings b) (λ g. absurd (n (settings_in b) (settings_said b small g))) (λ g. g) in
    let q = e ∙ sym (fresh_refused b no_card bad refl) in
    let c : r.card ≡ no_card = ap (λ (m : Made). m.card) q in
    (ap (λ (m : Made). m.refusal) q, λ u a. refused r.card u a (ap whole c ∙ none_damaged))

pub debouncer : Debouncer
debouncer = record {
  fresh = fresh.met;
  tick = tick.met;
  fresh_asks = λ κs x. tt;
  tick_asks = λ κs x. tt;
  made = λ κs x r y p xs f. makes xs _ f r p;
  bad_setting = λ κs x r y p small n. makes_none _ small n r p;
  damaged = λ c t u a n. refused c u a (by_bool (whole c) (λ e. absurd (n (undamaged c t e))) (λ e. e));
  whole = is_taken;
}
