-- Request (x), proved: what holds of the operations holds of the uses that keep their contracts.
-- Assumes nothing.
use Prim.Native.Nat.{ℕ, ◌-◌, ◌≤◌, ◌<◌}
use mathlib.Core.Path.{◌≡◌, refl, sym, ap, ◌∙◌, subst}
use mathlib.Core.Bool.{true, not, ◌&&◌}
use mathlib.Core.List.{List, [], ◌∷◌, ◌++◌, map}
use native.Mathlib.Omega.{arith}
use lib.Dec.{eqb, leb, ltb}
use lib.ListN.{length, take, drop, replicate}
use lib.Seq.{take-append_seam}
use borrow.Author.Tests.{ltb-true, ltb-false, lt-leb, le-leb, eqb-true}
use Rattle.lists.specs.Lists.{every, in_order_by}
use Rattle.lists.proofs.ListLaws.{by_bool, clash}
use Rattle.lists.proofs.Tests.{each}
use Rattle.workspace.specs.Rules.{units, stretch, none, total, is_none, is_before, is_long, is_inside, is_apart, is_loose, is_kept, has_places, rules_kept}
use Rattle.workspace.specs.Operations.{Outcome, refused, took, fits, is_short, placed, fit_start, cut, starts_at, length_at, without, joined, fresh_of, request_of, release_of, answer_of, unused}
use Rattle.workspace.specs.Owning.{owned_fresh, owned_after}
use Rattle.workspace.specs.Runs.{Area, is_sound, Op, request, release, outcome_of, after, run_of, refusal_of, value_of, releases_all}
use Rattle.workspace.specs.declared.Answer.{Answer}
use Rattle.workspace.specs.declared.Stretch.{Stretch}
use Rattle.workspace.specs.declared.Tables.{Tables}
use Rattle.workspace.specs.declared.Used.{Used}
use Rattle.workspace.proofs.Standing.{kept_stands, few}
use Rattle.workspace.proofs.Keeping as keeping
use Rattle.statements.specs.Refusals.{first_row}
use Rattle.statements.specs.Workspaces.{Result, Gives, KeepsFresh, KeepsOp, area_of, Work, Works, area_after, blocks_of, free_of, RulesHold, fresh_rows, request_rows, release_rows, TakesFront, GivesBack, result_of, Workspaces}

-- ── what a use gives is what the outcome says ──

answer_refusal : (u : Used) (o : Outcome) → (answer_of u o).refusal ≡ refusal_of o
answer_refusal u (refused k) = refl
answer_refusal u (took v bs fs) = refl

answer_value : (u : Used) (o : Outcome) → (answer_of u o).value ≡ value_of o
answer_value u (refused k) = refl
answer_value u (took v bs fs) = refl

module _ (a : Area) (o : Outcome) (g : Result) (k : Gives a o g) where
  refusal_is : g.answer.refusal ≡ refusal_of o
  refusal_is = ap (λ (r : Answer). r.refusal) k.0 ∙ answer_refusal a.used o

  value_is : g.answer.value ≡ value_of o
  value_is = ap (λ (r : Answer). r.value) k.0 ∙ answer_value a.used o

  area_is : area_of g ≡ after a o
  area_is = λ i. record { blocks = k.1 i; free = k.2 i; used = (k.0 i).used }

-- a refusal changes nothing and answers 0
same : (a : Area) (o : Outcome) (g : Result) → Gives a o g → 0 < g.answer.refusal → (area_of g ≡ a) × (g.answer.value ≡ 0)
same a (refused n) g k h = (area_is a (refused n) g k, value_is a (refused n) g k)
same a (took v bs fs) g k h = absurd (omega (arith, h, refusal_is a (took v bs fs) g k))

-- what is taken stands in the used places
module _ (a : Area) (v : ℕ) (bs fs : List Stretch) (g : Result) (k : Gives a (took v bs fs) g) where
  blocks_are : blocks_of (area_of g) ≡ bs
  blocks_are = ap blocks_of (area_is a (took v bs fs) g k) ∙ take-append_seam bs (replicate (length a.blocks - length bs) none)

  free_are : free_of (area_of g) ≡ fs
  free_are = ap free_of (area_is a (took v bs fs) g k) ∙ take-append_seam fs (replicate (length a.free - length fs) none)

-- ── refusals ──

not_short : (n : ℕ) (l : List Stretch) → every (is_short n) l ≡ not (fits n l)
not_short n l =
    by_bool (fits n l)
    (λ e. rw e (by_bool (every (is_short n) l) (λ q. absurd (clash e (keeping.fits-none n l q))) (λ q. q)))
    (λ e. rw e (keeping.none_fits n l e))

not_full : (m : ℕ) → leb 31 m ≡ not (ltb m 31)
not_full m = by_bool (ltb m 31) (λ e. rw e (lt-leb 31 m (ltb-true m 31 e))) (λ e. rw e (le-leb 31 m (ltb-false m 31 e)))

fresh_number : (b f : List Stretch) → refusal_of (fresh_of b f) ≡ first_row (fresh_rows b f)
unfolding fresh_of
fresh_number b f = by_bool (has_places b f) (λ e. rw e refl) (λ e. rw e refl)

request_number : (a : Area) (n : ℕ) → refusal_of (outcome_of a (request n)) ≡ first_row (request_rows a n)
unfolding request_of
request_number a n =
    rw (not_short n (free_of a), not_full a.used.blocks)
    (by_bool (is_sound a)
    (λ e₀. by_bool (leb 1 n && leb n 65535)
    (λ e₁. by_bool (ltb a.used.blocks 31)
    (λ e₂. by_bool (fits n (free_of a)) (λ e₃. rw (e₀, e₁, e₂, e₃) refl) (λ e₃. rw (e₀, e₁, e₂, e₃) refl))
    (λ e₂. rw (e₀, e₁, e₂) refl))
    (λ e₁. rw (e₀, e₁) refl))
    (λ e₀. rw e₀ refl))

release_number : (a : Area) (s : ℕ) → refusal_of (outcome_of a (release s)) ≡ first_row (release_rows a s)
unfolding release_of
release_number a s = by_bool (is_sound a) (λ e₀. by_bool (starts_at s (blocks_of a)) (λ e₁. rw (e₀, e₁) refl) (λ e₁. rw (e₀, e₁) refl)) (λ e₀. rw e₀ refl)

-- ── what is taken ──

fresh_took : (b f : List Stretch) → refusal_of (fresh_of b f) ≡ 0 → (has_places b f ≡ true) × (fresh_of b f ≡ took 0 [] (stretch 0 units ∷ []))
unfolding fresh_of
fresh_took b f r = by_bool (has_places b f) (λ e. (e, rw e refl)) (λ e. let q : ◌≡◌ {A = ℕ} 2 0 = rw e at r in absurd (omega (arith, q)))

request_took : (a : Area) (n : ℕ) → refusal_of (outcome_of a (request n)) ≡ 0
    → outcome_of a (request n) ≡ took (fit_start n (free_of a)) (placed (stretch (fit_start n (free_of a)) n) (blocks_of a)) (cut n (free_of a))
unfolding request_of
request_took a n r =
    by_bool (is_sound a)
    (λ e₀. by_bool (leb 1 n && leb n 65535)
    (λ e₁. by_bool (ltb a.used.blocks 31)
    (λ e₂. by_bool (fits n (free_of a))
    (λ e₃. rw (e₀, e₁, e₂, e₃) refl)
    (λ e₃. let q : ◌≡◌ {A = ℕ} 15 0 = rw (e₀, e₁, e₂, e₃) at r in absurd (omega (arith, q))))
    (λ e₂. let q : ◌≡◌ {A = ℕ} 14 0 = rw (e₀, e₁, e₂) at r in absurd (omega (arith, q))))
    (λ e₁. let q : ◌≡◌ {A = ℕ} 13 0 = rw (e₀, e₁) at r in absurd (omega (arith, q))))
    (λ e₀. let q : ◌≡◌ {A = ℕ} 2 0 = rw e₀ at r in absurd (omega (arith, q)))

release_took : (a : Area) (s : ℕ) → refusal_of (outcome_of a (release s)) ≡ 0
    → (is_sound a ≡ true) × (outcome_of a (release s) ≡ took (length_at s (blocks_of a)) (without s (blocks_of a)) (joined (stretch s (length_at s (blocks_of a))) (free_of a)))
unfolding release_of
release_took a s r =
    by_bool (is_sound a)
    (λ e₀. by_bool (starts_at s (blocks_of a))
    (λ e₁. (e₀, rw (e₀, e₁) refl))
    (λ e₁. let q : ◌≡◌ {A = ℕ} 16 0 = rw (e₀, e₁) at r in absurd (omega (arith, q))))
    (λ e₀. let q : ◌≡◌ {A = ℕ} 2 0 = rw e₀ at r in absurd (omega (arith, q)))

fresh_area : (b f : List Stretch) (g : Result) → KeepsFresh b f g → g.answer.refusal ≡ 0 → (blocks_of (area_of g) ≡ []) × (free_of (area_of g) ≡ stretch 0 units ∷ [])
fresh_area b f g k r =
    let a : Area = record { blocks = b; free = f; used = unused } in
    let t = subst (λ (o : Outcome). Gives a o g) (fresh_took b f (sym (refusal_is a (fresh_of b f) g k) ∙ r)).1 k in
    (blocks_are a 0 [] (stretch 0 units ∷ []) g t, free_are a 0 [] (stretch 0 units ∷ []) g t)

takes_front : (a : Area) (n : ℕ) (g : Result) → KeepsOp a (request n) g → g.answer.refusal ≡ 0 → TakesFront a n g
takes_front a n g k r =
    let o = outcome_of a (request n) in
    let v = fit_start n (free_of a) in
    let t = subst (λ (x : Outcome). Gives a x g) (request_took a n (sym (refusal_is a o g k) ∙ r)) k in
    let bs = placed (stretch v n) (blocks_of a) in
    let fs = cut n (free_of a) in
    let e : g.answer.value ≡ v = value_is a (took v bs fs) g t in
    record { start = e; blocks = blocks_are a v bs fs g t ∙ ap (λ (x : ℕ). placed (stretch x n) (blocks_of a)) (sym e); free = free_are a v bs fs g t }

gives_back : (a : Area) (s : ℕ) (g : Result) → KeepsOp a (release s) g → g.answer.refusal ≡ 0 → GivesBack a s g
gives_back a s g k r =
    let o = outcome_of a (release s) in
    let v = length_at s (blocks_of a) in
    let t = subst (λ (x : Outcome). Gives a x g) (release_took a s (sym (refusal_is a o g k) ∙ r)).1 k in
    let bs = without s (blocks_of a) in
    let fs = joined (stretch s v) (free_of a) in
    let e : g.answer.value ≡ v = value_is a (took v bs fs) g t in
    record { length = e; blocks = blocks_are a v bs fs g t; free = free_are a v bs fs g t ∙ ap (λ (x : ℕ). joined (stretch s x) (free_of a)) (sym e) }

found_again : (a : Area) (s : ℕ) (g k : Result) → KeepsOp a (release s) g → g.answer.refusal ≡ 0 → g.answer.value ≤ 65535
    → KeepsOp (area_of g) (request g.answer.value) k → k.answer.refusal ≡ 0
found_again a s g k kg r h kk =
    let o = outcome_of a (release s) in
    let z = sym (refusal_is a o g kg) ∙ r in
    let p = area_is a o g kg in
    let q = value_is a o g kg in
    refusal_is (area_of g) (outcome_of (area_of g) (request g.answer.value)) k kk
    ∙ (λ i. refusal_of (outcome_of (p i) (request (q i))))
    ∙ keeping.found_again a s (release_took a s z).0 z (subst (λ (x : ℕ). x ≤ 65535) q h)

-- ── sequences ──

went : (a : Area) (us : List Work) → Works a us → area_after a us ≡ run_of a (map (λ (u : Work). u.op) us)
went a [] w = refl
went a (u ∷ us) w =
    went (area_of u.gave) us w.1 ∙ ap (λ (x : Area). run_of x (map (λ (v : Work). v.op) us)) (area_is a (outcome_of a u.op) u.gave w.0)

all_released : (a : Area) → is_sound a ≡ true → (us : List Work) → Works a us → map (λ (u : Work). u.op) us ≡ releases_all (blocks_of a)
    → (blocks_of (area_after a us) ≡ []) × (free_of (area_after a us) ≡ stretch 0 units ∷ [])
all_released a e us w q =
    let z = area_after a us in
    let r = keeping.all_released a z (went a us w ∙ ap (run_of a) q) e in
    (ap (λ (n : ℕ). take n z.blocks) r.0, (λ i. take (r.1 i) (r.2 i)))

module _ (b f : List Stretch) (g : Result) (k : KeepsFresh b f g) (r : g.answer.refusal ≡ 0) (us : List Work) (w : Works (area_of g) us) where
  sound_after : is_sound (area_after (area_of g) us) ≡ true
  sound_after =
      let a : Area = record { blocks = b; free = f; used = unused } in
      let t = fresh_took b f (sym (refusal_is a (fresh_of b f) g k) ∙ r) in
      let s : is_sound (area_of g) ≡ true = ap is_sound (area_is a (fresh_of b f) g k) ∙ keeping.fresh_keeps b f t.0 in
      ap is_sound (went (area_of g) us w) ∙ keeping.sound_run (area_of g) (map (λ (u : Work). u.op) us) s

  never : (o : Op) (j : Result) → KeepsOp (area_after (area_of g) us) o j → j.answer.refusal ≡ 2 → ⊥
  never o j q e = let a = area_after (area_of g) us in keeping.sound_good a o sound_after (sym (refusal_is a (outcome_of a o) j q) ∙ e)

rules_of : (a : Area) → is_sound a ≡ true → RulesHold a
unfolding rules_kept is_kept
rules_of a e =
    let s = kept_stands a.blocks a.free a.used e in
    let bs = blocks_of a in
    let fs = free_of a in
    let kept : is_kept bs fs ≡ true =
    each (leb 31 (length a.blocks)) (leb 32 (length a.free) ∷ leb a.used.blocks 31 ∷ leb a.used.free (length a.free) ∷ every is_none (drop a.used.blocks a.blocks) ∷ every is_none (drop a.used.free a.free) ∷ is_kept bs fs ∷ []) e 6 in
    let w = each (in_order_by is_before bs) (in_order_by is_before fs ∷ every is_long (bs ++ fs) ∷ every is_inside (bs ++ fs) ∷ in_order_by is_apart (bs ++ fs) ∷ in_order_by is_loose fs ∷ eqb (total (bs ++ fs)) units ∷ []) kept in
    record {
      few_blocks = s.few_blocks;
      few_free = few a.blocks a.free a.used s;
      in_order = (w 0, w 1);
      lengths = w 2;
      unused_places = (s.unused_blocks, s.unused_free);
      inside = w 3;
      apart = w 4;
      loose = w 5;
      whole = eqb-true (total (bs ++ fs)) units (w 6);
    }

-- ── tables by value ──

owned : (t r : Tables) (o : Outcome) → r ≡ owned_after t o → Gives (area_of (result_of t)) o (result_of r)
unfolding owned_after
owned t r o e = (ap (λ (x : Tables). x.answer) e, ap (λ (x : Tables). x.blocks) e, ap (λ (x : Tables). x.free) e)

owned_fresh_lem : (t r : Tables) → r ≡ owned_fresh t → KeepsFresh t.blocks t.free (result_of r)
unfolding owned_fresh
owned_fresh_lem t r e = (ap (λ (x : Tables). x.answer) e, ap (λ (x : Tables). x.blocks) e, ap (λ (x : Tables). x.free) e)

pub workspaces : Workspaces
workspaces = record {
  lent_says = λ 𝓛 mem run. record { fresh = λ κs x r y. refl; request = λ κs x r y. refl; release = λ κs x r y. refl };
  owned_fresh_says = λ κs x r y p. owned_fresh_lem x.0 r p;
  owned_request_says = λ κs x r y p. owned x.0 r (request_of x.0.blocks x.0.free x.0.answer.used x.1.0) p;
  owned_release_says = λ κs x r y p. owned x.0 r (release_of x.0.blocks x.0.free x.0.answer.used x.1.0) p;
  fresh_refused = λ b f g k. refusal_is (record { blocks = b; free = f; used = unused }) (fresh_of b f) g k ∙ fresh_number b f;
  request_refused = λ a n g k. refusal_is a (outcome_of a (request n)) g k ∙ request_number a n;
  release_refused = λ a s g k. refusal_is a (outcome_of a (release s)) g k ∙ release_number a s;
  fresh_same = λ b f g k h.
      let s = same (record { blocks = b; free = f; used = unused }) (fresh_of b f) g k h in
      (ap (λ (a : Area). a.blocks) s.0, ap (λ (a : Area). a.free) s.0, s.1);
  refused_same = λ a o. same a (outcome_of a o);
  fresh_area = fresh_area;
  takes_front = takes_front;
  gives_back = gives_back;
  found_again = found_again;
  all_released = all_released;
  rules_hold = λ b f g k r us w. rules_of (area_after (area_of g) us) (sound_after b f g k r us w);
  never_bad_state = never;
  suffices = keeping.rules_suffice;
}
