-- The steps whose parts are put together by hand: each law has an equation for each call's result.
-- Assumes nothing.
use Rattle.std.proofs.Common.{◌≡◌, ℕ, ◌+◌, ◌-◌, ◌<◌, ◌≤◌, Bool, true, false, ◌&&◌, ltb, leb, List, [], ◌∷◌, get_or, take, drop, sym, refl, ap, ◌∙◌, arith, ltb-true, le-ltb, lt-ltb, ne_eqb, leb-true}
use mir.Val.{bool_byte}
use Rattle.lists.specs.Lists.{bit, every}
use Rattle.lists.proofs.Tests.{no, each, and_first, byte_bit}
use Rattle.lists.proofs.ListLaws.{by_bool}
use Rattle.workspace.specs.declared.Stretch.{Stretch}
use Rattle.workspace.specs.declared.Used.{Used}
use Rattle.workspace.specs.declared.Look.{Look}
use Rattle.workspace.specs.declared.Done.{Done}
use Rattle.workspace.specs.declared.Refusal.{Refusal}
use Rattle.workspace.specs.declared.Refusal.TheVariants.{BadState, BadSize, BlocksFull, NoSpace, BadBlock}
use Rattle.workspace.specs.Rules.{stretch, none, is_none}
use Rattle.workspace.specs.Places.{place_of, is_behind, remove_at, insert_at}
use Rattle.workspace.specs.Check.{tiled}
use Rattle.workspace.specs.Steps.{number_of, is_counted, keeps_seen, refused_as, done_as, request_refusal, cut_at, grant_seen, request_seen, block_at, touches_low, touches_high, give_at, give_back, count_back, free_seen, release_seen}

-- ── the check ──

pub keep_law : (s : Look) (u : Used) {x y t : Bool} → is_counted s u ≡ true → x ≡ every is_none (drop u.blocks s.blocks) → y ≡ every is_none (drop u.free s.free) → t ≡ tiled 64 false 0 (take u.blocks s.blocks) (take u.free s.free)
    → x && y && t ≡ keeps_seen s u
unfolding keeps_seen
keep_law s u e ex ey et = λ i. sym e i && (ex i && ey i && et i)

pub break_law : (s : Look) (u : Used) → is_counted s u ≡ false → false ≡ keeps_seen s u
unfolding keeps_seen
break_law s u e = λ i. sym e i && (every is_none (drop u.blocks s.blocks) && every is_none (drop u.free s.free) && tiled 64 false 0 (take u.blocks s.blocks) (take u.free s.free))

-- where that is so, the numbers of places used are in range
pub in_range_lem : (s : Look) (u : Used) → is_counted s u ≡ true → (u.blocks ≤ 31) × (u.free ≤ 32)
in_range_lem s u c =
    let p = each s.long (s.clear ∷ leb u.blocks 31 ∷ leb u.free 32 ∷ []) c in
    (leb-true u.blocks 31 (p 2), leb-true u.free 32 (p 3))

pub counted : (s : Look) (u : Used) → keeps_seen s u ≡ true → (u.blocks ≤ 31) × (u.free ≤ 32)
unfolding keeps_seen
counted s u e = in_range_lem s u (and_first (is_counted s u) (every is_none (drop u.blocks s.blocks) && every is_none (drop u.free s.free) && tiled 64 false 0 (take u.blocks s.blocks) (take u.free s.free)) e)

-- ── a request ──

-- a refusal has a number above 0
pub numbered : (r : Refusal) → number_of r ≡ 0 → ⊥
numbered BadState e = omega (arith, e)
numbered BadSize e = omega (arith, e)
numbered BlocksFull e = omega (arith, e)
numbered NoSpace e = omega (arith, e)
numbered BadBlock e = omega (arith, e)

-- where the refusal is 0, all tests have passed
pub granted_may : (s : Look) (u : Used) (n : ℕ) {kept : Bool} {k : ℕ} → kept ≡ keeps_seen s u → k ≡ request_refusal kept u s.place n → k ≡ 0 → (u.blocks ≤ 31) × (0 < u.free)
unfolding request_refusal
granted_may s u n {kept = false} ek er o = no (omega (arith, er, o))
granted_may s u n {kept = true} ek er o =
    let e : request_refusal true u s.place n ≡ 0 = sym er ∙ o in
    by_bool (leb 1 n && leb n 65535)
    (λ z. by_bool (ltb u.blocks 31)
    (λ b. by_bool (ltb s.place u.free)
    (λ p. let h : s.place < u.free = ltb-true s.place u.free p in ((counted s u (sym ek)).0, omega (arith, h)))
    (λ p. no (let q : 15 ≡ 0 = rw (z, b, p) at e in omega (arith, q))))
    (λ b. no (let q : 14 ≡ 0 = rw (z, b) at e in omega (arith, q))))
    (λ z. no (let q : 13 ≡ 0 = rw z at e in omega (arith, q)))

pub grant_law : (s : Look) (u : Used) (n : ℕ) {f : Stretch} {k : ℕ} {bs fs : List Stretch} {d : ℕ} {r : Done}
    → f ≡ get_or s.free s.place none → k ≡ place_of (is_behind f.start) (take u.blocks s.blocks) → bs ≡ insert_at k (stretch f.start n) s.blocks
    → fs ≡ cut_at s.place n s.free → d ≡ bool_byte (leb f.length n) → r ≡ done_as bs fs f.start (u.blocks + 1) (u.free - d) → r ≡ grant_seen s u n
unfolding grant_seen
grant_law s u n {f = f} ef ek eb e ed er =
    let bb = eb ∙ (λ i. insert_at (ek i) (stretch f.start n) s.blocks) in
    er
    ∙ (λ i. done_as (bb i) (e i) f.start (u.blocks + 1) (u.free - (ed ∙ byte_bit (leb f.length n)) i))
    ∙ (λ i. done_as (insert_at (place_of (is_behind (ef i).start) (take u.blocks s.blocks)) (stretch (ef i).start n) s.blocks) (cut_at s.place n s.free) (ef i).start (u.blocks + 1) (u.free - bit (leb (ef i).length n)))

pub request_granted : (s : Look) (u : Used) (n : ℕ) {kept : Bool} {k : ℕ} {r : Done} → kept ≡ keeps_seen s u → k ≡ request_refusal kept u s.place n → k ≡ 0 → r ≡ grant_seen s u n → r ≡ request_seen s u n
unfolding request_seen
request_granted s u n ek e z er = er ∙ rw (sym (e ∙ ap (λ (b : Bool). request_refusal b u s.place n) ek) ∙ z) refl

pub request_refused : (s : Look) (u : Used) (n : ℕ) {kept : Bool} {k : ℕ} {r : Done} → kept ≡ keeps_seen s u → k ≡ request_refusal kept u s.place n → (k ≡ 0 → ⊥) → r ≡ refused_as s u k → r ≡ request_seen s u n
unfolding request_seen
request_refused s u n ek e z er =
    let f = e ∙ ap (λ (b : Bool). request_refusal b u s.place n) ek in
    er ∙ ap (refused_as s u) f ∙ rw (ne_eqb (request_refusal (keeps_seen s u) u s.place n) 0 (λ q. z (f ∙ q))) refl

-- ── a release ──

pub free_law : (s : Look) (u : Used) (p : ℕ) {b : Stretch} {k : ℕ} {low high : Bool} {bs fs : List Stretch} {d₁ d₂ : ℕ} {r : Done}
    → b ≡ get_or s.blocks p none → k ≡ place_of (is_behind b.start) (take u.free s.free) → low ≡ touches_low b k s.free → high ≡ touches_high b k s.free
    → bs ≡ remove_at p s.blocks → fs ≡ give_at low high b k s.free → d₁ ≡ bool_byte low → d₂ ≡ bool_byte high → r ≡ done_as bs fs b.length (u.blocks - 1) (u.free + 1 - d₁ - d₂) → r ≡ free_seen s u p
unfolding free_seen give_back count_back
free_law s u p {b = b} {k = k} {low = low} {high = high} eb ek el eh e₁ e₂ ed eg er =
    let kk = ek ∙ (λ i. place_of (is_behind (eb i).start) (take u.free s.free)) in
    er
    ∙ (λ i. done_as (e₁ i) ((e₂ ∙ (λ j. give_at (el j) (eh j) b k s.free)) i) b.length (u.blocks - 1) (u.free + 1 - (ed ∙ byte_bit low ∙ ap bit el) i - (eg ∙ byte_bit high ∙ ap bit eh) i))
    ∙ (λ i. done_as (remove_at p s.blocks) (give_back (eb i) (kk i) s.free) (eb i).length (u.blocks - 1) (count_back (eb i) (kk i) u.free s.free))

pub release_freed : (s : Look) (u : Used) (a : ℕ) {kept : Bool} {p : ℕ} {r : Done} → kept ≡ keeps_seen s u → kept ≡ true → p ≡ block_at s u a → p < u.blocks → r ≡ free_seen s u p → r ≡ release_seen s u a
unfolding release_seen
release_freed s u a ek e ep h er = er ∙ ap (free_seen s u) ep ∙ rw (sym ek ∙ e, ap (λ (q : ℕ). ltb q u.blocks) (sym ep) ∙ lt-ltb _ u.blocks h) refl

pub release_unknown : (s : Look) (u : Used) (a : ℕ) {kept : Bool} {p : ℕ} {r : Done} → kept ≡ keeps_seen s u → kept ≡ true → p ≡ block_at s u a → u.blocks ≤ p → r ≡ refused_as s u 16 → r ≡ release_seen s u a
unfolding release_seen
release_unknown s u a ek e ep h er = er ∙ rw (sym ek ∙ e, ap (λ (q : ℕ). ltb q u.blocks) (sym ep) ∙ le-ltb _ u.blocks h) refl

pub release_unsound : (s : Look) (u : Used) (a : ℕ) {kept : Bool} {r : Done} → kept ≡ keeps_seen s u → kept ≡ false → r ≡ refused_as s u 2 → r ≡ release_seen s u a
unfolding release_seen
release_unsound s u a ek e er = er ∙ rw (sym ek ∙ e) refl
