-- The rules are kept by every operation, and what a release gave back is found again: the laws behind what statements/specs/Workspaces.antt says of
-- uses of the three functions.
-- Assumes nothing.
use Rattle.std.proofs.Common.{◌≡◌, ℕ, zero, suc, ◌+◌, ◌-◌, ◌<◌, ◌≤◌, true, false, ◌&&◌, eqb, ltb, leb, List, [], ◌∷◌, ◌++◌, length, take, drop, replicate, sym, refl, ap, ◌∙◌, subst, true≢false, le_refl, arith, length-append, ltb-true, lt-ltb, eq-eqb, le-leb, leb-false, leb-true}
use lib.ListN.{length-replicate}
use lib.Seq.{take-append_seam, drop-append_seam}
use borrow.Author.Tests.{lt-leb}
use Rattle.workspace.specs.declared.Stretch.{Stretch}
use Rattle.lists.specs.Lists.{when◌then◌else◌, every}
use Rattle.workspace.specs.Rules.{units, stretch, none, is_none, end, is_kept, has_places}
use Rattle.workspace.specs.Operations.{placed, fits, is_short, fit_start, cut, starts_at, length_at, without, joined, refused, took, fresh_of, request_of, release_of, table_after, BAD_STATE}
use Rattle.workspace.specs.Runs.{Area, is_sound, Op, request, release, outcome_of, after, step_of, run_of, fresh_area, refusal_of, value_of, releases_all}
use Rattle.lists.proofs.Tests.{no, and_first, and_second, and_both as both}
use Rattle.lists.proofs.ListLaws.{by_bool}
use Rattle.workspace.proofs.Pieces.{Piece, taken, spare, blocks_from, free_from, measure, Good, Sound, suffice, fresh_sound}
use Rattle.workspace.proofs.Taking.{request_sound}
use Rattle.workspace.proofs.Giving.{release_sound}
use Rattle.workspace.proofs.Words.{kept_sound}
use Rattle.workspace.proofs.Padded.{table_is, none_unused, placed_length, without_length}
use Rattle.workspace.proofs.Found.{block_long}
use Rattle.workspace.proofs.Standing.{Stands, bs, fs, kept_stands, stands_kept, count_blocks, count_free, at_most_31}

-- ---- tables afterwards
after_length : (table l : List Stretch) → length l ≤ length table → length (table_after table l) ≡ length table
after_length table l h =
    let e : length (table_after table l) ≡ length l + length (replicate (length table - length l) none) = length-append l (replicate (length table - length l) none) in
    let r : length (replicate (length table - length l) none) ≡ length table - length l = length-replicate (length table - length l) none in
    omega (arith, e, r, h)

-- two lists that keep the rules are left in tables that keep the rules
took_stands : (b f bl fl : List Stretch) → 31 ≤ length b → 32 ≤ length f → length bl ≤ 31 → Sound bl fl → Stands (table_after b bl) (table_after f fl) (record { blocks = length bl; free = length fl })
took_stands b f bl fl pb pf hb s =
    let hf : length fl ≤ 32 = suffice bl fl s hb in
    let eb : length (table_after b bl) ≡ length b = after_length b bl (omega (arith, hb, pb)) in
    let ef : length (table_after f fl) ≡ length f = after_length f fl (omega (arith, hf, pf)) in
    record {
      block_places = omega (arith, eb, pb);
      free_places = omega (arith, ef, pf);
      few_blocks = hb;
      few_free = omega (arith, ef, hf, pf);
      unused_blocks = ap (every is_none) (drop-append_seam bl (replicate (length b - length bl) none)) ∙ none_unused (length b - length bl);
      unused_free = ap (every is_none) (drop-append_seam fl (replicate (length f - length fl) none)) ∙ none_unused (length f - length fl);
      sound = subst (λ (l : List Stretch). Sound l (take (length fl) (table_after f fl))) (sym (take-append_seam bl (replicate (length b - length bl) none))) (subst (Sound bl) (sym (take-append_seam fl (replicate (length f - length fl) none))) s);
    }

-- ---- the rules are kept
pub fresh_keeps : (b f : List Stretch) → has_places b f ≡ true → is_sound (fresh_area b f) ≡ true
unfolding fresh_of
fresh_keeps b f e =
    rw e (stands_kept (table_after b []) (table_after f (stretch 0 units ∷ [])) (record { blocks = 0; free = 1 })
    (took_stands b f [] (stretch 0 units ∷ []) (leb-true 31 (length b) (and_first (leb 31 (length b)) (leb 32 (length f)) e)) (leb-true 32 (length f) (and_second (leb 31 (length b)) (leb 32 (length f)) e)) (omega arith) fresh_sound))

module _ (a : Area) (e : is_sound a ≡ true) where
  stands : Stands a.blocks a.free a.used
  stands = kept_stands a.blocks a.free a.used e

  abbrev bl : List Stretch
  bl = bs a.blocks a.free a.used

  abbrev fl : List Stretch
  fl = fs a.blocks a.free a.used

  took_keeps : (v : ℕ) (cl gl : List Stretch) → length cl ≤ 31 → Sound cl gl → is_sound (after a (took v cl gl)) ≡ true
  took_keeps v cl gl h s = stands_kept (table_after a.blocks cl) (table_after a.free gl) (record { blocks = length cl; free = length gl }) (took_stands a.blocks a.free cl gl stands.block_places stands.free_places h s)

  request_keeps : (n : ℕ) → is_sound (step_of a (request n)) ≡ true
  unfolding request_of
  request_keeps n =
      by_bool (leb 1 n && leb n 65535)
      (λ e₁. by_bool (ltb a.used.blocks 31)
      (λ e₂. by_bool (fits n fl)
      (λ e₃.
      let h : a.used.blocks < 31 = ltb-true a.used.blocks 31 e₂ in
      let c : length bl ≡ a.used.blocks = count_blocks a.blocks a.free a.used stands in
      let p : length (placed (stretch (fit_start n fl) n) bl) ≡ length bl + 1 = placed_length (stretch (fit_start n fl) n) bl in
      rw (e, e₁, e₂, e₃) (took_keeps (fit_start n fl) (placed (stretch (fit_start n fl) n) bl) (cut n fl) (omega (arith, h, c, p)) (request_sound n bl fl (leb-true 1 n (and_first (leb 1 n) (leb n 65535) e₁)) e₃ stands.sound)))
      (λ e₃. rw (e, e₁, e₂, e₃) e))
      (λ e₂. rw (e, e₁, e₂) e))
      (λ e₁. rw (e, e₁) e)

  few_left : (s : ℕ) → starts_at s bl ≡ true → length (without s bl) ≤ 30
  few_left s e₁ = let c : length (without s bl) + 1 ≡ length bl = without_length s bl e₁ in let h : length bl ≤ 31 = at_most_31 a.blocks a.free a.used stands in omega (arith, c, h)

  release_keeps : (s : ℕ) → is_sound (step_of a (release s)) ≡ true
  unfolding release_of
  release_keeps s =
      by_bool (starts_at s bl)
      (λ e₁. let h : length (without s bl) ≤ 30 = few_left s e₁ in rw (e, e₁) (took_keeps (length_at s bl) (without s bl) (joined (stretch s (length_at s bl)) fl) (omega (arith, h)) (release_sound s bl fl e₁ stands.sound)))
      (λ e₁. rw (e, e₁) e)

pub step_keeps : (a : Area) (o : Op) → is_sound a ≡ true → is_sound (step_of a o) ≡ true
step_keeps a (request n) e = request_keeps a e n
step_keeps a (release s) e = release_keeps a e s

pub sound_run : (a : Area) (os : List Op) → is_sound a ≡ true → is_sound (run_of a os) ≡ true
sound_run a [] e = e
sound_run a (o ∷ os) e = sound_run (step_of a o) os (step_keeps a o e)

pub sound_good : (a : Area) (o : Op) → is_sound a ≡ true → refusal_of (outcome_of a o) ≡ BAD_STATE → ⊥
unfolding request_of release_of
sound_good a (request n) e r =
    by_bool (leb 1 n && leb n 65535)
    (λ e₁. by_bool (ltb a.used.blocks 31)
    (λ e₂. by_bool (fits n (take a.used.free a.free))
    (λ e₃. let k : ◌≡◌ {A = ℕ} 0 2 = rw (e, e₁, e₂, e₃) at r in no (omega (arith, k)))
    (λ e₃. let k : ◌≡◌ {A = ℕ} 15 2 = rw (e, e₁, e₂, e₃) at r in no (omega (arith, k))))
    (λ e₂. let k : ◌≡◌ {A = ℕ} 14 2 = rw (e, e₁, e₂) at r in no (omega (arith, k))))
    (λ e₁. let k : ◌≡◌ {A = ℕ} 13 2 = rw (e, e₁) at r in no (omega (arith, k)))
sound_good a (release s) e r =
    by_bool (starts_at s (take a.used.blocks a.blocks))
    (λ e₁. let k : ◌≡◌ {A = ℕ} 0 2 = rw (e, e₁) at r in no (omega (arith, k)))
    (λ e₁. let k : ◌≡◌ {A = ℕ} 16 2 = rw (e, e₁) at r in no (omega (arith, k)))

-- "Show that 32 stretches suffice"
pub rules_suffice : (blocks free : List Stretch) → is_kept blocks free ≡ true → length blocks ≤ 31 → length free ≤ 32
rules_suffice blocks free e h = suffice blocks free (kept_sound blocks free e) h

-- ---- no free stretch is long enough
pub none_fits : (n : ℕ) (l : List Stretch) → fits n l ≡ false → every (is_short n) l ≡ true
none_fits n [] e = refl
none_fits n (f ∷ fs) e =
    by_bool (leb n f.length)
    (λ q. absurd (true≢false (let k : true ≡ false = rw q at e in k)))
    (λ q. let k : fits n fs ≡ false = rw q at e in both (lt-ltb f.length n (leb-false n f.length q)) (none_fits n fs k))

pub fits-none : (n : ℕ) (l : List Stretch) → every (is_short n) l ≡ true → fits n l ≡ false
fits-none n [] e = refl
fits-none n (f ∷ fs) e = rw (lt-leb n f.length (ltb-true f.length n (and_first (is_short n f) (every (is_short n) fs) e))) (fits-none n fs (and_second (is_short n f) (every (is_short n) fs) e))

-- ---- "so freed room is found again"
whole_area : (ps : List Piece) → [] ≡ blocks_from 0 ps → measure ps ≡ units → Good false ps → free_from 0 ps ≡ stretch 0 units ∷ []
whole_area [] e f g = no (omega (arith, f))
whole_area (taken n ∷ ps) e f g = let k : ◌≡◌ {A = ℕ} 0 (suc (length (blocks_from (0 + n) ps))) = ap length e in no (omega (arith, k))
whole_area (spare n ∷ []) e f g = let q : n ≡ units = omega (arith, f) in ap (λ (m : ℕ). stretch 0 m ∷ []) q
whole_area (spare n ∷ taken m ∷ ps) e f g = let k : ◌≡◌ {A = ℕ} 0 (suc (length (blocks_from (0 + n + m) ps))) = ap length e in no (omega (arith, k))
whole_area (spare n ∷ spare m ∷ ps) e f g = absurd (true≢false g.2.1)

rest_length : (n : ℕ) (l : List Stretch) → length (drop n l) ≡ length l - length (take n l)
rest_length zero l = omega arith
rest_length (suc n) [] = omega arith
rest_length (suc n) (x ∷ xs) = let i : length (drop n xs) ≡ length xs - length (take n xs) = rest_length n xs in omega (arith, i)

rest_unused : (table : List Stretch) (n : ℕ) → every is_none (drop n table) ≡ true → table ≡ table_after table (take n table)
rest_unused table n u = table_is n table u ∙ ap (λ (m : ℕ). take n table ++ replicate m none) (rest_length n table)

-- with no block taken the tables are those of a fresh area
pub one_stretch : (a : Area) → is_sound a ≡ true → a.used.blocks ≡ 0 → (a.blocks ≡ table_after a.blocks []) × (a.free ≡ table_after a.free (stretch 0 units ∷ [])) × (a.used.free ≡ 1)
one_stretch a e z =
    let s : Stands a.blocks a.free a.used = stands a e in
    let t : [] ≡ blocks_from 0 s.sound.pieces = ap (λ (n : ℕ). take n a.blocks) (sym z) ∙ s.sound.are_blocks in
    let w : fl a e ≡ stretch 0 units ∷ [] = s.sound.are_free ∙ whole_area s.sound.pieces t s.sound.fill s.sound.good in
    let c : length (fl a e) ≡ a.used.free = count_free a.blocks a.free a.used s in
    let d : length (fl a e) ≡ 1 = ap length w in (
      rest_unused a.blocks 0 (subst (λ (n : ℕ). every is_none (drop n a.blocks) ≡ true) z s.unused_blocks),
      rest_unused a.free a.used.free s.unused_free ∙ ap (table_after a.free) w,
      omega (arith, c, d),
    )

module _ (a : Area) (e : is_sound a ≡ true) (b : Stretch) (ls : List Stretch) (w : take a.used.blocks a.blocks ≡ b ∷ ls) where
  first_released : outcome_of a (release b.start) ≡ took b.length ls (joined (stretch b.start b.length) (fl a e))
  unfolding release_of
  first_released =
      rw e ((λ i. when starts_at b.start (w i) then took (length_at b.start (w i)) (without b.start (w i)) (joined (stretch b.start (length_at b.start (w i))) (fl a e)) else refused 16) ∙ rw (eq-eqb b.start b.start refl) refl)

  others_left : take (step_of a (release b.start)).used.blocks (step_of a (release b.start)).blocks ≡ ls
  others_left = (λ i. take (after a (first_released i)).used.blocks (after a (first_released i)).blocks) ∙ take-append_seam ls (replicate (length a.blocks - length ls) none)

none_left : (a : Area) (l : List Stretch) → is_sound a ≡ true → take a.used.blocks a.blocks ≡ l → (run_of a (releases_all l)).used.blocks ≡ 0
none_left a [] e w = sym (count_blocks a.blocks a.free a.used (stands a e)) ∙ ap length w
none_left a (b ∷ ls) e w = none_left (step_of a (release b.start)) ls (step_keeps a (release b.start) e) (others_left a e b ls w)

-- releasing every block gives one free stretch of 65,536
pub all_released : (a z : Area) → z ≡ run_of a (releases_all (take a.used.blocks a.blocks)) → is_sound a ≡ true → (z.used.blocks ≡ 0) × (z.used.free ≡ 1) × (z.free ≡ table_after z.free (stretch 0 units ∷ []))
all_released a z t e =
    let l : List Stretch = take a.used.blocks a.blocks in
    let k : is_sound z ≡ true = ap is_sound t ∙ sound_run a (releases_all l) e in
    let n : z.used.blocks ≡ 0 = ap (λ (y : Area). y.used.blocks) t ∙ none_left a l e refl in
    let w = one_stretch z k n in
    (n, w.2, w.1)

joined_fits : (n : ℕ) (b : Stretch) (fs : List Stretch) → n ≤ b.length → fits n (joined b fs) ≡ true
joined_fits n b [] h = rw (le-leb n b.length h) refl
joined_fits n b (f ∷ fs) h =
    by_bool (eqb (end f) b.start)
    (λ p. rw p (joined_fits n (stretch f.start (f.length + b.length)) fs (omega (arith, h))))
    (λ p. by_bool (eqb (end b) f.start)
    (λ q. rw (p, q, le-leb n (b.length + f.length) (omega (arith, h))) refl)
    (λ q. by_bool (ltb b.start f.start)
    (λ t. rw (p, q, t, le-leb n b.length h) refl)
    (λ t. rw (p, q, t) (by_bool (leb n f.length) (λ u. rw u refl) (λ u. rw u (joined_fits n b fs h))))))

-- the units that a release gave back are granted to a request for as many
pub found_again : (a : Area) (s : ℕ) → is_sound a ≡ true → refusal_of (outcome_of a (release s)) ≡ 0 → value_of (outcome_of a (release s)) ≤ 65535 → refusal_of (outcome_of (step_of a (release s)) (request (value_of (outcome_of a (release s))))) ≡ 0
unfolding release_of request_of
found_again a s e r v =
    by_bool (starts_at s (bl a e))
    (λ q.
    let n : ℕ = length_at s (bl a e) in
    let cl : List Stretch = without s (bl a e) in
    let gl : List Stretch = joined (stretch s n) (fl a e) in
    let z : Area = after a (took n cl gl) in
    let k : is_sound z ≡ true = rw (e, q) at (release_keeps a e s) in
    let p : 0 < n = block_long (bl a e) (fl a e) (stands a e).sound s q in
    let u : n ≤ 65535 = rw (e, q) at v in
    let m : length cl ≤ 30 = few_left a e s q in
    let w : fits n (take (length gl) (table_after a.free gl)) ≡ true = ap (fits n) (take-append_seam gl (replicate (length a.free - length gl) none)) ∙ joined_fits n (stretch s n) (fl a e) (le_refl n) in
    rw (e, q) (rw (k, le-leb 1 n p, le-leb n 65535 u, lt-ltb (length cl) 31 (omega (arith, m)), w) refl))
    (λ q. let k : ◌≡◌ {A = ℕ} 16 0 = rw (e, q) at r in no (omega (arith, k)))
