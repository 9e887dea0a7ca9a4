-- What is done to the tables that are seen is what the rules say of the lent tables, in the words of the contracts.
-- Assumes nothing.
use Rattle.std.proofs.Common.{◌≡◌, ℕ, ◌+◌, ◌-◌, ◌%◌, ◌<◌, ◌≤◌, true, ◌&&◌, ltb, leb, List, [], ◌∷◌, ◌++◌, length, get_or, take, drop, set, replicate, sym, refl, ap, ◌∙◌, subst, le_trans, arith, ltb-true, le-ltb, lt-ltb, leb-true}
use Rattle.workspace.specs.declared.Stretch.{Stretch}
use Rattle.workspace.specs.declared.Used.{Used}
use Rattle.workspace.specs.declared.Look.{Look}
use Rattle.workspace.specs.declared.Done.{Done}
use Rattle.lists.specs.Lists.{when◌then◌else◌, bit}
use Rattle.workspace.specs.Rules.{units, stretch, none, end, has_places, rules_kept}
use Rattle.workspace.specs.Operations.{placed, fits, fit_start, cut, starts_at, length_at, without, joined, Outcome, refused, took, fresh_of, request_of, release_of, blocks_after, free_after, answer_of, unused}
use Rattle.workspace.specs.Places.{place_of, has_start, is_behind, has_units, remove_at, insert_at}
use Rattle.workspace.specs.Seen.{table_of, laid, look_of}
use Rattle.workspace.specs.Steps.{keeps_seen, refused_as, done_as, fresh_seen, request_refusal, cut_at, grant_seen, request_seen, block_at, give_back, count_back, free_seen, release_seen}
use Rattle.lists.proofs.Tests.{and_first, and_second}
use Rattle.lists.proofs.ListLaws.{by_bool}
use Rattle.workspace.proofs.Pieces.{suffice}
use Rattle.workspace.proofs.Taking.{request_sound}
use Rattle.workspace.proofs.Giving.{release_sound}
use Rattle.workspace.proofs.Padded.{pad, pad_placed, pad_cut, fit_start_lem, fit_there, fit_nowhere, find_in, find_out, get_d_pad, take_pad, table_is, cut_length, placed_length, starts_there, starts_nowhere, block_is, pad_without, without_length}
use Rattle.workspace.proofs.Found.{found_long, free_inside, free_apart, block as given_back, block_long, block_inside, block_clear}
use Rattle.workspace.proofs.Joining.{pad_joined, count_joined}
use Rattle.workspace.proofs.SeenLaws.{laid_own, laid_list}
use Rattle.workspace.proofs.Standing.{Stands, bs, fs, kept_stands, count_blocks, count_free, at_most_31, at_most_32, blocks_seen, free_seen_lem, keeps_same}

-- what is done to two tables is the outcome
pub record Says (d : Done) (blocks free : List Stretch) (used : Used) (o : Outcome) : Type 0 where
  pub answers : d.answer ≡ answer_of used o
  pub writes : laid d.blocks blocks ≡ blocks_after blocks o
  pub frees : laid d.free free ≡ free_after free o

-- a refusal changes nothing
says_refused : (b f : List Stretch) (n : ℕ) (u : Used) (k : ℕ) → Says (refused_as (look_of b f n) u k) b f u (refused k)
unfolding look_of
says_refused b f n u k = record { answers = refl; writes = laid_own b; frees = laid_own f }

-- a step that is made leaves two lists
says_took : (b f : List Stretch) (u : Used) (v : ℕ) (bl fl : List Stretch) → length bl ≤ 31 → length fl ≤ 32 → 31 ≤ length b → 32 ≤ length f → Says (done_as (pad 32 bl) (pad 32 fl) v (length bl) (length fl)) b f u (took v bl fl)
says_took b f u v bl fl hb hf pb pf = record { answers = refl; writes = laid_list bl b (omega (arith, hb)) (omega (arith, hb, pb)); frees = laid_list fl f hf (omega (arith, hf, pf)) }

-- ---- a fresh area
pub fresh_says : (b f : List Stretch) → Says (fresh_seen (look_of b f 0)) b f unused (fresh_of b f)
unfolding fresh_seen fresh_of look_of table_of
fresh_says b f =
    by_bool (has_places b f)
    (λ e. rw e (says_took b f unused 0 [] (stretch 0 units ∷ []) (omega arith) (omega arith) (leb-true 31 (length b) (and_first (leb 31 (length b)) (leb 32 (length f)) e)) (leb-true 32 (length f) (and_second (leb 31 (length b)) (leb 32 (length f)) e))))
    (λ e. rw e (says_refused b f 0 unused 2))

-- ---- tables that keep the rules
module _ (b f : List Stretch) (u : Used) (s : Stands b f u) where
  abbrev bl : List Stretch
  bl = bs b f u

  abbrev fl : List Stretch
  fl = fs b f u

  blocks_used : take u.blocks (table_of b).places ≡ bl
  blocks_used =
      let h : length bl ≤ 31 = at_most_31 b f u s in
      (λ i. take (sym (count_blocks b f u s) i) (blocks_seen b f u s i)) ∙ take_pad 32 bl (omega (arith, h))

  free_used : take u.free (table_of f).places ≡ fl
  free_used = (λ i. take (sym (count_free b f u s) i) (free_seen_lem b f u s i)) ∙ take_pad 32 fl (at_most_32 b f u s)

  -- the search over the lent table finds a used place exactly where some free stretch is long enough
  place_fits : (n : ℕ) → ltb (place_of (has_units n) f) u.free ≡ fits n fl
  place_fits n =
      let t : f ≡ fl ++ replicate (length (drop u.free f)) none = table_is u.free f s.unused_free in
      let c : length fl ≡ u.free = count_free b f u s in
      by_bool (fits n fl)
      (λ e.
      let p : place_of (has_units n) f ≡ place_of (has_units n) fl = ap (place_of (has_units n)) t ∙ find_in (has_units n) fl (replicate (length (drop u.free f)) none) (fit_there n fl e) in
      let h : place_of (has_units n) fl < length fl = fit_there n fl e in
      lt-ltb (place_of (has_units n) f) u.free (omega (arith, p, h, c)) ∙ sym e)
      (λ e.
      let h : length fl ≤ place_of (has_units n) f = subst (λ (l : List Stretch). length fl ≤ place_of (has_units n) l) (sym t) (find_out (has_units n) fl (replicate (length (drop u.free f)) none) (fit_nowhere n fl e)) in
      le-ltb (place_of (has_units n) f) u.free (omega (arith, h, c)) ∙ sym e)

  place_there_fits : (n : ℕ) → ltb (look_of b f n).place u.free ≡ fits n fl
  unfolding look_of
  place_there_fits n = place_fits n

  -- ---- a request that is granted
  module _ (n : ℕ) (room : u.blocks < 31) (e : fits n fl ≡ true) where
    abbrev v : ℕ
    v = fit_start n fl

    -- the place found, and the stretch there
    abbrev p : ℕ
    p = place_of (has_units n) fl

    abbrev x : Stretch
    x = get_or fl p none

    found : place_of (has_units n) f ≡ p
    found = ap (place_of (has_units n)) (table_is u.free f s.unused_free) ∙ find_in (has_units n) fl (replicate (length (drop u.free f)) none) (fit_there n fl e)

    there : get_or (table_of f).places (place_of (has_units n) f) none ≡ x
    there = (λ i. get_or (free_seen_lem b f u s i) (found i) none) ∙ get_d_pad 32 p fl (fit_there n fl e) (at_most_32 b f u s)

    abbrev block : Stretch
    block = stretch v n

    blocks_then : insert_at (place_of (is_behind (get_or (table_of f).places (place_of (has_units n) f) none).start) (take u.blocks (table_of b).places)) (stretch (get_or (table_of f).places (place_of (has_units n) f) none).start n) (table_of b).places ≡ pad 32 (placed block bl)
    blocks_then =
        let h : length bl ≤ 31 = at_most_31 b f u s in
        (λ i. insert_at (place_of (is_behind (there i).start) (blocks_used i)) (stretch (there i).start n) (blocks_seen b f u s i))
        ∙ (λ i. insert_at (place_of (is_behind (fit_start_lem n fl e i)) bl) (stretch (fit_start_lem n fl e i) n) (pad 32 bl)) ∙ pad_placed 32 block bl (omega (arith, h))

    sum_fits : (x.start + n) % 4294967296 ≡ x.start + n
    sum_fits =
        let h : end x ≤ units = free_inside bl fl s.sound p (fit_there n fl e) in
        let k : n ≤ x.length = found_long n fl e in
        omega (arith, h, k)

    free_then : cut_at (place_of (has_units n) f) n (table_of f).places ≡ pad 32 (cut n fl)
    free_then =
        (λ i. when ltb n (there i).length then set (free_seen_lem b f u s i) (found i) (stretch (((there i).start + n) % 4294967296) ((there i).length - n)) else remove_at (found i) (free_seen_lem b f u s i))
        ∙ ap (λ (a : ℕ). when ltb n x.length then set (pad 32 fl) p (stretch a (x.length - n)) else remove_at p (pad 32 fl)) sum_fits ∙ pad_cut 32 n fl (at_most_32 b f u s) e

    blocks_count : u.blocks + 1 ≡ length (placed block bl)
    blocks_count = let c : length bl ≡ u.blocks = count_blocks b f u s in let k : length (placed block bl) ≡ length bl + 1 = placed_length block bl in omega (arith, c, k)

    free_count : u.free - bit (leb (get_or (table_of f).places (place_of (has_units n) f) none).length n) ≡ length (cut n fl)
    free_count = (λ i. sym (count_free b f u s) i - bit (leb (there i).length n)) ∙ cut_length n fl e

    grant_is : grant_seen (look_of b f n) u n ≡ done_as (pad 32 (placed block bl)) (pad 32 (cut n fl)) v (length (placed block bl)) (length (cut n fl))
    unfolding grant_seen look_of
    grant_is = λ i. done_as (blocks_then i) (free_then i) ((ap (λ (y : Stretch). y.start) there ∙ fit_start_lem n fl e) i) (blocks_count i) (free_count i)

    request_took : 0 < n → Says (grant_seen (look_of b f n) u n) b f u (took v (placed block bl) (cut n fl))
    request_took h =
        let k : length (placed block bl) ≡ length bl + 1 = placed_length block bl in
        let c : length bl ≡ u.blocks = count_blocks b f u s in
        let m : length (placed block bl) ≤ 31 = omega (arith, k, c, room) in
        subst (λ (d : Done). Says d b f u (took v (placed block bl) (cut n fl))) (sym grant_is) (says_took b f u v (placed block bl) (cut n fl) m (suffice (placed block bl) (cut n fl) (request_sound n bl fl h e s.sound) m) s.block_places s.free_places)

  -- ---- a release that is granted
  module _ (a : ℕ) (e : starts_at a bl ≡ true) where
    abbrev y : Stretch
    y = given_back bl fl s.sound a e

    abbrev q : ℕ
    q = place_of (has_start a) bl

    block_found : block_at (look_of b f 0) u a ≡ q
    unfolding look_of
    block_found = ap (place_of (has_start a)) blocks_used

    block_there : get_or (table_of b).places (block_at (look_of b f 0) u a) none ≡ y
    block_there = (λ i. get_or (blocks_seen b f u s i) (block_found i) none) ∙ get_d_pad 32 q bl (starts_there a bl e) (le_trans (at_most_31 b f u s) (let h : 31 ≤ 32 = omega arith in h)) ∙ block_is a bl e

    place_there : place_of (is_behind (get_or (table_of b).places (block_at (look_of b f 0) u a) none).start) (take u.free (table_of f).places) ≡ place_of (is_behind a) fl
    place_there = λ i. place_of (is_behind (block_there i).start) (free_used i)

    few_joined : length (joined y fl) ≤ 32
    few_joined =
        let c : length (without a bl) + 1 ≡ length bl = without_length a bl e in
        let h : length bl ≤ 31 = at_most_31 b f u s in
        suffice (without a bl) (joined y fl) (release_sound a bl fl e s.sound) (omega (arith, c, h))

    few_left : length (without a bl) ≤ 31
    few_left = let c : length (without a bl) + 1 ≡ length bl = without_length a bl e in let h : length bl ≤ 31 = at_most_31 b f u s in omega (arith, c, h)

    free_is : free_seen (look_of b f 0) u (block_at (look_of b f 0) u a) ≡ done_as (pad 32 (without a bl)) (pad 32 (joined y fl)) (length_at a bl) (length (without a bl)) (length (joined y fl))
    unfolding free_seen look_of
    free_is =
        let long = block_long bl fl s.sound a e in
        let inside = block_inside bl fl s.sound a e in
        let apart = free_apart bl fl s.sound in
        let clear = block_clear bl fl s.sound a e in
        let few = at_most_32 b f u s in
        let c₁ : length (without a bl) + 1 ≡ length bl = without_length a bl e in
        let c₂ : length bl ≡ u.blocks = count_blocks b f u s in
        let c : u.blocks - 1 ≡ length (without a bl) = omega (arith, c₁, c₂) in
        (λ i. done_as (remove_at (block_found i) (blocks_seen b f u s i)) (give_back (block_there i) (place_there i) (free_seen_lem b f u s i)) (block_there i).length (c i) (count_back (block_there i) (place_there i) (sym (count_free b f u s) i) (free_seen_lem b f u s i)))
        ∙ (λ i. done_as (pad_without 32 a bl (let h : length bl ≤ 32 = le_trans (at_most_31 b f u s) (let k : 31 ≤ 32 = omega arith in k) in h) e i) (pad_joined y 0 fl long inside apart clear few few_joined i) (length_at a bl) (length (without a bl)) (count_joined y 0 fl long inside apart clear few few_joined i))

    release_took : Says (free_seen (look_of b f 0) u (block_at (look_of b f 0) u a)) b f u (took (length_at a bl) (without a bl) (joined y fl))
    release_took = subst (λ (d : Done). Says d b f u (took (length_at a bl) (without a bl) (joined y fl))) (sym free_is) (says_took b f u (length_at a bl) (without a bl) (joined y fl) few_left few_joined s.block_places s.free_places)

  -- the block is found in a used place exactly where one starts there
  block_starts : (a : ℕ) → ltb (block_at (look_of b f 0) u a) u.blocks ≡ starts_at a bl
  unfolding look_of
  block_starts a =
      let w : place_of (has_start a) (take u.blocks (table_of b).places) ≡ place_of (has_start a) bl = ap (place_of (has_start a)) blocks_used in
      let c : length bl ≡ u.blocks = count_blocks b f u s in
      by_bool (starts_at a bl)
      (λ e. let h : place_of (has_start a) bl < length bl = starts_there a bl e in lt-ltb (place_of (has_start a) (take u.blocks (table_of b).places)) u.blocks (omega (arith, w, h, c)) ∙ sym e)
      (λ e. let h : length bl ≤ place_of (has_start a) bl = starts_nowhere a bl e in le-ltb (place_of (has_start a) (take u.blocks (table_of b).places)) u.blocks (omega (arith, w, h, c)) ∙ sym e)

-- ---- in the order of the refusals
pub request_says : (b f : List Stretch) (u : Used) (n : ℕ) → Says (request_seen (look_of b f n) u n) b f u (request_of b f u n)
unfolding request_seen request_refusal request_of
request_says b f u n =
    let m : keeps_seen (look_of b f n) u ≡ rules_kept b f u = keeps_same b f u n in
    by_bool (rules_kept b f u)
    (λ e.
    let s : Stands b f u = kept_stands b f u e in
    let t : ltb (look_of b f n).place u.free ≡ fits n (fs b f u) = place_there_fits b f u s n in
    by_bool (leb 1 n && leb n 65535)
    (λ e₁. by_bool (ltb u.blocks 31)
    (λ e₂. by_bool (fits n (fs b f u))
    (λ e₃. rw (m ∙ e, e, e₁, e₂, t ∙ e₃, e₃) (request_took b f u s n (ltb-true u.blocks 31 e₂) e₃ (leb-true 1 n (and_first (leb 1 n) (leb n 65535) e₁))))
    (λ e₃. rw (m ∙ e, e, e₁, e₂, t ∙ e₃, e₃) (says_refused b f n u 15)))
    (λ e₂. rw (m ∙ e, e, e₁, e₂) (says_refused b f n u 14)))
    (λ e₁. rw (m ∙ e, e, e₁) (says_refused b f n u 13)))
    (λ e. rw (m ∙ e, e) (says_refused b f n u 2))

pub release_says : (b f : List Stretch) (u : Used) (a : ℕ) → Says (release_seen (look_of b f 0) u a) b f u (release_of b f u a)
unfolding release_seen release_of
release_says b f u a =
    let m : keeps_seen (look_of b f 0) u ≡ rules_kept b f u = keeps_same b f u 0 in
    by_bool (rules_kept b f u)
    (λ e.
    let s : Stands b f u = kept_stands b f u e in
    let t : ltb (block_at (look_of b f 0) u a) u.blocks ≡ starts_at a (bs b f u) = block_starts b f u s a in
    by_bool (starts_at a (bs b f u))
    (λ e₁. rw (m ∙ e, e, t ∙ e₁, e₁) (release_took b f u s a e₁))
    (λ e₁. rw (m ∙ e, e, t ∙ e₁, e₁) (says_refused b f 0 u 16)))
    (λ e. rw (m ∙ e, e) (says_refused b f 0 u 2))

-- ---- lent tables, where F is done to what is seen of them, and written to both: the answer and the tables are what the outcome says
pub lent_is : (b f : List Stretch) (n : ℕ) (F : Look → Done) {u : Used} {o : Outcome} {s : Look} {d : Done} {b' f' : List Stretch} → Says (F (look_of b f n)) b f u o → s ≡ look_of b f n → d ≡ F s → b' ≡ laid d.blocks b → f' ≡ laid d.free f
    → (d.answer ≡ answer_of u o) × (b' ≡ blocks_after b o) × (f' ≡ free_after f o)
lent_is b f n F {u = u} {o = o} {d = d} says sees done eb ef =
    let w : Says d b f u o = subst (λ (z : Done). Says z b f u o) (sym (done ∙ ap F sees)) says in
    (w.answers, eb ∙ w.writes, ef ∙ w.frees)
