-- A block that is given back at its place of a padded table is joined as the rules say.
-- Assumes nothing.
use Rattle.std.proofs.Common.{◌≡◌, ℕ, zero, suc, ◌+◌, ◌-◌, ◌%◌, ◌<◌, ◌≤◌, Bool, true, false, ◌&&◌, eqb, ltb, ◌⊎◌, List, [], ◌∷◌, length, get_or, sym, refl, ap, ◌∙◌, subst, le_of_suc-le-suc, not-suc-le-zero, arith, ltb-false, ltb-true, lt-ltb, eq-eqb, ne_eqb, eqb-true}
use Rattle.workspace.specs.declared.Stretch.{Stretch}
use Rattle.lists.specs.Lists.{bit}
use Rattle.workspace.specs.Rules.{units, stretch, none, end}
use Rattle.workspace.specs.Operations.{joined}
use Rattle.workspace.specs.Places.{place_of, is_behind, insert_at}
use Rattle.workspace.specs.Steps.{touches_low, touches_high, whole_as, give, give_back, count_back}
use Rattle.lists.proofs.Tests.{ways, no}
use Rattle.lists.proofs.ListLaws.{by_bool}
use Rattle.workspace.proofs.Words.{Chain}
use Rattle.workspace.proofs.Padded.{pad, push, pad_snoc}

-- b and the stretch f do not overlap
abbrev pub Clear : Stretch → List Stretch → Type 0
Clear b [] = Unit {0}
Clear b (f ∷ fs) = ((end b ≤ f.start) ⊎ (end f ≤ b.start)) × Clear b fs

-- what is given back at place k of the table of K places that begins with fs
record Gives (b : Stretch) (K k : ℕ) (fs : List Stretch) : Type 0 where
  low : Bool
  high : Bool
  is_low : touches_low b k (pad K fs) ≡ low
  is_high : touches_high b k (pad K fs) ≡ high
  gives : give low high (k - 1) k (whole_as low high (get_or (pad K fs) (k - 1) none) (get_or (pad K fs) k none) b) (pad K fs) ≡ pad K (joined b fs)
  counts : length (joined b fs) + bit low + bit high ≡ length fs + 1

pad_first : (K : ℕ) → get_or (pad K []) 0 none ≡ none
pad_first zero = refl
pad_first (suc K) = refl

-- nothing is free
alone : (b : Stretch) (K : ℕ) → 0 < b.length → end b ≤ units → 1 ≤ K → Gives b K 0 []
alone b K l h k = record {
  low = false;
  high = false;
  is_low = refl;
  is_high = ap (λ (s : Stretch). eqb (end b) s.start) (pad_first K) ∙ ne_eqb (end b) 0 (λ e. no (omega (arith, e, l)));
  gives = ap (λ (n : ℕ). insert_at 0 (stretch b.start n) (pad K [])) (let q : ((0 + b.length) % 4294967296 + 0) % 4294967296 ≡ b.length = omega (arith, h) in q) ∙ push K b [] k;
  counts = omega arith;
}

-- b lies before all that is free
in_front : (b f : Stretch) (K : ℕ) (fs : List Stretch) → 0 < b.length → b.start < f.start → end b ≤ f.start → 0 < f.length → end f ≤ units → length (f ∷ fs) ≤ suc K → length (joined b (f ∷ fs)) ≤ suc K → Gives b (suc K) 0 (f ∷ fs)
in_front b f K fs l lt h lf hf n j =
    let p : eqb (end f) b.start ≡ false = ne_eqb (end f) b.start (λ e. no (omega (arith, e, lt))) in
    by_bool (eqb (end b) f.start)
    (λ q.
    let e : end b ≡ f.start = eqb-true (end b) f.start q in
    record {
      low = false;
      high = true;
      is_low = refl;
      is_high = q;
      gives = rw (p, q) ((λ i. insert_at 0 (stretch b.start (let z : ((0 + b.length) % 4294967296 + f.length) % 4294967296 ≡ b.length + f.length = omega (arith, e, hf) in z i)) (pad_snoc K fs (le_of_suc-le-suc n) i)) ∙ push (suc K) (stretch b.start (b.length + f.length)) fs n);
      counts = rw (p, q) (omega arith);
    })
    (λ q.
    let t : ltb b.start f.start ≡ true = lt-ltb b.start f.start lt in
    let m : length (b ∷ f ∷ fs) ≤ suc K = rw (p, q, t) at j in
    record {
      low = false;
      high = false;
      is_low = refl;
      is_high = q;
      gives = rw (p, q, t) (ap (λ (n : ℕ). insert_at 0 (stretch b.start n) (f ∷ pad K fs)) (let z : ((0 + b.length) % 4294967296 + 0) % 4294967296 ≡ b.length = omega (arith, h, hf) in z) ∙ push (suc K) b (f ∷ fs) m);
      counts = rw (p, q, t) (omega arith);
    })

-- b lies right behind f
next_to : (b f : Stretch) (K : ℕ) (fs : List Stretch) → 0 < b.length → end f ≡ b.start → 0 < f.length → end b ≤ units → Chain 1 (end f + 1) fs → Clear b fs → length (f ∷ fs) ≤ suc K → Gives b (suc K) 1 (f ∷ fs)
next_to b f K [] l e lf h c d n =
    let p : eqb (end f) b.start ≡ true = eq-eqb (end f) b.start e in
    record {
      low = true;
      high = false;
      is_low = p;
      is_high = ap (λ (s : Stretch). eqb (end b) s.start) (pad_first K) ∙ ne_eqb (end b) 0 (λ q. no (omega (arith, q, l)));
      gives = rw p (λ i. stretch f.start (let z : ((f.length + b.length) % 4294967296 + 0) % 4294967296 ≡ f.length + b.length = omega (arith, e, h) in z i) ∷ pad K []);
      counts = rw p (omega arith);
    }
next_to b f zero (g ∷ gs) l e lf h c d n = no (omega (arith, n))
next_to b f (suc K) (g ∷ gs) l e lf h c d n =
    let p : eqb (end f) b.start ≡ true = eq-eqb (end f) b.start e in
    let s : end f + 1 ≤ g.start = c.0 in
    let r : eqb (end g) f.start ≡ false = ne_eqb (end g) f.start (λ q. no (omega (arith, q, s))) in
    let o : f.start + (f.length + b.length) ≡ end b = omega (arith, e) in
    by_bool (eqb (end b) g.start)
    (λ q.
    let t : eqb (f.start + (f.length + b.length)) g.start ≡ true = ap (λ (n : ℕ). eqb n g.start) o ∙ q in
    let u : end b ≡ g.start = eqb-true (end b) g.start q in
    let v : end g ≤ units = c.2 in
    record {
      low = true;
      high = true;
      is_low = p;
      is_high = q;
      gives = rw (p, r, t) (λ i. stretch f.start (let z : ((f.length + b.length) % 4294967296 + g.length) % 4294967296 ≡ f.length + b.length + g.length = omega (arith, e, u, v) in z i) ∷ pad_snoc K gs (le_of_suc-le-suc (le_of_suc-le-suc n)) i);
      counts = rw (p, r, t) (omega arith);
    })
    (λ q.
    let t : eqb (f.start + (f.length + b.length)) g.start ≡ false = ap (λ (n : ℕ). eqb n g.start) o ∙ q in
    let w : ltb f.start g.start ≡ true = lt-ltb f.start g.start (omega (arith, s)) in
    record {
      low = true;
      high = false;
      is_low = p;
      is_high = q;
      gives = rw (p, r, t, w) (λ i. stretch f.start (let z : ((f.length + b.length) % 4294967296 + 0) % 4294967296 ≡ f.length + b.length = omega (arith, e, h) in z i) ∷ g ∷ pad K gs);
      counts = rw (p, r, t, w) (omega arith);
    })

-- ---- one place further on
give_shift : (low high : Bool) (j k : ℕ) (w f : Stretch) (l : List Stretch) → give low high (suc j) (suc k) w (f ∷ l) ≡ f ∷ give low high j k w l
give_shift true true j k w f l = refl
give_shift true false j k w f l = refl
give_shift false true j k w f l = refl
give_shift false false j k w f l = refl

give_front : (high : Bool) (i j k : ℕ) (x z y b f : Stretch) (l : List Stretch) → give false high i (suc k) (whole_as false high x y b) (f ∷ l) ≡ f ∷ give false high j k (whole_as false high z y b) l
give_front true i j k x z y b f l = refl
give_front false i j k x z y b f l = refl

one_on : (b f : Stretch) (K k : ℕ) (fs : List Stretch) → joined b (f ∷ fs) ≡ f ∷ joined b fs → eqb (end f) b.start ≡ false → Gives b K k fs → Gives b (suc K) (suc k) (f ∷ fs)
one_on b f K zero fs q p g =
    let e : g.low ≡ false = sym g.is_low in
    let c : length (joined b fs) + bit g.low + bit g.high ≡ length fs + 1 = g.counts in
    record {
      low = false;
      high = g.high;
      is_low = p;
      is_high = g.is_high;
      gives = give_front g.high (1 - 1) (0 - 1) 0 f (get_or (pad K fs) (0 - 1) none) (get_or (pad K fs) 0 none) b f (pad K fs)
          ∙ ap (λ (l : List Stretch). f ∷ l) ((λ i. give (sym e i) g.high (0 - 1) 0 (whole_as (sym e i) g.high (get_or (pad K fs) (0 - 1) none) (get_or (pad K fs) 0 none) b) (pad K fs)) ∙ g.gives) ∙ sym (ap (λ (l : List Stretch). pad (suc K) l) q);
      counts = let z : length (joined b (f ∷ fs)) ≡ suc (length (joined b fs)) = ap length q in let y : bit g.low ≡ 0 = ap bit e in omega (arith, c, z, y);
    }
one_on b f K (suc j) fs q p g =
    let e₁ : suc (suc j) - 1 ≡ suc j = omega arith in
    let e₀ : j ≡ suc j - 1 = omega arith in
    let c : length (joined b fs) + bit g.low + bit g.high ≡ length fs + 1 = g.counts in
    record {
      low = g.low;
      high = g.high;
      is_low = (λ i. ltb 0 (suc (suc j)) && eqb (end (get_or (f ∷ pad K fs) (e₁ i) none)) b.start) ∙ ap (λ (t : Bool). t && eqb (end (get_or (pad K fs) j none)) b.start) (lt-ltb 0 (suc (suc j)) (omega arith) ∙ sym (lt-ltb 0 (suc j) (omega arith))) ∙ (λ i. ltb 0 (suc j) && eqb (end (get_or (pad K fs) (e₀ i) none)) b.start) ∙ g.is_low;
      is_high = g.is_high;
      gives = (λ i. give g.low g.high (e₁ i) (suc (suc j)) (whole_as g.low g.high (get_or (f ∷ pad K fs) (e₁ i) none) (get_or (pad K fs) (suc j) none) b) (f ∷ pad K fs))
          ∙ give_shift g.low g.high j (suc j) (whole_as g.low g.high (get_or (pad K fs) j none) (get_or (pad K fs) (suc j) none) b) f (pad K fs)
          ∙ ap (λ (l : List Stretch). f ∷ l) ((λ i. give g.low g.high (e₀ i) (suc j) (whole_as g.low g.high (get_or (pad K fs) (e₀ i) none) (get_or (pad K fs) (suc j) none) b) (pad K fs)) ∙ g.gives) ∙ sym (ap (λ (l : List Stretch). pad (suc K) l) q);
      counts = let z : length (joined b (f ∷ fs)) ≡ suc (length (joined b fs)) = ap length q in omega (arith, c, z);
    }

-- all that is free from a on starts behind b
place_zero : (b : Stretch) (a : ℕ) (fs : List Stretch) → b.start < a → Chain 1 a fs → place_of (is_behind b.start) fs ≡ 0
place_zero b a [] h c = refl
place_zero b a (f ∷ fs) h c = let p : a ≤ f.start = c.0 in rw (lt-ltb b.start f.start (omega (arith, h, p))) refl

gives_back : (b : Stretch) (K a : ℕ) (fs : List Stretch) → 0 < b.length → end b ≤ units → Chain 1 a fs → Clear b fs → length fs ≤ K → length (joined b fs) ≤ K → Gives b K (place_of (is_behind b.start) fs) fs
gives_back b K a [] l h c d n j = alone b K l h j
gives_back b zero a (f ∷ fs) l h c d n j = absurd (not-suc-le-zero n)
gives_back b (suc K) a (f ∷ fs) l h c d n j =
    let lf : 0 < f.length = c.1 in
    by_bool (ltb b.start f.start)
    (λ p.
    let lt : b.start < f.start = ltb-true b.start f.start p in
    let k : place_of (is_behind b.start) (f ∷ fs) ≡ 0 = rw p refl in
    let e : end b ≤ f.start = ways d.0 (λ q. q) (λ q. no (omega (arith, q, lt))) in
    subst (λ (k : ℕ). Gives b (suc K) k (f ∷ fs)) (sym k) (in_front b f K fs l lt e lf c.2 n j))
    (λ p.
    let le : f.start ≤ b.start = ltb-false b.start f.start p in
    let k : place_of (is_behind b.start) (f ∷ fs) ≡ suc (place_of (is_behind b.start) fs) = rw p refl in
    let e : end f ≤ b.start = ways d.0 (λ q. no (omega (arith, q, l, le))) (λ q. q) in
    by_bool (eqb (end f) b.start)
    (λ q.
    let t : end f ≡ b.start = eqb-true (end f) b.start q in
    let z : place_of (is_behind b.start) fs ≡ 0 = place_zero b (end f + 1) fs (omega (arith, t)) c.3 in
    subst (λ (k : ℕ). Gives b (suc K) k (f ∷ fs)) (sym (k ∙ ap suc z)) (next_to b f K fs l t lf h c.3 d.1 n))
    (λ q.
    let r : joined b (f ∷ fs) ≡ f ∷ joined b fs = rw (q, ne_eqb (end b) f.start (λ t. no (omega (arith, t, l, le))), p) refl in
    let m : length (f ∷ joined b fs) ≤ suc K = subst (λ (u : List Stretch). length u ≤ suc K) r j in
    subst (λ (k : ℕ). Gives b (suc K) k (f ∷ fs)) (sym k) (one_on b f K (place_of (is_behind b.start) fs) fs r q (gives_back b K (end f + 1) fs l h c.3 d.1 (le_of_suc-le-suc n) (le_of_suc-le-suc m)))))

-- ---- what the code does
module _ (b : Stretch) (a : ℕ) (fs : List Stretch) (l : 0 < b.length) (h : end b ≤ units) (c : Chain 1 a fs) (d : Clear b fs) (n : length fs ≤ 32) (j : length (joined b fs) ≤ 32) where
  abbrev k : ℕ
  k = place_of (is_behind b.start) fs

  g : Gives b 32 k fs
  g = gives_back b 32 a fs l h c d n j

  pub pad_joined : give_back b k (pad 32 fs) ≡ pad 32 (joined b fs)
  unfolding give_back
  pad_joined = (λ i. give (g.is_low i) (g.is_high i) (k - 1) k (whole_as (g.is_low i) (g.is_high i) (get_or (pad 32 fs) (k - 1) none) (get_or (pad 32 fs) k none) b) (pad 32 fs)) ∙ g.gives

  pub count_joined : count_back b k (length fs) (pad 32 fs) ≡ length (joined b fs)
  unfolding count_back
  count_joined = let e : length (joined b fs) + bit g.low + bit g.high ≡ length fs + 1 = g.counts in (λ i. length fs + 1 - bit (g.is_low i) - bit (g.is_high i)) ∙ omega (arith, e)
