-- The second engine's bytes: its rows one behind the other, and what is put is read back, whatever bytes follow. Assumes nothing.
use Prim.Native.Nat.{ℕ, zero, suc, ◌+◌, ◌-◌, ◌*◌, ◌<◌, ◌≤◌}
use mathlib.Core.Path.{◌≡◌, refl, sym, ap, ◌∙◌}
use mathlib.Core.Bool.{false}
use mathlib.Core.List.{List, [], ◌∷◌, ◌++◌, append_assoc}
use native.Mathlib.Omega.{arith}
use borrow.Author.Tests.{lt-ltb, le-ltb, ltb-true}
use lib.Dec.{ltb}
use lib.ListN.{length, replicate, get_or, take, drop, take-append-drop, length-append, length-take, drop_of_length-le}
use lib.Seq.{take_at, drop_at, drop-drop}
use Rattle.lists.proofs.ListLaws.{by_bool}
use Rattle.lists.proofs.Tests.{if-true, if-false}
use Rattle.rules.specs.Second.{sound_second}
use Rattle.rules.specs.declared.Core.{Core}
use Rattle.rules.specs.declared.Row.{Row}
use Rattle.rules.specs.declared.Second.{Second}
use Rattle.rules.specs.declared.Supervisor.{Supervisor}
use Rattle.codec.specs.Layout.{state_size, encode, is_encoding, decode, lost, state_in, put_at, stored}
use Rattle.codec.specs.Rows.{rows_at, row_place, second_size, core_bytes, rows_bytes, encode_second, rows_in, core_from, as_first, lost_second, second_in, put_rows, stored_second}
use Rattle.codec.proofs.CodecLaws.{tasks_long}
use Rattle.codec.proofs.Kept.{Sized, kept}

-- ── the rows are read ──

-- the next row
rows_turn : (n k : ℕ) (b : List ℕ) → rows_in (suc n) (drop k b) ≡ record { line = take 31 (drop k b) } ∷ rows_in n (drop (k + 31) b)
unfolding rows_in
rows_turn n k b = rw (drop-drop 31 k b)

no_line : Row
no_line = record { line = [] }

-- rows of which each is the one of its bytes are those of all
rows_each_from : (b : List ℕ) (n k : ℕ) (rows : List Row) → length rows ≡ n → ((i : ℕ) → i < n → get_or rows i no_line ≡ record { line = take 31 (drop (k + i * 31) b) }) → rows ≡ rows_in n (drop k b)
unfolding rows_in
rows_each_from b zero k [] e h = refl
rows_each_from b (suc n) k [] e h = absurd (omega arith)
rows_each_from b zero k (r ∷ rs) e h = absurd (omega arith)
rows_each_from b (suc n) k (r ∷ rs) e h =
    let at : (m m' : ℕ) → m ≡ m' → ◌≡◌ {A = Row} (record { line = take 31 (drop m b) }) (record { line = take 31 (drop m' b) }) = λ m m' q i. record { line = take 31 (drop (q i) b) } in
    let first : r ≡ record { line = take 31 (drop k b) } = h 0 (omega arith) ∙ at (k + 0 * 31) k (omega arith) in
    let rest : rs ≡ rows_in n (drop (k + 31) b) = rows_each_from b n (k + 31) rs (omega arith) (λ i l. h (suc i) (omega arith) ∙ at (k + suc i * 31) (k + 31 + i * 31) (omega arith)) in
    (λ i. first i ∷ rest i) ∙ sym (rows_turn n k b)

pub rows_each : (b : List ℕ) (rows : List Row) → length rows ≡ 31 → ((i : ℕ) (d : Row) → i < 31 → get_or rows i d ≡ record { line = take 31 (drop (row_place i) b) }) → rows ≡ rows_in 31 (drop rows_at b)
rows_each b rows e h = rows_each_from b 31 rows_at rows e (λ i l. h i no_line l)

pub second_short : (b : List ℕ) → length b < second_size → lost_second ≡ second_in b
unfolding second_in
second_short b h = sym (if-true _ _ _ (lt-ltb (length b) second_size h))

pub second_long : (b : List ℕ) (k : Core) (rows : List Row) → second_size ≤ length b → k ≡ core_from (state_in b) → rows ≡ rows_in 31 (drop rows_at b) → record { core = k; rows = rows } ≡ second_in b
unfolding second_in
second_long b k rows h e q = (λ i. record { core = e i; rows = q i }) ∙ sym (if-false _ _ _ (le-ltb (length b) second_size h))

-- ── and put ──

-- the next row, and the end
pub put_row : (i : ℕ) → i < 31 → (room l : List ℕ) (rows : List Row) → second_size ≤ length room → length l ≡ 31
    → put_rows i room (record { line = l } ∷ rows) ≡ put_rows (i + 1) (put_at room (row_place i) l) rows
put_row i h room l rows r z =
    let at = row_place i in
    let rest = drop (at + length l) room in
    let front : length (take at room ++ l) ≡ row_place (i + 1) = simp (length-append, length-take) (omega arith) in
    let split : put_at room at l ≡ (take at room ++ l) ++ rest = sym (append_assoc (take at room) l rest) in
    let first : take (row_place (i + 1)) (put_at room at l) ≡ take at room ++ l = ap (take (row_place (i + 1))) split ∙ take_at (take at room ++ l) rest (row_place (i + 1)) front in
    let k = second_size - row_place (i + 1) in
    let sum : second_size ≡ row_place (i + 1) + k = omega arith in
    let sum₂ : at + length l + k ≡ second_size = omega arith in
    let behind : drop second_size (put_at room at l) ≡ drop second_size room =
    (λ j. drop (sum j) (split j))
    ∙ sym (drop-drop k (row_place (i + 1)) ((take at room ++ l) ++ rest))
    ∙ ap (drop k) (drop_at (take at room ++ l) rest (row_place (i + 1)) front)
    ∙ drop-drop k (at + length l) room
    ∙ ap (λ (n : ℕ). drop n room) sum₂ in
    let d = drop second_size room in
    ap (λ (x : List ℕ). take at room ++ x) (append_assoc l (rows_bytes rows) d)
    ∙ sym (append_assoc (take at room) l (rows_bytes rows ++ d))
    ∙ (λ j. sym first j ++ (rows_bytes rows ++ sym behind j))

pub put_rows_end : (i : ℕ) → 31 ≤ i → i ≤ 31 → (room : List ℕ) (rows : List Row) → length rows ≡ 31 → put_rows i room (drop i rows) ≡ room
put_rows_end i h k room rows long =
    let z : row_place i ≡ second_size = omega arith in
    rw (drop_of_length-le rows {i = i} (omega arith), z) (take-append-drop second_size room)

pub stored_second_short : (b : List ℕ) (x : Second) → length b < second_size → b ≡ stored_second x b
unfolding stored_second
stored_second_short b x h = sym (if-true _ _ _ (lt-ltb (length b) second_size h))

-- ── the bytes of a core ──

-- what the types of the code say of a core
pub record SizedCore (k : Core) : Type 0 where
  pub tasks : length k.tasks ≡ 31
  pub ready : length k.ready ≡ 31
  pub held : length k.held ≡ 31
  pub delays : length k.delays ≡ 31

core_long : (k : Core) → SizedCore k → length (core_bytes k) ≡ rows_at
core_long k z = simp length-append (omega (arith, tasks_long k.tasks, z.tasks, z.ready, z.held, z.delays))

-- a state of the first engine that begins with the core, and with a line behind it
abbrev before : Core → List ℕ → Supervisor
before k l = record {
  core = record {
    clock = k.clock;
    created = k.created;
    tasks = k.tasks;
    ready = k.ready;
    held = k.delays;
    delays = l;
  };
  callers = k.held;
}

before_bytes : (k : Core) (l : List ℕ) → encode (before k l) ≡ core_bytes k ++ l
unfolding encode
before_bytes k l = refl

before_sized : (k : Core) (l : List ℕ) → SizedCore k → length l ≡ 31 → Sized (before k l)
before_sized k l z h = record { tasks = z.tasks; ready = z.ready; callers = z.held; held = z.delays; delays = h }

pub stored_second_long : (b : List ℕ) (x : Second) (headed r : List ℕ) → second_size ≤ length b → SizedCore x.core
    → headed ≡ stored (as_first x.core) b → r ≡ put_rows 0 headed x.rows → r ≡ stored_second x b
unfolding stored_second stored encode_second
stored_second_long b x headed r h z e p =
    let c = core_bytes x.core in
    let o : List ℕ = replicate 31 0 in
    let d = drop state_size b in
    let long = core_long x.core z in
    let first : headed ≡ c ++ (o ++ d) = e ∙ if-false _ _ _ (le-ltb (length b) state_size (omega arith)) ∙ ap (λ (l : List ℕ). l ++ d) (before_bytes x.core o) ∙ append_assoc c o d in
    let both : length (c ++ o) ≡ state_size = length-append c o ∙ ap (λ (n : ℕ). n + 31) long in
    let behind : drop second_size (c ++ (o ++ d)) ≡ drop second_size b =
    ap (drop second_size) (sym (append_assoc c o d))
    ∙ sym (drop-drop (second_size - state_size) state_size ((c ++ o) ++ d))
    ∙ ap (drop (second_size - state_size)) (drop_at (c ++ o) d state_size both)
    ∙ drop-drop (second_size - state_size) state_size b in
    p ∙ ap (λ (l : List ℕ). put_rows 0 l x.rows) first
    ∙ (λ i. take_at c (o ++ d) rows_at long i ++ (rows_bytes x.rows ++ behind i))
    ∙ sym (append_assoc c (rows_bytes x.rows) (drop second_size b))
    ∙ sym (if-false _ _ _ (le-ltb (length b) second_size h))

-- ── what is put is read back ──

-- each row has 31 places
abbrev pub Lined : List Row → Type 0
Lined [] = Unit {0}
Lined (r ∷ rs) = (length r.line ≡ 31) × Lined rs

rows_back : (rows : List Row) (rest : List ℕ) → Lined rows → rows_in (length rows) (rows_bytes rows ++ rest) ≡ rows
unfolding rows_in
rows_back [] rest h = refl
rows_back (r ∷ rs) rest h =
    let ih = rows_back rs rest h.1 in
    let e = append_assoc r.line (rows_bytes rs) rest in
    let here : take 31 (rows_bytes (r ∷ rs) ++ rest) ≡ r.line = ap (take 31) e ∙ take_at r.line (rows_bytes rs ++ rest) 31 h.0 in
    let next : drop 31 (rows_bytes (r ∷ rs) ++ rest) ≡ rows_bytes rs ++ rest = ap (drop 31) e ∙ drop_at r.line (rows_bytes rs ++ rest) 31 h.0 in
    λ i. record { line = here i } ∷ (ap (rows_in (length rs)) next ∙ ih) i

rows_bytes_long : (rows : List Row) → Lined rows → length (rows_bytes rows) ≡ length rows * 31
rows_bytes_long [] h = refl
rows_bytes_long (r ∷ rs) h = let ih = rows_bytes_long rs h.1 in simp length-append (omega (arith, h.0))

-- the core is found, where a row follows it
core_back : (k : Core) (l rest : List ℕ) → SizedCore k → length l ≡ 31 → core_from (state_in (core_bytes k ++ (l ++ rest))) ≡ k
core_back k l rest z h =
    let e : core_bytes k ++ (l ++ rest) ≡ encode (before k l) ++ rest = sym (append_assoc (core_bytes k) l rest) ∙ ap (λ (b : List ℕ). b ++ rest) (sym (before_bytes k l)) in
    ap (λ (b : List ℕ). core_from (state_in b)) e ∙ ap core_from (kept (before k l) (before_sized k l z h) rest)

first_row : (k : Core) (rows : List Row) (rest : List ℕ) → SizedCore k → length rows ≡ 31 → Lined rows → core_from (state_in (core_bytes k ++ (rows_bytes rows ++ rest))) ≡ k
first_row k [] rest z n h = absurd (omega (arith, n))
first_row k (r ∷ rs) rest z n h = ap (λ (b : List ℕ). core_from (state_in (core_bytes k ++ b))) (append_assoc r.line (rows_bytes rs) rest) ∙ core_back k r.line (rows_bytes rs ++ rest) z h.0

-- what was put into lent bytes is found there
pub second_kept : (x : Second) → SizedCore x.core → length x.rows ≡ 31 → Lined x.rows → (rest : List ℕ) → second_in (encode_second x ++ rest) ≡ x
unfolding encode_second
second_kept x z n h rest =
    let c = core_bytes x.core in
    let y = rows_bytes x.rows in
    let b = (c ++ y) ++ rest in
    let e : b ≡ c ++ (y ++ rest) = append_assoc c y rest in
    let long = core_long x.core z in
    let many = rows_bytes_long x.rows h in
    let enough : second_size ≤ length b = omega (arith, length-append (c ++ y) rest, length-append c y, long, many, n) in
    let core : core_from (state_in b) ≡ x.core = ap (λ (b : List ℕ). core_from (state_in b)) e ∙ first_row x.core x.rows rest z n h in
    let rows : rows_in 31 (drop rows_at b) ≡ x.rows =
    ap (λ (b : List ℕ). rows_in 31 (drop rows_at b)) e ∙ ap (rows_in 31) (drop_at c (y ++ rest) rows_at long) ∙ ap (λ (m : ℕ). rows_in m (y ++ rest)) (sym n) ∙ rows_back x.rows rest h in
    sym (second_long b x.core x.rows enough (sym core) (sym rows))

-- ── bytes that are no encoding ──

-- too few bytes are no sound state
pub second_too_few : (b : List ℕ) → length b < second_size → sound_second (second_in b) ≡ false
unfolding lost_second lost
second_too_few b h = ap sound_second (sym (second_short b h)) ∙ refl

-- nor are bytes whose tasks are no encoding
pub second_no_encoding : (b : List ℕ) → is_encoding b ≡ false → sound_second (second_in b) ≡ false
unfolding second_in state_in lost lost_second
second_no_encoding b e =
    by_bool (ltb (length b) second_size)
    (λ t. second_too_few b (ltb-true (length b) second_size t))
    (λ t. ap sound_second (if-false _ _ _ t) ∙ ap (λ (s : Supervisor). sound_second (record { core = core_from s; rows = rows_in 31 (drop rows_at b) })) (if-false (is_encoding b) (decode b) lost e) ∙ refl)
