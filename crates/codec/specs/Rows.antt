-- The second engine's 1431 bytes: clock 4, created 1, 31 tasks of 12, the lines ready, held, delays, then 31 rows of 31, row g those who have called task g.
use Rattle.std.specs.Prelude.{ℕ, zero, suc, ◌+◌, ◌*◌, List, [], ◌∷◌, ◌++◌, length, replicate, take, drop, ltb}
use Rattle.lists.specs.Lists.{when◌then◌else◌}
use Rattle.calls.specs.Duration.{bytes_of}
use Rattle.rules.specs.declared.Core.{Core}
use Rattle.rules.specs.declared.Row.{Row}
use Rattle.rules.specs.declared.Second.{Second}
use Rattle.rules.specs.declared.Supervisor.{Supervisor}
use Rattle.codec.specs.Layout.{ready_at, tasks_bytes, lost, state_in}

-- ── the sizes ──

-- where the rows stand, behind the three lines, and where row i + 1 does
abbrev pub rows_at : ℕ
rows_at = ready_at + 3 * 31

abbrev pub row_place : ℕ → ℕ
row_place i = rows_at + i * 31

-- the bytes of a state
abbrev pub second_size : ℕ
second_size = rows_at + 31 * 31

-- ── the bytes of a state ──

-- the bytes of a core: clock, created, tasks, ready, held, delays
abbrev pub core_bytes : Core → List ℕ
core_bytes k = (bytes_of k.clock ++ (k.created ∷ [])) ++ tasks_bytes k.tasks ++ k.ready ++ k.held ++ k.delays

-- the rows one behind the other
abbrev pub rows_bytes : List Row → List ℕ
rows_bytes [] = []
rows_bytes (r ∷ rs) = r.line ++ rows_bytes rs

-- the core, and the rows behind it
unfoldable pub encode_second : Second → List ℕ
encode_second x = core_bytes x.core ++ rows_bytes x.rows

-- ── the state of bytes ──

-- n rows of the bytes
unfoldable pub rows_in : ℕ → List ℕ → List Row
rows_in zero b = []
rows_in (suc n) b = record { line = take 31 b } ∷ rows_in n (drop 31 b)

-- rows in which nobody stands
unfoldable pub no_rows : List Row
no_rows = replicate 31 (record { line = replicate 31 0 })

-- the core in the bytes, by the state that the first engine reads there: what stands in the place of its callers are those held here, and in the place of those
-- held the delays
abbrev pub core_from : Supervisor → Core
core_from s = record {
  clock = s.core.clock;
  created = s.core.created;
  tasks = s.core.tasks;
  ready = s.core.ready;
  held = s.callers;
  delays = s.core.held;
}

-- the other way round: a state of the first engine whose bytes begin with those of the core
abbrev pub as_first : Core → Supervisor
as_first k = record {
  core = record {
    clock = k.clock;
    created = k.created;
    tasks = k.tasks;
    ready = k.ready;
    held = k.delays;
    delays = replicate 31 0;
  };
  callers = k.held;
}

-- the state that stands for bytes that are too few
unfoldable pub lost_second : Second
lost_second = record { core = lost.core; rows = no_rows }

-- the state of lent bytes: one that is not sound where they are no encoding
unfoldable pub second_in : List ℕ → Second
second_in b = when ltb (length b) second_size then lost_second else record { core = core_from (state_in b); rows = rows_in 31 (drop rows_at b) }

-- ── what is put into lent bytes ──

-- bytes with rows put into them, from row i + 1 on
abbrev pub put_rows : ℕ → List ℕ → List Row → List ℕ
put_rows i b rows = take (row_place i) b ++ (rows_bytes rows ++ drop second_size b)

-- lent bytes with a state put into them; bytes behind it stay, and so do all where there are too few
unfoldable pub stored_second : Second → List ℕ → List ℕ
stored_second x b = when ltb (length b) second_size then b else encode_second x ++ drop second_size b
