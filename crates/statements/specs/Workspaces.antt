-- Request (x), workspaces for tasks: what holds of every use of `fresh`, `request` and `release` that keeps its contract, over lent tables and over
-- tables by value.
-- Assumes nothing.
use Rattle.std.specs.Prelude.{ℕ, ◌≤◌, ◌<◌, ◌≡◌, true, not, ◌&&◌, List, [], ◌∷◌, ◌++◌, map, length, take, drop, leb}
use seplogic.Ra.Ura.{Ura}
use base.Logic.{SProp}
use contract.Monad.{Fun, fact}
use types.Logic.{Logic}
use prog.Memory.{Memory}
use prog.Routine.{Routine}
use Rattle.lists.specs.Lists.{every, in_order_by}
use Rattle.workspace.specs.Rules.{units, stretch, total, is_none, is_before, is_long, is_inside, is_apart, is_loose, is_kept, has_places}
use Rattle.workspace.specs.Operations.{placed, is_short, fit_start, cut, starts_at, length_at, without, joined, Outcome, fresh_of, blocks_after, free_after, answer_of, unused}
use Rattle.workspace.specs.Runs.{Area, is_sound, Op, outcome_of, releases_all}
use Rattle.workspace.specs.Runs as op
use Rattle.workspace.specs.declared.Stretch.{Stretch}
use Rattle.workspace.specs.declared.Answer.{Answer}
use Rattle.workspace.specs.declared.Tables.{Tables}
use Rattle.workspace.specs.contracts.fresh as fresh
use Rattle.workspace.specs.contracts.request as request
use Rattle.workspace.specs.contracts.release as release
use Rattle.workspace.proofs.owned.fresh.Reads as owned_fresh
use Rattle.workspace.proofs.owned.request.Reads as owned_request
use Rattle.workspace.proofs.owned.release.Reads as owned_release
use Rattle.statements.specs.Refusals.{Row, row, first_row}

-- ── uses ──

-- what a use gives: its answer, and both tables afterwards
pub record Result : Type 0 where
  pub answer : Answer
  pub blocks : List Stretch
  pub free : List Stretch

-- an outcome in the area a: its answer, and what it leaves in the tables
abbrev pub Gives : Area → Outcome → Result → Type 0
Gives a o g = (g.answer ≡ answer_of a.used o) × (g.blocks ≡ blocks_after a.blocks o) × (g.free ≡ free_after a.free o)

-- the use keeps the contract of `fresh`, over two tables, whatever they hold
abbrev pub KeepsFresh : List Stretch → List Stretch → Result → Type 0
KeepsFresh b f g = Gives (record { blocks = b; free = f; used = unused }) (fresh_of b f) g

-- the use keeps the contract of `request` or of `release`, in the area a
abbrev pub KeepsOp : Area → Op → Result → Type 0
KeepsOp a o g = Gives a (outcome_of a o) g

-- the area that a use leaves: the tables, and the numbers of places used that it answered
abbrev pub area_of : Result → Area
area_of g = record { blocks = g.blocks; free = g.free; used = g.answer.used }

-- one use of `request` or of `release`
pub record Work : Type 0 where
  pub op : Op
  pub gave : Result

-- uses one after the other: each in the area that the one before left
abbrev pub Works : Area → List Work → Type 0
Works a [] = Unit {0}
Works a (u ∷ us) = KeepsOp a u.op u.gave × Works (area_of u.gave) us

-- the area that they leave
abbrev pub area_after : Area → List Work → Area
area_after a [] = a
area_after a (u ∷ us) = area_after (area_of u.gave) us

-- ── an area ──

-- the blocks: what stands in the used places of the first table
abbrev pub blocks_of : Area → List Stretch
blocks_of a = take a.used.blocks a.blocks

-- the free stretches: likewise of the second
abbrev pub free_of : Area → List Stretch
free_of a = take a.used.free a.free

-- the rules, phrase by phrase
pub record RulesHold (a : Area) : Type 0 where
  -- "a lent table of at most 31 blocks"
  pub few_blocks : a.used.blocks ≤ 31
  -- "show that 32 stretches suffice"
  pub few_free : a.used.free ≤ 32
  -- "in address order"
  pub in_order : (in_order_by is_before (blocks_of a) ≡ true) × (in_order_by is_before (free_of a) ≡ true)
  -- "lengths are above 0"
  pub lengths : every is_long (blocks_of a ++ free_of a) ≡ true
  -- "unused places 0"
  pub unused_places : (every is_none (drop a.used.blocks a.blocks) ≡ true) × (every is_none (drop a.used.free a.free) ≡ true)
  -- "blocks and stretches lie inside the area"
  pub inside : every is_inside (blocks_of a ++ free_of a) ≡ true
  -- "and never overlap"
  pub apart : in_order_by is_apart (blocks_of a ++ free_of a) ≡ true
  -- "no two free stretches touch"
  pub loose : in_order_by is_loose (free_of a) ≡ true
  -- "and their lengths always add up to the area"
  pub whole : total (blocks_of a ++ free_of a) ≡ units

-- "refusals, in order", of a fresh area: 2 for fewer than 31 and 32 places
abbrev pub fresh_rows : List Stretch → List Stretch → List Row
fresh_rows b f = row 2 (not (has_places b f)) ∷ []

-- of a request: 2 for tables that break the rules, 13 for a size outside 1 to 65,535, 14 with 31 blocks taken, 15 when no free stretch is long enough
abbrev pub request_rows : Area → ℕ → List Row
request_rows a n = row 2 (not (is_sound a)) ∷ row 13 (not (leb 1 n && leb n 65535)) ∷ row 14 (leb 31 a.used.blocks) ∷ row 15 (every (is_short n) (free_of a)) ∷ []

-- of a release: 2 likewise, 16 for an address where no block starts
abbrev pub release_rows : Area → ℕ → List Row
release_rows a s = row 2 (not (is_sound a)) ∷ row 16 (not (starts_at s (blocks_of a))) ∷ []

-- "takes the front of the first free stretch long enough", "answers the start"
pub record TakesFront (a : Area) (n : ℕ) (g : Result) : Type 0 where
  pub start : g.answer.value ≡ fit_start n (free_of a)
  pub blocks : blocks_of (area_of g) ≡ placed (stretch g.answer.value n) (blocks_of a)
  pub free : free_of (area_of g) ≡ cut n (free_of a)

-- "gives its units back and joins them with free neighbours", "a release [answers] the length"
pub record GivesBack (a : Area) (s : ℕ) (g : Result) : Type 0 where
  pub length : g.answer.value ≡ length_at s (blocks_of a)
  pub blocks : blocks_of (area_of g) ≡ without s (blocks_of a)
  pub free : free_of (area_of g) ≡ joined (stretch s g.answer.value) (free_of a)

-- ── the contracts ──

-- what the contracts over lent tables promise, in each model of the toolchain's logic: that the use keeps what stands above, and nothing else
pub record LentSays {M : Type 1} {𝓤 : Ura M} (𝓛 : Logic 𝓤) (mem : Memory → SProp 𝓤) (run : Routine → Fun 𝓤) : Type 2 where
  pub fresh : (κs : _) (x : _) (r : _) (y : _) → (fresh.clauses 𝓛 mem run κs x).ensures tt r y
      ≡ fact 𝓤 (KeepsFresh x.0.now x.1.0.now (record { answer = r; blocks = y.0.now; free = y.1.0.now }))
  pub request : (κs : _) (x : _) (r : _) (y : _) → (request.clauses 𝓛 mem run κs x).ensures tt r y
      ≡ fact 𝓤 (KeepsOp (record { blocks = x.0.now; free = x.1.0.now; used = x.1.1.0 }) (op.request x.1.1.1.0) (record { answer = r; blocks = y.0.now; free = y.1.0.now }))
  pub release : (κs : _) (x : _) (r : _) (y : _) → (release.clauses 𝓛 mem run κs x).ensures tt r y
      ≡ fact 𝓤 (KeepsOp (record { blocks = x.0.now; free = x.1.0.now; used = x.1.1.0 }) (op.release x.1.1.1.0) (record { answer = r; blocks = y.0.now; free = y.1.0.now }))

-- two tables by value as a result, and as an area
abbrev pub result_of : Tables → Result
result_of t = record { answer = t.answer; blocks = t.blocks; free = t.free }

pub record Workspaces : Type 2 where
  -- whatever the contracts of the functions allow is a use that keeps them
  pub lent_says : {M : Type 1} {𝓤 : Ura M} (𝓛 : Logic 𝓤) (mem : Memory → SProp 𝓤) (run : Routine → Fun 𝓤) → LentSays 𝓛 mem run
  pub owned_fresh_says : (κs : _) (x : _) (r : _) (y : _) → owned_fresh.Learnt κs x r y → KeepsFresh x.0.blocks x.0.free (result_of r)
  pub owned_request_says : (κs : _) (x : _) (r : _) (y : _) → owned_request.Learnt κs x r y → KeepsOp (area_of (result_of x.0)) (op.request x.1.0) (result_of r)
  pub owned_release_says : (κs : _) (x : _) (r : _) (y : _) → owned_release.Learnt κs x r y → KeepsOp (area_of (result_of x.0)) (op.release x.1.0) (result_of r)
  -- "refusals, in order": the number of the first row that applies, 0 where none does
  pub fresh_refused : (b f : List Stretch) (g : Result) → KeepsFresh b f g → g.answer.refusal ≡ first_row (fresh_rows b f)
  pub request_refused : (a : Area) (n : ℕ) (g : Result) → KeepsOp a (op.request n) g → g.answer.refusal ≡ first_row (request_rows a n)
  pub release_refused : (a : Area) (s : ℕ) (g : Result) → KeepsOp a (op.release s) g → g.answer.refusal ≡ first_row (release_rows a s)
  -- "all change nothing and answer 0"
  pub fresh_same : (b f : List Stretch) (g : Result) → KeepsFresh b f g → 0 < g.answer.refusal → (g.blocks ≡ b) × (g.free ≡ f) × (g.answer.value ≡ 0)
  pub refused_same : (a : Area) (o : Op) (g : Result) → KeepsOp a o g → 0 < g.answer.refusal → (area_of g ≡ a) × (g.answer.value ≡ 0)
  -- "a fresh area is one free stretch"
  pub fresh_area : (b f : List Stretch) (g : Result) → KeepsFresh b f g → g.answer.refusal ≡ 0
      → (blocks_of (area_of g) ≡ []) × (free_of (area_of g) ≡ stretch 0 units ∷ [])
  -- "a request of 1 to 65,535 units takes the front of the first free stretch long enough"
  pub takes_front : (a : Area) (n : ℕ) (g : Result) → KeepsOp a (op.request n) g → g.answer.refusal ≡ 0 → TakesFront a n g
  -- "releasing a block gives its units back and joins them with free neighbours"
  pub gives_back : (a : Area) (s : ℕ) (g : Result) → KeepsOp a (op.release s) g → g.answer.refusal ≡ 0 → GivesBack a s g
  -- "so freed room is found again": as many units as a release gave back can be requested; and where all blocks are released, one free stretch is the area
  pub found_again : (a : Area) (s : ℕ) (g k : Result) → KeepsOp a (op.release s) g → g.answer.refusal ≡ 0 → g.answer.value ≤ 65535
      → KeepsOp (area_of g) (op.request g.answer.value) k → k.answer.refusal ≡ 0
  pub all_released : (a : Area) → is_sound a ≡ true → (us : List Work) → Works a us → map (λ (u : Work). u.op) us ≡ releases_all (blocks_of a)
      → (blocks_of (area_after a us) ≡ []) × (free_of (area_after a us) ≡ stretch 0 units ∷ [])
  -- over any sequence of uses from a fresh area, refused ones included: the rules hold, and none is refused with 2
  pub rules_hold : (b f : List Stretch) (g : Result) → KeepsFresh b f g → g.answer.refusal ≡ 0 → (us : List Work) → Works (area_of g) us
      → RulesHold (area_after (area_of g) us)
  pub never_bad_state : (b f : List Stretch) (g : Result) → KeepsFresh b f g → g.answer.refusal ≡ 0 → (us : List Work) → Works (area_of g) us
      → (o : Op) (k : Result) → KeepsOp (area_after (area_of g) us) o k → k.answer.refusal ≡ 2 → ⊥
  -- 32 free stretches suffice for any area with at most 31 blocks that keeps the rules, however it came about
  pub suffices : (blocks free : List Stretch) → is_kept blocks free ≡ true → length blocks ≤ 31 → length free ≤ 32
