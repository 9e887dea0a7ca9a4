-- An area in use, and sequences of operations on it.
use Rattle.std.specs.Prelude.{ℕ, Bool, List, [], ◌∷◌}
use Rattle.workspace.specs.declared.Stretch.{Stretch}
use Rattle.workspace.specs.declared.Used.{Used}
use Rattle.workspace.specs.Rules.{rules_kept}
use Rattle.workspace.specs.Operations.{Outcome, refused, took, fresh_of, request_of, release_of, blocks_after, free_after, answer_of, unused}

-- the two lent tables, and the number of places used in each
pub record Area : Type 0 where
  pub blocks : List Stretch
  pub free : List Stretch
  pub used : Used

-- the rules are kept
abbrev pub is_sound : Area → Bool
is_sound a = rules_kept a.blocks a.free a.used

-- a call of `request` or of `release`
pub data Op : Type 0 where
  request : ℕ → Op
  release : ℕ → Op

-- what it answers and leaves
abbrev pub outcome_of : Area → Op → Outcome
outcome_of a (request n) = request_of a.blocks a.free a.used n
outcome_of a (release s) = release_of a.blocks a.free a.used s

-- the area as an outcome leaves it
abbrev pub after : Area → Outcome → Area
after a o = record { blocks = blocks_after a.blocks o; free = free_after a.free o; used = (answer_of a.used o).used }

-- the area behind one operation
abbrev pub step_of : Area → Op → Area
step_of a o = after a (outcome_of a o)

-- the area behind a sequence of operations
abbrev pub run_of : Area → List Op → Area
run_of a [] = a
run_of a (o ∷ os) = run_of (step_of a o) os

-- a fresh area made of two tables, whatever they hold
abbrev pub fresh_area : List Stretch → List Stretch → Area
fresh_area b f = after (record { blocks = b; free = f; used = unused }) (fresh_of b f)

-- the refusal number of an outcome, 0 if it is none
abbrev pub refusal_of : Outcome → ℕ
refusal_of (refused k) = k
refusal_of (took v bs fs) = 0

-- what an outcome answers
abbrev pub value_of : Outcome → ℕ
value_of (refused k) = 0
value_of (took v bs fs) = v

-- one release for each block, in table order
abbrev pub releases_all : List Stretch → List Op
releases_all [] = []
releases_all (b ∷ bs) = release b.start ∷ releases_all bs
