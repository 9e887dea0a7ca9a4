-- What making a fresh area, a request and a release answer, and what they leave in the tables.
use Rattle.std.specs.Prelude.{ℕ, ◌+◌, ◌-◌, Bool, true, false, ◌&&◌, ltb, leb, List, [], ◌∷◌, ◌++◌, length, take, replicate, ◌==◌, nat_eq, nat_le, nat_lt}
use Rattle.workspace.specs.declared.Stretch.{Stretch}
use Rattle.workspace.specs.declared.Used.{Used}
use Rattle.workspace.specs.declared.Answer.{Answer}
use Rattle.lists.specs.Lists.{when◌then◌else◌}
use Rattle.workspace.specs.Rules.{units, stretch, none, end, has_places, rules_kept}

-- a stretch put in its place in address order
abbrev pub placed : Stretch → List Stretch → List Stretch
placed b [] = b ∷ []
placed b (c ∷ cs) = when nat_lt b.start c.start then b ∷ c ∷ cs else c ∷ placed b cs

-- some free stretch is long enough for n units
abbrev pub fits : ℕ → List Stretch → Bool
fits n [] = false
fits n (f ∷ fs) = when nat_le n f.length then true else fits n fs

-- a stretch is too short for n units
abbrev pub is_short : ℕ → Stretch → Bool
is_short n s = nat_lt s.length n

-- "takes the front of the first free stretch long enough": where that one starts, 0 if there is none
abbrev pub fit_start : ℕ → List Stretch → ℕ
fit_start n [] = 0
fit_start n (f ∷ fs) = when nat_le n f.length then f.start else fit_start n fs

-- and the free stretches afterwards
abbrev pub cut : ℕ → List Stretch → List Stretch
cut n [] = []
cut n (f ∷ fs) = when nat_le n f.length then (when nat_eq n f.length then fs else stretch (f.start + n) (f.length - n) ∷ fs) else f ∷ cut n fs

-- a block starts at a
abbrev pub starts_at : ℕ → List Stretch → Bool
starts_at a [] = false
starts_at a (b ∷ bs) = when b.start == a then true else starts_at a bs

-- its length, 0 if there is none
abbrev pub length_at : ℕ → List Stretch → ℕ
length_at a [] = 0
length_at a (b ∷ bs) = when b.start == a then b.length else length_at a bs

-- and the blocks without it
abbrev pub without : ℕ → List Stretch → List Stretch
without a [] = []
without a (b ∷ bs) = when b.start == a then bs else b ∷ without a bs

-- "gives its units back and joins them with free neighbours"
abbrev pub joined : Stretch → List Stretch → List Stretch
joined b [] = b ∷ []
joined b (f ∷ fs) =
    when end f == b.start then joined (stretch f.start (f.length + b.length)) fs
    else (when nat_eq (end b) f.start then stretch b.start (b.length + f.length) ∷ fs
    else (when ltb b.start f.start then b ∷ f ∷ fs
    else f ∷ joined b fs))

-- an operation is refused with a number, or answers one and leaves these blocks and free stretches
pub data Outcome : Type 0 where
  refused : ℕ → Outcome
  took : ℕ → List Stretch → List Stretch → Outcome

-- the state is not sound: too few places, or tables that break the rules
abbrev pub BAD_STATE : ℕ
BAD_STATE = 2

-- a size outside 1 to 65,535
abbrev pub BAD_SIZE : ℕ
BAD_SIZE = 13

-- 31 blocks are taken
abbrev pub BLOCKS_FULL : ℕ
BLOCKS_FULL = 14

-- no free stretch is long enough
abbrev pub NO_SPACE : ℕ
NO_SPACE = 15

-- no block starts there
abbrev pub BAD_BLOCK : ℕ
BAD_BLOCK = 16

-- "a fresh area is one free stretch"
unfoldable pub fresh_of : List Stretch → List Stretch → Outcome
fresh_of blocks free = when has_places blocks free then took 0 [] (stretch 0 units ∷ []) else refused BAD_STATE

-- "a request of 1 to 65,535 units", in the order of the refusals
unfoldable pub request_of : List Stretch → List Stretch → Used → ℕ → Outcome
request_of blocks free used n =
    when rules_kept blocks free used then
    (when leb 1 n && leb n 65535 then
    (when ltb used.blocks 31 then
    (when fits n (take used.free free) then
    took (fit_start n (take used.free free)) (placed (stretch (fit_start n (take used.free free)) n) (take used.blocks blocks)) (cut n (take used.free free))
    else refused NO_SPACE) else refused BLOCKS_FULL) else refused BAD_SIZE) else refused BAD_STATE

-- "releasing a block gives its units back", likewise
unfoldable pub release_of : List Stretch → List Stretch → Used → ℕ → Outcome
release_of blocks free used a =
    when rules_kept blocks free used then
    (when starts_at a (take used.blocks blocks) then
    took (length_at a (take used.blocks blocks)) (without a (take used.blocks blocks)) (joined (stretch a (length_at a (take used.blocks blocks))) (take used.free free))
    else refused BAD_BLOCK) else refused BAD_STATE

-- a table afterwards: the list, and all other places unused
abbrev pub table_after : List Stretch → List Stretch → List Stretch
table_after table l = l ++ replicate (length table - length l) none

-- "all change nothing": the table of blocks afterwards
abbrev pub blocks_after : List Stretch → Outcome → List Stretch
blocks_after table (refused k) = table
blocks_after table (took v blocks free) = table_after table blocks

-- the table of free stretches afterwards
abbrev pub free_after : List Stretch → Outcome → List Stretch
free_after table (refused k) = table
free_after table (took v blocks free) = table_after table free

-- the answer: a refusal comes with 0, and the number of places used stays
abbrev pub answer_of : Used → Outcome → Answer
answer_of used (refused k) = record { refusal = k; value = 0; used = used }
answer_of used (took v blocks free) = record { refusal = 0; value = v; used = record { blocks = length blocks; free = length free } }

-- no place is used
abbrev pub unused : Used
unused = record { blocks = 0; free = 0 }
