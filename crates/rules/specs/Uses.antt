-- Uses of the code's `step`, one after the other, and the log that is read off what it answered and wrote.
-- Assumes nothing.
use Rattle.std.specs.Prelude.{ℕ, zero, suc, ◌≡◌, List, [], ◌∷◌, map, length, get_or, drop}
use Rattle.rules.specs.Step.{item, room_after}
use Rattle.rules.specs.Whole.{view, step_whole, stepped_of}
use Rattle.rules.specs.Runs.{Ask, Entry, log_whole}
use Rattle.rules.specs.declared.Item.{Item}
use Rattle.rules.specs.declared.Answer.{Answer}
use Rattle.rules.specs.declared.Stepped.{Stepped}
use Rattle.rules.specs.declared.Supervisor.{Supervisor}
use Rattle.calls.specs.declared.Call as C

-- one use of `step`: the call, the bytes lent, what it answered, and the lent bytes afterwards
pub record Use : Type 0 where
  pub call : C.Call
  pub lent : List ℕ
  pub gave : Stepped Supervisor
  pub wrote : List ℕ

-- the use keeps the contract of `step`, in the state s
pub record Keeps (s : Supervisor) (u : Use) : Type 0 where
  pub answer : u.gave ≡ stepped_of (step_whole s u.call (length u.lent))
  pub room : u.wrote ≡ room_after u.lent (step_whole s u.call (length u.lent)).ended

-- uses one after the other: each in the state that the one before gave
abbrev pub Chain : Supervisor → List Use → Type 0
Chain s [] = Unit {0}
Chain s (u ∷ us) = Keeps s u × Chain u.gave.state us

-- the call of a use, and the length of its room
abbrev pub asked : Use → Ask
asked u = record { call = u.call; room = length u.lent }

-- n items read off a room: four bytes each, one directly behind the other
abbrev pub items_in : ℕ → List ℕ → List Item
items_in zero room = []
items_in (suc n) room = item (get_or room 0 0) (get_or room 1 0) (get_or room 2 0) (get_or room 3 0) ∷ items_in n (drop 4 room)

-- the log's line of a use, by its answer and its bytes alone
abbrev pub read_entry : Supervisor → Use → Entry
read_entry s u =
    let a : Answer = u.gave.answer in
    record {
      before = view s;
      call = u.call;
      out = record {
        refusal = a.refusal;
        answer = item a.task a.result a.entry a.partner;
        ended = items_in a.ended u.wrote;
        next = a.next;
        state = view u.gave.state;
      };
    }

-- the log of uses
abbrev pub read_log : Supervisor → List Use → List Entry
read_log s [] = []
read_log s (u ∷ us) = read_entry s u ∷ read_log u.gave.state us

-- what is read off the uses is the log of the rules: all that is said of logs is said of them
abbrev pub ReadBack : Type 0
ReadBack = (s : Supervisor) (us : List Use) → Chain s us → read_log s us ≡ log_whole s (map asked us)
