-- Two tables by value, as an outcome leaves them.
use Rattle.workspace.specs.declared.Tables.{Tables}
use Rattle.workspace.specs.Operations.{Outcome, fresh_of, blocks_after, free_after, answer_of, unused}

-- both tables and the answer
unfoldable pub owned_after : Tables → Outcome → Tables
owned_after a o = record { blocks = blocks_after a.blocks o; free = free_after a.free o; answer = answer_of a.answer.used o }

-- the same of a fresh area, whose refusal counts no places
unfoldable pub owned_fresh : Tables → Tables
owned_fresh a = record { blocks = blocks_after a.blocks (fresh_of a.blocks a.free); free = free_after a.free (fresh_of a.blocks a.free); answer = answer_of unused (fresh_of a.blocks a.free) }
