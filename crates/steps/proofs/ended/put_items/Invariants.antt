use Rattle.std.proofs.Common.{◌≡◌, ◌*◌, ◌≤◌, length, drop}
use Rattle.lists.specs.Line.{line}
use Rattle.rules.specs.Whole.{view_core}
use Rattle.steps.proofs.RoomLaws.{Going}
use Rattle.steps.proofs.ended.put_items.Given as goal

abbrev pub invariant-loop-t : goal.invariant-loop-t
invariant-loop-t at = (at.n ≡ at.t-index) × (length (line at.t-items) * 4 ≤ length at.initial.room) × Going (view_core at.s) at.failed (line at.t-items) at.initial.room at.room at.t-index (line (drop at.t-index at.t-items)) × (length at.s.tasks ≡ 31)
