use Rattle.std.proofs.Common.{◌≡◌, ℕ, ◌<◌, ◌&&◌, IfSome, rules, length, ◌∙◌}
use Rattle.lists.specs.Line.{line}
use Rattle.lists.proofs.ListLaws.{mapped_long}
use Rattle.lists.proofs.Tests.{and_first, and_second}
use Rattle.rules.specs.Second.{gathered, view_second, rows_right, sound_second, priority_second}
use Rattle.rules.specs.Sound.{sound}
use Rattle.rules.specs.Tree.{highest_of}
use Rattle.rules.specs.Whole.{view_core, packed_core}
use Rattle.rules.proofs.QuestionLaws.{asked_is}
use Rattle.table.proofs.HighestLaws.{highest_sound}
use Rattle.table.specs.Tree.{highest_in, holders_of, priorities_of}
use Rattle.second.proofs.priority.Goals as goal

pub returns : goal.returns
unfolding priority_second
returns c =
    let a = c.args in
    let x = a.x in
    let packed = packed_core x.core in
    let rows = rows_right (view_core x.core) 1 x.rows in
    let state = sound (view_second x) in
    let k : x.core.clock < 4294967296 = search rules in
    let l : length x.core.tasks ≡ 31 = search (rules, mapped_long) in
    let got : IfSome c.then.result (λ (n : ℕ). n ≡ highest_in (line x.core.held) (holders_of x.core) (priorities_of x.core) 30 a.t) = search rules in
    -- what is worked out is the priority down the tree
    asked_is (highest_of (view_second x) 30 a.t) _ (sound_second x) c.then.result (c.then.ensures.variant ∙ c.sound.ensures) got
    (λ e. highest_sound x.core (gathered x.rows) a.t k l (and_first packed rows (and_first (packed && rows) state e)) (and_second (packed && rows) state e)) c.ok_or.ensures.value
