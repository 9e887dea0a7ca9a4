use Rattle.std.proofs.Common.{◌≡◌, ℕ, ◌<◌, IfSome, rules, length, ◌∙◌}
use Rattle.lists.specs.Line.{line}
use Rattle.lists.proofs.ListLaws.{mapped_long}
use Rattle.rules.specs.Questions.{priority_whole}
use Rattle.rules.specs.Tree.{highest_of}
use Rattle.rules.specs.Whole.{view, sound_whole}
use Rattle.rules.proofs.QuestionLaws.{asked_is}
use Rattle.rules.proofs.WholeLaws.{parts}
use Rattle.table.proofs.HighestLaws.{highest_sound}
use Rattle.table.specs.Tree.{highest_in, holders_of, priorities_of}
use Rattle.supervisor.proofs.priority.Goals as goal

pub returns : goal.returns
unfolding priority_whole
returns c =
    let a = c.args in
    let s = a.s in
    let k : s.core.clock < 4294967296 = search rules in
    let l : length s.core.tasks ≡ 31 = search (rules, mapped_long) in
    let got : IfSome c.then.result (λ (n : ℕ). n ≡ highest_in (line s.core.held) (holders_of s.core) (priorities_of s.core) 30 a.t) = search rules in
    -- what is worked out is the priority down the tree
    asked_is (highest_of (view s) 30 a.t) _ (sound_whole s) c.then.result (c.then.ensures.variant ∙ c.sound.ensures) got (λ e. let p = parts s e in highest_sound s.core (line s.callers) a.t k l p.core p.state) c.ok_or.ensures.value
