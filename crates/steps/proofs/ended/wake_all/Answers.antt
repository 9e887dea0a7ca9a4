use Rattle.std.proofs.Common.{sym, ◌∙◌, rules}
use Rattle.lists.specs.Line.{line}
use Rattle.lists.proofs.LineLaws.{first_at}
use Rattle.lists.proofs.Turns.{rest_blank}
use Rattle.rules.specs.Whole.{view_core}
use Rattle.steps.proofs.WakeLaws.{woken_none, woken_packed}
use Rattle.steps.proofs.ended.wake_all.Goals as goal

pub returns-then-first_of-eq0 : goal.returns-then-first_of-eq0
returns-then-first_of-eq0 c =
    let a = c.args in
    woken_none (view_core a.s) a.s a.failed _ _ c.requires.0.packs (rest_blank a.l 0 (search rules) (first_at a.l ∙ sym c.first_of.ensures ∙ c.if-first_of-eq0.true))

pub returns : goal.returns
returns c =
    let p = c.put_items-n.ensures in
    let a = c.args in
    record { state = c.woken-m.ensures ∙ woken_packed a.s (line a.l) c.requires.0 c.requires.2; number = p.value; written = p.room }
