use Rattle.std.proofs.Common.{◌≡◌, ◌-◌, length}
use Rattle.debounce.specs.Settings.{good_from}
use Rattle.debounce.proofs.settings.is_good.Given as goal

abbrev pub invariant-loop-i : goal.invariant-loop-i
invariant-loop-i l = (length l.b ≡ 48) × (good_from 8 0 l.b ≡ good_from (8 - l.i) l.i l.b)
