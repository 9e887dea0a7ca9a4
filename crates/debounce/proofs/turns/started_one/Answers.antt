use Rattle.std.proofs.Common.{pos, ap, ◌∙◌}
use Rattle.calls.specs.declared.Call.TheVariants.{Delay}
use Rattle.rules.specs.declared.Stepped.{Stepped}
use Rattle.rules.specs.declared.Supervisor.{Supervisor}
use Rattle.debounce.specs.Card.{takes}
use Rattle.debounce.proofs.turns.started_one.Goals as goal

pub returns : goal.returns
returns c = ap (λ (k : Stepped Supervisor). k.state) c.delayed-out.ensures ∙ ap (λ (k : Stepped Supervisor). (takes k.state (Delay (pos c.args.p))).state) c.stepped-made.ensures
