use Rattle.logs.specs.Rests.{head_of}
use Rattle.logs.proofs.next_in.Goals as goal

pub returns : goal.returns
unfolding head_of
returns c = rw (c.number_at.ensures, c.number_at-2.ensures, c.part-p.ensures.0)
