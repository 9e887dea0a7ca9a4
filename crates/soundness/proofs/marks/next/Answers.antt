use Rattle.std.proofs.Common.{ap, ◌+◌, ◌*◌, ◌%◌, ◌∙◌, arith}
use Rattle.soundness.specs.Marks.{next_mark}
use Rattle.lists.proofs.Tests.{bit_le, byte_bit}
use Rattle.soundness.proofs.marks.next.Goals as goal

pub returns : goal.returns
unfolding next_mark
returns c = ap (λ x. c.args.word % 2147483648 * 2 + x) (c.from.ensures ∙ byte_bit c.args.here)

pub overflow_add-result : goal.overflow_add-result
overflow_add-result c = omega (arith, c.from.ensures, byte_bit c.args.here, bit_le c.args.here)
