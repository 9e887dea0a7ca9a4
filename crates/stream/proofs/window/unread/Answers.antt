use Rattle.std.proofs.Common.{refl}
use Rattle.lists.proofs.Parts.{need, Field}
use Rattle.stream.proofs.window.unread.Goals as goal

-- nothing stands in the buffer
end-here : Field (need goal.returns) (λ w. w.end)
end-here c = refl

-- more bytes may come
last-here : Field (need goal.returns) (λ w. w.last)
last-here c = refl

pub returns : goal.returns
returns c = λ i. record { at = 0; end = end-here c i; last = last-here c i }
