-- Any two answers that the contract of a public function allows are equal.
-- Assumes nothing.
use Prim.Native.Nat.{ℕ, ◌<◌}
use mathlib.Core.Bool.{Bool}
use mathlib.Core.Path.{◌≡◌, sym, ◌∙◌}
use denote.RattleType.{RattleType}
use Rattle.lists.specs.Once.{Once}
use Rattle.lines.specs.contracts.kept.F-Fn.{Ghosts}
use Rattle.lines.proofs.len.Reads as len
use Rattle.lines.proofs.joined.Reads as joined
use Rattle.lines.proofs.kept.Reads as kept
use Rattle.lines.proofs.without.Reads as without
use Rattle.lines.proofs.rejoined.Reads as rejoined
use Rattle.lines.proofs.to_head.Reads as to-head
use Rattle.lines.proofs.joined_all.Reads as joined-all
use Rattle.lines.proofs.first_of.Reads as first_of
use Rattle.lines.proofs.last_of.Reads as last_of
use Rattle.lines.proofs.mark_of.Reads as mark_of
use Rattle.lines.proofs.mark.Reads as mark
use Rattle.lines.proofs.marks_of.Reads as marks-of
use Rattle.lines.proofs.picked.Reads as picked
use Rattle.lines.proofs.put_by.Reads as put-by

pub len_once : Once len.Learnt
len_once κs x r r' y y' p q = p ∙ sym q

pub joined_once : Once joined.Learnt
joined_once κs x r r' y y' p q = p ∙ sym q

-- where the closure is a test
pub kept_once : (F : RattleType) (l : _) (f : Ghosts F) (a b c d : _) (κs : _) (x : _) (r r' : _) (y y' : _) → kept.Learnt F l f a b c d κs x r y → kept.Learnt F l f a b c d κs x r' y'
    → (test : ℕ → Bool) → ((n : ℕ) (b : Bool) → n < 256 → f.post x.1.0 (n, tt) b → b ≡ test n) → r ≡ r'
kept_once F l f a b c d κs x r r' y y' p q test h = p test h ∙ sym (q test h)

pub without_once : Once without.Learnt
without_once κs x r r' y y' p q = p ∙ sym q

pub rejoined_once : Once rejoined.Learnt
rejoined_once κs x r r' y y' p q = p ∙ sym q

pub to_head_once : Once to-head.Learnt
to_head_once κs x r r' y y' p q = p ∙ sym q

pub joined_all_once : Once joined-all.Learnt
joined_all_once κs x r r' y y' p q = p ∙ sym q

pub first_of_once : Once first_of.Learnt
first_of_once κs x r r' y y' p q = p ∙ sym q

pub last_of_once : Once last_of.Learnt
last_of_once κs x r r' y y' p q = p ∙ sym q

pub mark_of_once : Once mark_of.Learnt
mark_of_once κs x r r' y y' p q = p ∙ sym q

-- the marks may be of any type
pub mark_once : (g : _) (l : _) (m : _) (n : _) (o : _) (κs : _) (x : _) (r r' : _) (y y' : _) → mark.Learnt g l m n o κs x r y → mark.Learnt g l m n o κs x r' y' → y.0.now ≡ y'.0.now
mark_once g l m n o κs x r r' y y' p q = p ∙ sym q

pub marks_of_once : Once marks-of.Learnt
marks_of_once κs x r r' y y' p q = p ∙ sym q

pub picked_once : Once picked.Learnt
picked_once κs x r r' y y' p q = p ∙ sym q

pub put_by_once : Once put-by.Learnt
put_by_once κs x r r' y y' p q = p ∙ sym q
