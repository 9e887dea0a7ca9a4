-- Any two answers that the contract of a public function allows are equal.
-- Assumes nothing.
use Rattle.std.proofs.Common.{sym, ◌∙◌}
use Rattle.lists.specs.Once.{Once}
use Rattle.soundness.proofs.is_sound.Reads as is-sound
use Rattle.soundness.proofs.parts_sound.Reads as parts-sound
use Rattle.soundness.proofs.is_sound_second.Reads as is-sound-second
use Rattle.soundness.proofs.rows_sound.Reads as rows-sound

pub is_sound_once : Once is-sound.Learnt
is_sound_once κs x r r' y y' p q = p ∙ sym q

pub parts_sound_once : Once parts-sound.Learnt
parts_sound_once κs x r r' y y' p q = p ∙ sym q

pub is_sound_second_once : Once is-sound-second.Learnt
is_sound_second_once κs x r r' y y' p q = p ∙ sym q

pub rows_sound_once : Once rows-sound.Learnt
rows_sound_once κs x r r' y y' p q = p ∙ sym q
