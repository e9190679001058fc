use Rattle.unification.proofs.Sound.{unifying_is_sound}
use Rattle.unification.proofs.laws.unifying_is_sound.Goals as goal

pub returns : goal.returns
returns c = unifying_is_sound
