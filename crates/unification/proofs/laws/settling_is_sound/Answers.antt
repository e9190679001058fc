use Rattle.unification.proofs.Sound.{settling_is_sound}
use Rattle.unification.proofs.laws.settling_is_sound.Goals as goal

pub returns : goal.returns
returns c = settling_is_sound
