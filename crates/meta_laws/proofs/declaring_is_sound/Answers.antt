use Rattle.meta_laws.proofs.Settling.{declaring_is_sound}
use Rattle.meta_laws.proofs.declaring_is_sound.Goals as goal

pub returns : goal.returns
returns c = declaring_is_sound
