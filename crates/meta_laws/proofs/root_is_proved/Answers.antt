use Rattle.meta_laws.proofs.Solved.{root_is_proved}
use Rattle.meta_laws.proofs.root_is_proved.Goals as goal

pub returns : goal.returns
returns c = root_is_proved
