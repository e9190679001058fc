use Rattle.std.proofs.Common.{refl}
use Rattle.command_line.proofs.worked.worked_forms.Goals as goal

pub returns : goal.returns
returns c = (refl, refl, refl, refl, refl, refl, refl, refl, refl, refl, refl, refl, refl)
