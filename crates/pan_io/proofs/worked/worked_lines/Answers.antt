use Rattle.std.proofs.Common.{refl}
use Rattle.pan_io.specs.Text.{lines_of, whole_lines_of}
use Rattle.pan_io.proofs.worked.worked_lines.Goals as goal

pub returns : goal.returns
unfolding lines_of whole_lines_of
returns c = ((refl, refl), (refl, refl), (refl, refl), (refl, refl), (refl, refl), (refl, refl), (refl, refl))
