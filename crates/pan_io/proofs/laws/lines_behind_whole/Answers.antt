use Rattle.pan_io.proofs.TextLemmas.{lines_behind, whole_lines_behind}
use Rattle.pan_io.proofs.laws.lines_behind_whole.Goals as goal

pub returns : goal.returns
returns c = λ seen more whole. (lines_behind seen more whole, whole_lines_behind seen more whole)
