use Rattle.std.proofs.Common.{refl}
use Rattle.state_tree.specs.Marks.{marks_of}
use Rattle.state_tree.specs.Server.{answer}
use Rattle.state_tree.proofs.worked_rows.marks_compute.Goals as goal

pub returns : goal.returns
unfolding marks_of answer
returns c = record { marks = refl }
