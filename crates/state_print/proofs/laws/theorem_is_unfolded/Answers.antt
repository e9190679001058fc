use Rattle.state_print.proofs.Theorem.{theorem_is_unfolded}
use Rattle.state_print.proofs.laws.theorem_is_unfolded.Goals as goal

pub returns : goal.returns
returns c = theorem_is_unfolded
