use Rattle.state_tree.proofs.Looks.{found_again}
use Rattle.state_tree.proofs.laws.looked_up_is_entered.Goals as goal

pub returns : goal.returns
returns g c = found_again
