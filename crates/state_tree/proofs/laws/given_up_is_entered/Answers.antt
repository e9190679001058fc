use Rattle.state_tree.proofs.Looks.{refused_again}
use Rattle.state_tree.proofs.laws.given_up_is_entered.Goals as goal

pub returns : goal.returns
returns g c = refused_again
