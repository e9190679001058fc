use Rattle.state_tree.proofs.Stays.{holds_beyond}
use Rattle.state_tree.proofs.laws.found_stays.Goals as goal

pub returns : goal.returns
returns g c = holds_beyond g.W.Work.value
