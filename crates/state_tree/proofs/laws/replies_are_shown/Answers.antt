use Rattle.state_tree.proofs.Shown.{replies_shown}
use Rattle.state_tree.proofs.laws.replies_are_shown.Goals as goal

pub returns : goal.returns
returns g c = replies_shown g.W.Work.value g.met.W.Work.replies
