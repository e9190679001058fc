use Rattle.shared_board.proofs.LookingAgain.{again_found}
use Rattle.shared_board.proofs.laws.again_is_found.Goals as goal

pub returns : goal.returns
returns g c = again_found g.W.Work.value
