use Rattle.coupling.proofs.Coupling.{dormant_goals_count}
use Rattle.coupling.proofs.laws.dormant_goals_count.Goals as goal

pub returns : goal.returns
returns c = dormant_goals_count
