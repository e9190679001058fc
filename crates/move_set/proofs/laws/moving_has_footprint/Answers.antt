use Rattle.move_set.proofs.States.{moving_has_footprint, independent_goals_stay}
use Rattle.move_set.proofs.Independent.{uncoupled_goals_stay, other_goals_stay}
use Rattle.move_set.proofs.laws.moving_has_footprint.Goals as goal

pub returns-clause-assigned : goal.returns-clause-assigned
returns-clause-assigned c = moving_has_footprint

pub returns-clause-independent : goal.returns-clause-independent
returns-clause-independent c = independent_goals_stay

pub returns-clause-uncoupled : goal.returns-clause-uncoupled
returns-clause-uncoupled c = uncoupled_goals_stay

pub returns-clause-others : goal.returns-clause-others
returns-clause-others c = other_goals_stay
