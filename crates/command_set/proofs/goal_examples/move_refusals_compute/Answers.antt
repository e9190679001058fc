use Rattle.std.proofs.Common.{refl}
use Rattle.std.specs.Fmt.{digits}
use Rattle.json.specs.Print.{escape_byte}
use Rattle.command_set.specs.Goals.{move_refusal}
use Rattle.command_set.proofs.goal_examples.move_refusals_compute.Goals as goal

pub returns-clause-syntax : goal.returns-clause-syntax
unfolding move_refusal escape_byte digits
returns-clause-syntax c = refl

pub returns-clause-no_goal : goal.returns-clause-no_goal
unfolding move_refusal escape_byte digits
returns-clause-no_goal c = refl

pub returns-clause-no_assumption : goal.returns-clause-no_assumption
unfolding move_refusal escape_byte digits
returns-clause-no_assumption c = refl

pub returns-clause-not_defined : goal.returns-clause-not_defined
unfolding move_refusal escape_byte digits
returns-clause-not_defined c = refl

pub returns-clause-no_occurrence : goal.returns-clause-no_occurrence
unfolding move_refusal escape_byte digits
returns-clause-no_occurrence c = refl

pub returns-clause-not_product : goal.returns-clause-not_product
unfolding move_refusal escape_byte digits
returns-clause-not_product c = refl

pub returns-clause-unsolved : goal.returns-clause-unsolved
unfolding move_refusal escape_byte digits
returns-clause-unsolved c = refl

pub returns-clause-too_many : goal.returns-clause-too_many
unfolding move_refusal escape_byte digits
returns-clause-too_many c = refl
