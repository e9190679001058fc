use Rattle.std.proofs.Common.{refl}
use Rattle.elaboration.proofs.Equations.{is_applied, is_asked, is_call, is_function, is_named, is_product, is_star, is_wild, none_more, one_more, computes}
use Rattle.elaboration.proofs.examples.elaboration_refuses.Goals as goal

pub returns-clause-unknown : goal.returns-clause-unknown
returns-clause-unknown c = computes _ _ _ _ _ _ _ is_named refl

pub returns-clause-unknown_constant : goal.returns-clause-unknown_constant
returns-clause-unknown_constant c = computes _ _ _ _ _ _ _ (is_call none_more) refl

pub returns-clause-unknown_level : goal.returns-clause-unknown_level
returns-clause-unknown_level c = computes _ _ _ _ _ _ _ (is_product is_star (is_product is_named is_named)) refl

pub returns-clause-count : goal.returns-clause-count
returns-clause-count c = computes _ _ _ _ _ _ _ (is_call (one_more (is_call none_more) none_more)) refl

pub returns-clause-no_type : goal.returns-clause-no_type
returns-clause-no_type c = computes _ _ _ _ _ _ _ is_asked refl

pub returns-clause-no_type_wild : goal.returns-clause-no_type_wild
returns-clause-no_type_wild c = computes _ _ _ _ _ _ _ is_wild refl

pub returns-clause-no_function : goal.returns-clause-no_function
returns-clause-no_function c = computes _ _ _ _ _ _ _ (is_applied is_star (one_more is_star none_more)) refl

pub returns-clause-no_sort : goal.returns-clause-no_sort
returns-clause-no_sort c = computes _ _ _ _ _ _ _ is_named refl

pub returns-clause-upper_body : goal.returns-clause-upper_body
returns-clause-upper_body c = computes _ _ _ _ _ _ _ (is_function is_star is_star) refl

pub returns-clause-misfit : goal.returns-clause-misfit
returns-clause-misfit c = computes _ _ _ _ _ _ _ is_named refl

pub returns-clause-other_domain : goal.returns-clause-other_domain
returns-clause-other_domain c = computes _ _ _ _ _ _ _ (is_function (is_call (one_more (is_call none_more) (one_more (is_call none_more) none_more))) is_named) refl

pub returns-clause-other_argument : goal.returns-clause-other_argument
returns-clause-other_argument c = computes _ _ _ _ _ _ _ (is_applied (is_function is_star is_named) (one_more is_star none_more)) refl

pub returns-clause-no_pattern : goal.returns-clause-no_pattern
returns-clause-no_pattern c = computes _ _ _ _ _ _ _ (is_call (one_more is_wild (one_more (is_call none_more) none_more))) refl

pub returns-clause-cycle : goal.returns-clause-cycle
returns-clause-cycle c = computes _ _ _ _ _ _ _ (is_call (one_more is_wild none_more)) refl

pub returns-clause-no_product : goal.returns-clause-no_product
returns-clause-no_product c = computes _ _ _ _ _ _ _ (is_function is_named is_named) refl

pub returns-clause-other_unfolded : goal.returns-clause-other_unfolded
returns-clause-other_unfolded c = computes _ _ _ _ _ _ _ (is_function is_named is_named) refl

pub returns-clause-no_function_unfolded : goal.returns-clause-no_function_unfolded
returns-clause-no_function_unfolded c = computes _ _ _ _ _ _ _ (is_applied is_named (one_more is_named none_more)) refl
