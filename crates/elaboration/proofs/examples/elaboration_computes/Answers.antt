use Rattle.std.proofs.Common.{refl}
use Rattle.elaboration.proofs.Equations.{is_applied, is_asked, is_call, is_function, is_named, is_product, is_star, is_wild, none_more, one_more, computes}
use Rattle.elaboration.proofs.examples.elaboration_computes.Goals as goal

pub returns-clause-hole : goal.returns-clause-hole
returns-clause-hole c = computes _ _ _ _ _ _ _ is_asked refl

pub returns-clause-noted : goal.returns-clause-noted
returns-clause-noted c = computes _ _ _ _ _ _ _ is_wild refl

pub returns-clause-too_few : goal.returns-clause-too_few
returns-clause-too_few c = computes _ _ _ _ _ _ _ is_asked refl

pub returns-clause-type_hole : goal.returns-clause-type_hole
returns-clause-type_hole c = computes _ _ _ _ _ _ _ is_asked refl

pub returns-clause-goals : goal.returns-clause-goals
returns-clause-goals c = computes _ _ _ _ _ _ _ (is_call (one_more (is_call none_more) (one_more is_asked (one_more (is_call none_more) (one_more is_asked (one_more is_asked none_more)))))) refl

pub returns-clause-goals_too_few : goal.returns-clause-goals_too_few
returns-clause-goals_too_few c = computes _ _ _ _ _ _ _ (is_call (one_more (is_call none_more) (one_more is_asked (one_more (is_call none_more) (one_more is_asked (one_more is_asked none_more)))))) refl

pub returns-clause-solved : goal.returns-clause-solved
returns-clause-solved c = computes _ _ _ _ _ _ _ (is_call none_more) refl

pub returns-clause-solved_too_few : goal.returns-clause-solved_too_few
returns-clause-solved_too_few c = computes _ _ _ _ _ _ _ (is_call none_more) refl

pub returns-clause-holes : goal.returns-clause-holes
returns-clause-holes c = computes _ _ _ _ _ _ _ (is_call (one_more is_wild (one_more is_asked (one_more is_wild (one_more is_asked (one_more is_asked none_more)))))) refl

pub returns-clause-argument_found : goal.returns-clause-argument_found
returns-clause-argument_found c = computes _ _ _ _ _ _ _ (is_call (one_more is_wild none_more)) refl

pub returns-clause-abstraction : goal.returns-clause-abstraction
returns-clause-abstraction c = computes _ _ _ _ _ _ _ (is_function is_named is_named) refl

pub returns-clause-alone : goal.returns-clause-alone
returns-clause-alone c = computes _ _ _ _ _ _ _ (is_function is_named is_named) refl

pub returns-clause-alone_too_few : goal.returns-clause-alone_too_few
returns-clause-alone_too_few c = computes _ _ _ _ _ _ _ (is_function is_named is_named) refl

pub returns-clause-typed : goal.returns-clause-typed
returns-clause-typed c = computes _ _ _ _ _ _ _ (is_product is_star (is_product is_named is_named)) refl

pub returns-clause-by_level : goal.returns-clause-by_level
returns-clause-by_level c = computes _ _ _ _ _ _ _ is_named refl

pub returns-clause-two_arguments : goal.returns-clause-two_arguments
returns-clause-two_arguments c = computes _ _ _ _ _ _ _ (is_applied (is_function is_star (is_function is_named is_named)) (one_more is_named (one_more is_named none_more))) refl

pub returns-clause-argument_asked : goal.returns-clause-argument_asked
returns-clause-argument_asked c = computes _ _ _ _ _ _ _ (is_call (one_more is_asked none_more)) refl

pub returns-clause-domain_found : goal.returns-clause-domain_found
returns-clause-domain_found c = computes _ _ _ _ _ _ _ (is_function is_wild is_named) refl

pub returns-clause-unfolded : goal.returns-clause-unfolded
returns-clause-unfolded c = computes _ _ _ _ _ _ _ (is_function is_named is_named) refl
