use Rattle.std.proofs.Common.{refl, ap₂, ◌∷◌}
use Rattle.elaboration.proofs.Equations.{is_applied, is_asked, is_call, is_function, is_named, is_product, is_wild, none_more, one_more, computes}
use Rattle.elaboration.proofs.Holes.{holes_wild, holes_asked, holes_named, holes_call, holes_applied, holes_function, not_from_the_right}
use Rattle.elaboration.proofs.examples.holes_compute.Goals as goal

pub returns-clause-holes : goal.returns-clause-holes
returns-clause-holes c = holes_call _ _ _ _ (ap₂ ◌∷◌ (holes_wild 6) (ap₂ ◌∷◌ (holes_asked 9) (ap₂ ◌∷◌ (holes_wild 12) (ap₂ ◌∷◌ (holes_asked 15) (ap₂ ◌∷◌ (holes_asked 18) refl)))))

pub returns-clause-head : goal.returns-clause-head
returns-clause-head c = holes_applied _ _ _ _ _ (holes_function _ _ _ _ _ _ (holes_wild 10) (holes_named 16 _)) (ap₂ ◌∷◌ (holes_asked 19) refl)

pub returns-clause-head_first : goal.returns-clause-head_first
returns-clause-head_first c = computes _ _ _ _ _ _ _ (is_applied (is_function is_wild is_named) (one_more is_asked none_more)) refl

pub returns-clause-not_from_the_right : goal.returns-clause-not_from_the_right
returns-clause-not_from_the_right c = not_from_the_right _ 3 6 _ _ (holes_call _ _ _ _ (ap₂ ◌∷◌ (holes_asked 3) (ap₂ ◌∷◌ (holes_asked 6) refl))) refl refl refl

pub returns-clause-gap : goal.returns-clause-gap
returns-clause-gap c = computes _ _ _ _ _ _ _ (is_function (is_product (is_call none_more) (is_call (one_more (is_call (one_more is_wild none_more)) (one_more (is_call none_more) none_more)))) is_asked) refl
