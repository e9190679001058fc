-- An application to several arguments as a head with a list.
use Rattle.std.specs.Prelude.{List, [], ◌∷◌}
use Rattle.ld_trees.specs.Term.{Term, App}

-- a term with arguments, the last argument first in the list
abbrev pub applied : Term → List Term → Term
applied t [] = t
applied t (u ∷ us) = App (applied t us) u
