-- A worked metavariable context whose order the least numbers decide.
use Rattle.std.specs.Prelude.{[], ◌∷◌, Some, None}
use Rattle.ld_trees.specs.Term.{Star, Meta, none}
use Rattle.meta_trees.specs.MetaContext.{Metas}

-- Each of 0 to 4 has the value before it, 0 has 5, and 6 and 7 hang on nothing.
abbrev pub chain : Metas
chain =
    record { ctx = none; ty = Star; value = Some (Meta 5 none) }
    ∷ record { ctx = none; ty = Star; value = Some (Meta 0 none) }
    ∷ record { ctx = none; ty = Star; value = Some (Meta 1 none) }
    ∷ record { ctx = none; ty = Star; value = Some (Meta 2 none) }
    ∷ record { ctx = none; ty = Star; value = Some (Meta 3 none) }
    ∷ record { ctx = none; ty = Star; value = None }
    ∷ record { ctx = none; ty = Star; value = None }
    ∷ record { ctx = none; ty = Star; value = None }
    ∷ []
