-- Worked metavariable contexts.
use Rattle.std.specs.Prelude.{[], ◌∷◌, Some, None}
use Rattle.ld_trees.specs.Term.{Star, Var, Pi, Meta, none, ◌▹◌}
use Rattle.meta_trees.specs.MetaContext.{Metas, declare}

-- The value of 0 mentions a later metavariable: ?0 := ?2[?1], ?1 unassigned, and in the context x : * the value ?2 := x -> ?1.
abbrev pub three : Metas
three =
    record { ctx = none; ty = Star; value = Some (Meta 2 (none ▹ Meta 1 none)) }
    ∷ record { ctx = none; ty = Star; value = None }
    ∷ record { ctx = none ▹ Star; ty = Star; value = Some (Pi (Var 0) (Meta 1 none)) }
    ∷ []

-- The type of 1 is 0, so a value of 0 may not mention 1.
abbrev pub typed_by : Metas
typed_by = declare none (Meta 0 none) (declare none Star [])

-- A cycle that no legal one has: 0 has the value 1, which has the value 0.
abbrev pub cycle : Metas
cycle = record { ctx = none; ty = Star; value = Some (Meta 1 none) } ∷ record { ctx = none; ty = Star; value = Some (Meta 0 none) } ∷ []
