-- The environment in which an engine looks up constants and metavariables.
use Rattle.std.specs.Prelude.{ℕ, suc, [], ◌∷◌}
use Rattle.ld_rules.specs.Environment.{Env}
use Rattle.meta_trees.specs.MetaContext.{Metas, item}

-- an environment followed by the items of declarations, the first one with number m
abbrev pub with_all : ℕ → Metas → Env → Env
with_all m [] Δ = Δ
with_all m (d ∷ Σ) Δ = with_all (suc m) Σ (item m d ∷ Δ)

-- an environment followed by every metavariable, by its number
abbrev pub whole : Metas → Env → Env
whole Σ Δ = with_all 0 Σ Δ
