-- Legal metavariable contexts.
use Rattle.std.specs.Prelude.{◌≡◌, ℕ, ◌<◌, ◌∷◌, Some, None, true}
use Rattle.ld_trees.specs.Term.{Numbered, ◌▹◌}
use Rattle.ld_rules.specs.Environment.{Env, item_of}
use Rattle.ld_rules.specs.Legality.{IsLegalEnvironment}
use Rattle.meta_trees.specs.MetaContext.{Decl, Metas, decl, item}
use Rattle.meta_trees.specs.Dependencies.{occurs_in, parts, Depends}
use Rattle.meta_laws.specs.Cut.{cut}

-- an environment of constants: no item has the name of a metavariable
abbrev pub HasNoMetas : Env → Type 0
HasNoMetas Δ = (m : ℕ) → item_of (Numbered m) Δ ≡ None

-- A metavariable context is legal over a legal environment of constants where the context and type of each m hold only
-- metavariables with smaller numbers, no m is among its own dependencies, and for each m the environment cut to m's
-- dependencies, followed by the item of m, is legal.
pub record IsLegalMetas (Δ : Env) (Σ : Metas) : Type 0 where
  pub constants : HasNoMetas Δ
  pub environment : IsLegalEnvironment Δ
  pub smaller : (m k : ℕ) (d : Decl) → decl m Σ ≡ Some d → occurs_in k (d.ctx ▹ d.ty) ≡ true → k < m
  pub acyclic : (m : ℕ) (d : Decl) → decl m Σ ≡ Some d → ¬ Depends Σ (parts d) m
  pub items : (m : ℕ) (d : Decl) → decl m Σ ≡ Some d → IsLegalEnvironment (item m d ∷ cut Σ Δ (parts d))
