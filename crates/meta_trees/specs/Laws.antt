-- The law of dependencies that this crate proves.
use Rattle.std.specs.Prelude.{◌≡◌, ◌↔◌, ℕ, true}
use Rattle.ld_trees.specs.Term.{Terms}
use Rattle.meta_trees.specs.MetaContext.{Metas}
use Rattle.meta_trees.specs.Dependencies.{Depends, depends}

-- the test of dependency decides it
abbrev pub DependencyIsDecided : Type 0
DependencyIsDecided = (Σ : Metas) (X : Terms) (k : ℕ) → Depends Σ X k ↔ (depends Σ X k ≡ true)
