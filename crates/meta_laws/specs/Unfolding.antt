-- Assigned metavariables unfolded, and the value of a solved state.
use Rattle.std.specs.Prelude.{◌≡◌, ℕ, zero, suc, Option, Some, None, option_map, nat_eq, length, if◌then◌else◌}
use Rattle.ld_trees.specs.Term.{Head, Named, Numbered, Term, Meta, Terms, none, count}
use Rattle.ld_rules.specs.Expansion.{Bodies, expand, expand_all}
use Rattle.meta_trees.specs.MetaContext.{Decl, Metas, decl}
use Rattle.meta_trees.specs.Dependencies.{Depends}

-- the value of a declaration at exactly one argument per entry of its context, with some bodies expanded in it
abbrev pub value_in : Bodies → ℕ → Option Decl → Option Term
value_in V n None = None
value_in V n (Some d) = if nat_eq n (count d.ctx) then option_map (λ v. expand V v) d.value else None

-- the values of metavariables, with values put in for the metavariables in them r - 1 times
abbrev pub values : Metas → ℕ → Head → ℕ → Option Term
values Σ zero h n = None
values Σ (suc r) (Named a) n = None
values Σ (suc r) (Numbered m) n = value_in (λ h k. values Σ r h k) n (decl m Σ)

-- Each assigned metavariable replaced by its value, repeatedly, and nothing else reduced. As dependencies have no cycle, as many
-- rounds as there are metavariables are enough.
abbrev pub unfold_metas : Metas → Term → Term
unfold_metas Σ t = expand (λ h k. values Σ (length Σ) h k) t

abbrev pub unfold_all_metas : Metas → Terms → Terms
unfold_all_metas Σ us = expand_all (λ h k. values Σ (length Σ) h k) us

-- metavariable 0 unfolded
abbrev pub value_of_root : Metas → Term
value_of_root Σ = unfold_metas Σ (Meta 0 none)

-- each dependency has a value
abbrev pub AreAssigned : Metas → Terms → Type 0
AreAssigned Σ X = (m : ℕ) (d : Decl) → Depends Σ X m → decl m Σ ≡ Some d → (v : Term) × (d.value ≡ Some v)

-- each metavariable has a value
abbrev pub IsSolved : Metas → Type 0
IsSolved Σ = (m : ℕ) (d : Decl) → decl m Σ ≡ Some d → (v : Term) × (d.value ≡ Some v)
