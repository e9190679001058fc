-- Metavariables unfolded so many times over.
use Rattle.std.specs.Prelude.{ℕ, List, Option, Some, None, nat_eq, length, slice_get, if◌then◌else◌}
use Rattle.ld_trees.specs.Term.{Term, Terms}
use Rattle.ld_rules.specs.Expansion.{expand, expand_all}
use Rattle.ld_terms.specs.declared.globals.Decl.{Decl}
use Rattle.meta_trees.specs.MetaContext.{Metas}
use Rattle.meta_laws.specs.Unfolding.{values}

-- a term with values put in for its metavariables, and for those in them, in so many rounds
abbrev pub unfolded : Metas → ℕ → Term → Term
unfolded Σ r t = expand (λ h k. values Σ r h k) t

abbrev pub unfolded_all : Metas → ℕ → Terms → Terms
unfolded_all Σ r us = expand_all (λ h k. values Σ r h k) us

abbrev pub value_with : {H : Type 0} → ℕ → Option (Decl H) → Option H
value_with n None = None
value_with n (Some d) = if nat_eq n (length d.ctx) then d.value else None

-- the value of metavariable m where its context has n entries
abbrev pub value_for : {H : Type 0} → List (Decl H) → ℕ → ℕ → Option H
value_for ds m n = value_with n (slice_get ds m)
