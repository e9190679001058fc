-- Declaring and assigning metavariables, over the handles of a store.
use Rattle.std.specs.Prelude.{◌≡◌, ℕ, zero, suc, List, [], ◌∷◌, ◌++◌, length, slice_get, Some, None, true, false, Result, Ok, Err}
use Rattle.ld_trees.specs.Term.{Term, none, ◌▹◌}
use Rattle.ld_terms.specs.declared.globals.Local.{Local}
use Rattle.ld_terms.specs.declared.globals.Decl.{Decl}
use Rattle.conversion.specs.Globals.{context_of}
use Rattle.meta_context.specs.Limits.{is_full, is_too_deep}
use Rattle.meta_context.specs.declared.fault.MetaFault.{MetaFault}
use Rattle.meta_context.specs.declared.fault.MetaFault.TheVariants.{TooManyMetas, TooDeep, Memory}

-- a metavariable with a context and a type, which has no value yet
abbrev pub unassigned : {H : Type 0} → List (Local H) → H → Decl H
unassigned Γ T = record { ctx = Γ; ty = T; value = None }

-- the same metavariable with a value
abbrev pub with_value : {H : Type 0} → H → Decl H → Decl H
with_value v d = record { ctx = d.ctx; ty = d.ty; value = Some v }

-- the next number is declared over a context with a type
abbrev pub declared : {H : Type 0} → List (Local H) → H → List (Decl H) → List (Decl H)
declared Γ T ds = ds ++ (unassigned Γ T ∷ [])

-- metavariable m gets the value v
abbrev pub assigned : {H : Type 0} → ℕ → H → List (Decl H) → List (Decl H)
assigned m v [] = []
assigned zero v (d ∷ ds) = with_value v d ∷ ds
assigned (suc m) v (d ∷ ds) = d ∷ assigned m v ds

-- m is declared and has no value
abbrev pub IsOpen : {H : Type 0} → List (Decl H) → ℕ → Type 0
IsOpen {H} ds m = (d : Decl H) × (slice_get ds m ≡ Some d) × (d.value ≡ None)

-- Declaring gives the further metavariable and its number where there is room and no type is too deep. It is refused where there are
-- as many as there can be, and else where a type is too deep, with the number that the metavariable would have. Want of memory may
-- come at any time.
abbrev pub Declares : {H : Type 0} → (H → Term) → List (Decl H) → List (Local H) → H → Result (List (Decl H) × ℕ) MetaFault → Type 0
Declares means ds Γ T (Ok r) = (is_full ds ≡ false) × (is_too_deep (context_of means Γ ▹ means T) ≡ false) × (r.0 ≡ declared Γ T ds) × (r.1 ≡ length ds)
Declares means ds Γ T (Err TooManyMetas) = is_full ds ≡ true
Declares means ds Γ T (Err (TooDeep m)) = (is_full ds ≡ false) × (is_too_deep (context_of means Γ ▹ means T) ≡ true) × (m ≡ length ds)
Declares means ds Γ T (Err Memory) = Unit {0}

-- Assigning gives metavariable m the value v where it isn't too deep, and is refused with that number where it is. Want of memory may
-- come at any time.
abbrev pub Assigns : {H : Type 0} → (H → Term) → List (Decl H) → ℕ → H → Result (List (Decl H)) MetaFault → Type 0
Assigns means ds m v (Ok r) = (is_too_deep (none ▹ means v) ≡ false) × (r ≡ assigned m v ds)
Assigns means ds m v (Err TooManyMetas) = ⊥
Assigns means ds m v (Err (TooDeep k)) = (is_too_deep (none ▹ means v) ≡ true) × (k ≡ m)
Assigns means ds m v (Err Memory) = Unit {0}
