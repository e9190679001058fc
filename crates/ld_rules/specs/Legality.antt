-- Legal environments and contexts, and valid types.
use Rattle.std.specs.Prelude.{◌≡◌, ◌⊎◌, Some, None}
use Rattle.ld_trees.specs.Term.{Sort, Term, Srt, Star, Square, none}
use Rattle.ld_rules.specs.Environment.{Ctx, Env, Item, item_of}
use Rattle.ld_rules.specs.Derivation.{Derives}

-- an environment is legal where `*` has type `□` in it and the empty context
abbrev pub IsLegalEnvironment : Env → Type 0
IsLegalEnvironment Δ = Derives Δ none Star Square

-- a context is legal in an environment where `*` has type `□` in both
abbrev pub IsLegal : Env → Ctx → Type 0
IsLegal Δ Γ = Derives Δ Γ Star Square

-- a type is valid: the upper sort, or a term that has a sort
abbrev pub IsValid : Env → Ctx → Term → Type 0
IsValid Δ Γ B = (B ≡ Square) ⊎ ((s : Sort) × Derives Δ Γ B (Srt s))

-- an item may be added to an environment: its name is new, and in the context of its parameters a definition's body has the
-- item's type, a primitive's type has a sort
pub record MayBeAdded (Δ : Env) (d : Item) : Type 0 where
  pub fresh : item_of d.name Δ ≡ None
  pub body : (M : Term) → d.body ≡ Some M → Derives Δ d.params M d.ty
  pub primitive : d.body ≡ None → (s : Sort) × Derives Δ d.params d.ty (Srt s)
