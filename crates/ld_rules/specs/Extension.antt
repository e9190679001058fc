-- One context or environment in the place of another.
use Rattle.std.specs.Prelude.{◌≡◌, ℕ, Some}
use Rattle.ld_trees.specs.Term.{Head, Term}
use Rattle.ld_trees.specs.Substitution.{rename, subst}
use Rattle.ld_rules.specs.Environment.{Ctx, Env, Item, item_of, type_at}
use Rattle.ld_rules.specs.Derivation.{Derives}

-- the same item, or a definition in the place of a primitive of the same parameters and type
pub record Refines (d c : Item) : Type 0 where
  pub params : d.params ≡ c.params
  pub ty : d.ty ≡ c.ty
  pub body : (M : Term) → d.body ≡ Some M → c.body ≡ Some M

-- the second environment has the items of the first, a primitive perhaps replaced by a definition of the same type
abbrev pub Extends : Env → Env → Type 0
Extends Δ Δ' = (h : Head) (d : Item) → item_of h Δ ≡ Some d → (c : Item) × (item_of h Δ' ≡ Some c) × Refines d c

-- a renaming takes each entry of a context to an entry of the same type in another context
abbrev pub KeepsEntries : Ctx → Ctx → (ℕ → ℕ) → Type 0
KeepsEntries Γ Γ' r = (i : ℕ) (T : Term) → type_at Γ i ≡ Some T → type_at Γ' (r i) ≡ Some (rename r T)

-- a substitution gives each entry of a context a term of its type in another context
abbrev pub Substitutes : Env → Ctx → Ctx → (ℕ → Term) → Type 0
Substitutes Δ Γ Γ' s = (i : ℕ) (T : Term) → type_at Γ i ≡ Some T → Derives Δ Γ' (s i) (subst s T)
