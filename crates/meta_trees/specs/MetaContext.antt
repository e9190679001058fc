-- Metavariable contexts: what is declared of each metavariable. A metavariable is read as an item of the environment whose
-- parameters are its context: without a value it is a primitive, with a value a definition.
use Rattle.std.specs.Prelude.{◌≡◌, ℕ, zero, suc, List, [], ◌∷◌, ◌++◌, Option, Some, None}
use Rattle.ld_trees.specs.Term.{Numbered, Term}
use Rattle.ld_rules.specs.Environment.{Ctx, Item}

-- a metavariable has a context, a type in it, and a value of that type or none yet
pub record Decl : Type 0 where
  pub ctx : Ctx
  pub ty : Term
  pub value : Option Term

-- a finite map from the numbers 0 to n - 1: metavariable m is declared at place m
abbrev pub Metas : Type 0
Metas = List Decl

abbrev pub decl : ℕ → Metas → Option Decl
decl m [] = None
decl zero (d ∷ Σ) = Some d
decl (suc m) (d ∷ Σ) = decl m Σ

-- the item that a metavariable is read as
abbrev pub item : ℕ → Decl → Item
item m d = record { name = Numbered m; params = d.ctx; ty = d.ty; body = d.value }

abbrev pub with_value : Term → Decl → Decl
with_value v d = record { ctx = d.ctx; ty = d.ty; value = Some v }

-- metavariable m gets the value v
abbrev pub assign : ℕ → Term → Metas → Metas
assign m v [] = []
assign zero v (d ∷ Σ) = with_value v d ∷ Σ
assign (suc m) v (d ∷ Σ) = d ∷ assign m v Σ

abbrev pub unassigned : Ctx → Term → Decl
unassigned Γ T = record { ctx = Γ; ty = T; value = None }

-- the next number is declared over a context with a type
abbrev pub declare : Ctx → Term → Metas → Metas
declare Γ T Σ = Σ ++ (unassigned Γ T ∷ [])

-- one metavariable context has the declarations and values of another
pub record KeepsDecl (d c : Decl) : Type 0 where
  pub ctx : d.ctx ≡ c.ctx
  pub ty : d.ty ≡ c.ty
  pub value : (v : Term) → d.value ≡ Some v → c.value ≡ Some v

abbrev pub Keeps : Metas → Metas → Type 0
Keeps Σ Σ' = (m : ℕ) (d : Decl) → decl m Σ ≡ Some d → (c : Decl) × (decl m Σ' ≡ Some c) × KeepsDecl d c
