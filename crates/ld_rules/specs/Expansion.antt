-- Definitions expanded: each use in a term replaced by the body.
use Rattle.std.specs.Prelude.{◌≡◌, ℕ, Option, Some, None, ◌&&◌, nat_eq, if◌then◌else◌, ◌⊎◌}
use Rattle.ld_trees.specs.Term.{Head, Term, Srt, Var, App, Lam, Pi, Con, Terms, none, ◌▹◌, count, same_head}
use Rattle.ld_trees.specs.Substitution.{subst_all}
use Rattle.ld_rules.specs.Environment.{Env, Item, item_of}
use Rattle.ld_rules.specs.Derivation.{Derives}
use Rattle.ld_trees.specs.Scoping.{Scoped}

-- which bodies stand for constants, each by the constant's name and its number of arguments
abbrev pub Bodies : Type 0
Bodies = Head → ℕ → Option Term

abbrev pub expanded : Option Term → Head → Terms → Term
expanded None h us = Con h us
expanded (Some B) h us = subst_all us B

-- each constant that has a body replaced by it, with the expanded arguments put in
abbrev mutual
  pub expand : Bodies → Term → Term
  expand V (Srt s) = Srt s
  expand V (Var i) = Var i
  expand V (App f a) = App (expand V f) (expand V a)
  expand V (Lam A M) = Lam (expand V A) (expand V M)
  expand V (Pi A B) = Pi (expand V A) (expand V B)
  expand V (Con h us) = expanded (V h (count us)) h (expand_all V us)

  pub expand_all : Bodies → Terms → Terms
  expand_all V none = none
  expand_all V (us ▹ u) = expand_all V us ▹ expand V u

-- the body of one item, at exactly one argument per parameter
abbrev pub body_of : Item → Bodies
body_of d h n = if same_head h d.name && nat_eq n (count d.params) then d.body else None

-- each body has the variables of its parameters alone
abbrev pub BodiesScoped : Bodies → Type 0
BodiesScoped V = (h : Head) (n : ℕ) (B : Term) → V h n ≡ Some B → Scoped n B

-- an item that stays: the environment has it expanded
pub record Stays (V : Bodies) (Δ : Env) (h : Head) (d : Item) : Type 0 where
  pub item : Item
  pub found : item_of h Δ ≡ Some item
  pub other : (n : ℕ) → V h n ≡ None
  pub params : expand_all V d.params ≡ item.params
  pub ty : expand V d.ty ≡ item.ty
  pub body : (M : Term) → d.body ≡ Some M → item.body ≡ Some (expand V M)

-- An item that is removed: it is expanded to a term that has its type in the environment, the expanded body where it has one.
pub record Goes (V : Bodies) (Δ : Env) (h : Head) (d : Item) : Type 0 where
  pub value : Term
  pub is : V h (count d.params) ≡ Some value
  pub body : (M : Term) → d.body ≡ Some M → expand V M ≡ value
  pub derives : Derives Δ (expand_all V d.params) value (expand V d.ty)

-- each item of the first environment stays in the second one or is removed
abbrev pub Expands : Bodies → Env → Env → Type 0
Expands V E Δ = (h : Head) (d : Item) → item_of h E ≡ Some d → Stays V Δ h d ⊎ Goes V Δ h d
