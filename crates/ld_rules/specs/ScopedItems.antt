-- Scoped terms at a depth, environments of scoped items, and what holds of each constant of a term.
use Rattle.std.specs.Prelude.{◌≡◌, ℕ, Contains, Some}
use Rattle.ld_trees.specs.Term.{Head, Term, Srt, Var, App, Lam, Pi, Con, Terms, none, ◌▹◌}
use Rattle.ld_rules.specs.Environment.{Ctx, Env, Item, item_of}
use Rattle.ld_trees.specs.Scoping.{Scoped}
use Rattle.ld_rules.specs.Scoping.{ContextScoped, Known, AllKnown, IsScoped}

-- a term is scoped in an environment and a context of so many entries
abbrev pub IsScopedAt : Env → ℕ → Term → Type 0
IsScopedAt Δ n t = Scoped n t × Known Δ t

-- an item whose parameters are scoped, and in them its type and its body
pub record IsScopedItem (Δ : Env) (d : Item) : Type 0 where
  pub params : ContextScoped d.params
  pub params_known : AllKnown Δ d.params
  pub ty : IsScoped Δ d.params d.ty
  pub body : (M : Term) → d.body ≡ Some M → IsScoped Δ d.params M

abbrev pub HasScopedItems : Env → Type 0
HasScopedItems Δ = (h : Head) (d : Item) → item_of h Δ ≡ Some d → IsScopedItem Δ d

-- the items of an environment and the entries of a context are scoped
pub record AreScoped (Δ : Env) (Γ : Ctx) : Type 0 where
  pub items : HasScopedItems Δ
  pub entries : ContextScoped Γ
  pub entries_known : AllKnown Δ Γ

-- the property holds of each constant and metavariable of a term
abbrev mutual
  pub EachHead : (Head → Type 0) → Term → Type 0
  EachHead P (Srt s) = Unit {0}
  EachHead P (Var i) = Unit {0}
  EachHead P (App f a) = EachHead P f × EachHead P a
  EachHead P (Lam A M) = EachHead P A × EachHead P M
  EachHead P (Pi A B) = EachHead P A × EachHead P B
  EachHead P (Con h us) = P h × EachHeadOfAll P us

  pub EachHeadOfAll : (Head → Type 0) → Terms → Type 0
  EachHeadOfAll P none = Unit {0}
  EachHeadOfAll P (us ▹ u) = EachHeadOfAll P us × EachHead P u

-- an item of the environment has the name
abbrev pub IsNameIn : Env → Head → Type 0
IsNameIn Δ h = (d : Item) × Contains Δ d × (d.name ≡ h)
