-- Which variables a context has, and which constants a term has.
use Rattle.std.specs.Prelude.{◌≡◌, ℕ, Some}
use Rattle.ld_trees.specs.Term.{Head, Term, Srt, Var, App, Lam, Pi, Con, Terms, none, ◌▹◌, count}
use Rattle.ld_trees.specs.Scoping.{Scoped}
use Rattle.ld_rules.specs.Environment.{Ctx, Env, Item, item_of}

-- the type of each entry has the variables of the entries before it
abbrev pub ContextScoped : Ctx → Type 0
ContextScoped none = Unit {0}
ContextScoped (Γ ▹ A) = ContextScoped Γ × Scoped (count Γ) A

-- the constant is an item of the environment with as many parameters
abbrev pub IsKnown : Env → Head → ℕ → Type 0
IsKnown Δ h n = (d : Item) × (item_of h Δ ≡ Some d) × (n ≡ count d.params)

-- each constant is in the environment and has exactly one argument per parameter
abbrev mutual
  pub Known : Env → Term → Type 0
  Known Δ (Srt s) = Unit {0}
  Known Δ (Var i) = Unit {0}
  Known Δ (App f a) = Known Δ f × Known Δ a
  Known Δ (Lam A M) = Known Δ A × Known Δ M
  Known Δ (Pi A B) = Known Δ A × Known Δ B
  Known Δ (Con h us) = IsKnown Δ h (count us) × AllKnown Δ us

  pub AllKnown : Env → Terms → Type 0
  AllKnown Δ none = Unit {0}
  AllKnown Δ (us ▹ u) = AllKnown Δ us × Known Δ u

-- a term is scoped in an environment and a context
abbrev pub IsScoped : Env → Ctx → Term → Type 0
IsScoped Δ Γ t = Scoped (count Γ) t × Known Δ t
