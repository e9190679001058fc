-- Which metavariables a term depends on.
use Rattle.std.specs.Prelude.{◌≡◌, ℕ, zero, suc, List, [], ◌∷◌, ◌++◌, Option, Some, None, Bool, true, false, ◌&&◌, ◌||◌, nat_eq, length, if◌then◌else◌}
use Rattle.ld_trees.specs.Term.{Head, Named, Numbered, Term, Srt, Var, App, Lam, Pi, Con, Terms, none, ◌▹◌}
use Rattle.meta_trees.specs.MetaContext.{Decl, Metas, decl}

abbrev pub is_meta : ℕ → Head → Bool
is_meta k (Named a) = false
is_meta k (Numbered m) = nat_eq m k

-- whether metavariable k occurs in a term
abbrev mutual
  pub occurs : ℕ → Term → Bool
  occurs k (Srt s) = false
  occurs k (Var i) = false
  occurs k (App f a) = occurs k f || occurs k a
  occurs k (Lam A M) = occurs k A || occurs k M
  occurs k (Pi A B) = occurs k A || occurs k B
  occurs k (Con h us) = is_meta k h || occurs_in k us

  -- the same of a context, or of several terms
  pub occurs_in : ℕ → Terms → Bool
  occurs_in k none = false
  occurs_in k (us ▹ u) = occurs_in k us || occurs k u

abbrev pub and_value : Terms → Option Term → Terms
and_value X None = X
and_value X (Some v) = X ▹ v

-- the context, the type and the value of a metavariable
abbrev pub parts : Decl → Terms
parts d = and_value (d.ctx ▹ d.ty) d.value

-- The dependencies of a term or context: the least set that holds each metavariable in it and, with m, each metavariable in the
-- context, the type and the value of m. Those of m are the dependencies of its parts.
pub data Depends (Σ : Metas) (X : Terms) : ℕ → Type 0 where
  direct : {k : ℕ} → occurs_in k X ≡ true → Depends Σ X k
  through : {m k : ℕ} (d : Decl) → Depends Σ X m → decl m Σ ≡ Some d → occurs_in k (parts d) ≡ true → Depends Σ X k

-- ---- the same, computed

abbrev pub parts_if : Option Decl → Terms
parts_if None = none
parts_if (Some d) = parts d

abbrev pub parts_of : Metas → ℕ → Terms
parts_of Σ m = parts_if (decl m Σ)

-- whether X depends on k by way of metavariables below n alone
abbrev pub reaches : Metas → ℕ → Terms → ℕ → Bool
reaches Σ zero X k = occurs_in k X
reaches Σ (suc n) X k = reaches Σ n X k || (reaches Σ n X n && reaches Σ n (parts_of Σ n) k)

abbrev pub depends : Metas → Terms → ℕ → Bool
depends Σ X k = reaches Σ (length Σ) X k

-- the numbers below n that pass a test, the least first
abbrev pub below : (ℕ → Bool) → ℕ → List ℕ
below p zero = []
below p (suc n) = below p n ++ (if p n then n ∷ [] else [])

-- the declared dependencies, the least first
abbrev pub dependencies : Metas → Terms → List ℕ
dependencies Σ X = below (depends Σ X) (length Σ)
