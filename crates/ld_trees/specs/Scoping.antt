-- Which variables a term has.
use Rattle.std.specs.Prelude.{ℕ, suc, ◌<◌}
use Rattle.ld_trees.specs.Term.{Term, Srt, Var, App, Lam, Pi, Con, Terms, none, ◌▹◌}

-- each variable is below n
abbrev mutual
  pub Scoped : ℕ → Term → Type 0
  Scoped n (Srt s) = Unit {0}
  Scoped n (Var i) = i < n
  Scoped n (App f a) = Scoped n f × Scoped n a
  Scoped n (Lam A M) = Scoped n A × Scoped (suc n) M
  Scoped n (Pi A B) = Scoped n A × Scoped (suc n) B
  Scoped n (Con h us) = AllScoped n us

  pub AllScoped : ℕ → Terms → Type 0
  AllScoped n none = Unit {0}
  AllScoped n (us ▹ u) = AllScoped n us × Scoped n u
