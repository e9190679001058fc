-- Applying a term to new metavariables until its type is the goal's.
use Rattle.std.specs.Prelude.{ℕ, zero, suc, List, [], ◌∷◌, ◌++◌, length}
use Rattle.ld_trees.specs.Term.{Term, App, Pi, none, ◌▹◌}
use Rattle.ld_trees.specs.Substitution.{subst_all}
use Rattle.ld_rules.specs.Environment.{Env}
use Rattle.ld_terms.specs.declared.globals.Decl.{Decl}
use Rattle.conversion.specs.WeakHead.{whnf}
use Rattle.unification.specs.Steps.{OutOfFuel, pure, refuse, ◌>>=◌, or_else}
use Rattle.unification.specs.Refusals.{Plain}
use Rattle.unification.specs.Metavariables.{reach, declared}
use Rattle.unification.specs.Patterns.{over_all}
use Rattle.unification.specs.Unification.{unify}
use Rattle.move_set.specs.Refusals.{Refusal, Step, unify_step, kernel_step}

-- a term with its type, applied so far to these new metavariables
pub record Application : Type 0 where
  pub metas : Plain
  pub args : List ℕ
  pub term : Term
  pub ty : Term

-- An application to metavariable m over all variables of a context of so many entries, in these metavariables, of a term with that many
-- arguments so far, where the codomain of its type is given.
abbrev pub longer : Plain → List ℕ → Term → Term → ℕ → ℕ → Application
longer metas args t B m n = let u = over_all m n in record { metas = metas; args = args ++ m ∷ []; term = App t u; ty = subst_all (none ▹ u) B }

-- the domain and the codomain of a product
abbrev pub parts_or : Refusal → Term → Step (Term × Term)
parts_or r (Pi A B) = pure (A, B)
parts_or r _ = refuse r

-- the domain and the codomain of a type's weak head form where that is a product, else a refusal
abbrev pub product_of : Env → Refusal → Plain → Term → Step (Term × Term)
product_of Δ r metas T = do
  F ← kernel_step (whnf (reach Δ metas) T)
  parts_or r F

abbrev pub Applies : Type 0
Applies = Application → Step Application

-- the goal has the declaration d
module _ (Δ : Env) (d : Decl Term) where
  -- the type is the goal's in these metavariables
  abbrev pub fitted : Application → Step Application
  fitted a = do
    metas ← unify_step (unify Δ a.metas (length d.ctx) a.ty d.ty)
    pure (record { metas = metas; args = a.args; term = a.term; ty = a.ty })

  -- The application to one more metavariable, over the goal's context, where the type at weak head form is a product; else the refusal
  -- that was the last.
  abbrev pub applied : Refusal → Application → Step Application
  applied r a = do
    (A, B) ← product_of Δ r a.metas a.ty
    more ← unify_step (declared Δ a.metas d.ctx A)
    pure (longer more a.args a.term B (length a.metas) (length d.ctx))

  -- the types are unified; where that is refused it is given up, and tried again with one more argument
  abbrev pub apply_step : Applies → Applies
  apply_step again a = or_else (fitted a) (λ r. applied r a >>= again)

  -- At most so many further arguments. A refused unification has spent a unit, so the units at hand bound them.
  abbrev pub apply_deep : ℕ → Applies
  apply_deep zero = apply_step (λ a n. OutOfFuel)
  apply_deep (suc g) = apply_step (λ a. apply_deep g a)

  abbrev pub apply : Applies
  apply a n = apply_deep n a n
