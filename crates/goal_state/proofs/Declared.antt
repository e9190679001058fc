-- Declarations over handles of a store, after a metavariable is declared or gets a value.
use Rattle.std.proofs.Common.{ℕ, zero, suc, List, [], ◌∷◌, All, arith}
use Rattle.ld_terms.specs.declared.globals.Decl.{Decl}
use Rattle.ld_terms.specs.declared.globals.Local.{Local}
use Rattle.conversion.specs.Globals.{AreLocals, IsDeclOf}
use Rattle.meta_context.specs.Declaring.{assigned, declared, unassigned, with_value}

tail_all : {X : Type 0} (P : X → Type 0) (x : X) (xs : List X) → All P (x ∷ xs) → All P xs
tail_all P x xs a i d l = a (suc i) d (omega arith)

all_cons : {X : Type 0} (P : X → Type 0) (x : X) (xs : List X) → P x → All P xs → All P (x ∷ xs)
all_cons P x xs h a zero d l = h
all_cons P x xs h a (suc k) d l = a k d (omega arith)

module _ {H : Type 0} (holds : H → Type 0) where
  pub assigned_held : (m : ℕ) (v : H) (ds : List (Decl H)) → All (IsDeclOf holds) ds → holds v → All (IsDeclOf holds) (assigned m v ds)
  assigned_held m v [] a h = a
  assigned_held zero v (d ∷ ds) a h = let x = a 0 d (omega arith) in all_cons (IsDeclOf holds) (with_value v d) ds (record { ctx = x.ctx; ty = x.ty; value = h }) (tail_all (IsDeclOf holds) d ds a)
  assigned_held (suc m) v (d ∷ ds) a h = all_cons (IsDeclOf holds) d (assigned m v ds) (a 0 d (omega arith)) (assigned_held m v ds (tail_all (IsDeclOf holds) d ds a) h)

  pub declared_held : (Γ : List (Local H)) (T : H) (ds : List (Decl H)) → All (IsDeclOf holds) ds → AreLocals holds Γ → holds T → All (IsDeclOf holds) (declared Γ T ds)
  declared_held Γ T [] a g h = all_cons (IsDeclOf holds) (unassigned Γ T) [] (record { ctx = g; ty = h; value = tt }) a
  declared_held Γ T (d ∷ ds) a g h = all_cons (IsDeclOf holds) d (declared Γ T ds) (a 0 d (omega arith)) (declared_held Γ T ds (tail_all (IsDeclOf holds) d ds a) g h)
