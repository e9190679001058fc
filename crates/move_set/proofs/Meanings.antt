-- What stored metavariables and contexts mean, also while the store grows.
use Rattle.std.proofs.Common.{◌≡◌, ◌||◌, ℕ, zero, suc, ◌<◌, List, [], ◌∷◌, length, All, Some, refl, sym, ap, ◌∙◌, arith}
use Rattle.std.specs.Prelude.{slice_get}
use Rattle.std.specs.Str.{bytes_eq}
use Rattle.std.proofs.lemmas.Option.{same_Some}
use Rattle.ld_trees.specs.Term.{Term}
use Rattle.ld_terms.specs.Views.{Keeps}
use Rattle.ld_terms.specs.declared.globals.Local.{Local}
use Rattle.ld_terms.specs.declared.globals.Decl.{Decl}
use Rattle.term_syntax.specs.Lex.{Text}
use Rattle.conversion.specs.Globals.{IsDeclOf}
use Rattle.meta_context.specs.Declaring.{declared}
use Rattle.meta_context.specs.Plain.{plain_locals}
use Rattle.goal_state.specs.State.{plain_decl, plain_metas}
use Rattle.goal_state.proofs.Means.{plain_metas_kept, decls_held}
use Rattle.pattern_unify.proofs.Meanings as unify
use Rattle.move_set.specs.Moves.{has_entry}

module _ {H : Type 0} (means : H → Term) where
  pub entry_again : (ls : List (Local H)) (x : Text) → has_entry (plain_locals means ls) x ≡ has_entry ls x
  entry_again [] x = refl
  entry_again (l ∷ ls) x = ap (λ b. bytes_eq l.name x || b) (entry_again ls x)

  -- the goal's declaration
  pub decl_read : (ds : List (Decl H)) (Σ : List (Decl Term)) (m : ℕ) (x : Decl H) (d : Decl Term) → plain_metas means ds ≡ Σ → slice_get ds m ≡ Some x → slice_get Σ m ≡ Some d → plain_decl means x ≡ d
  decl_read ds Σ m x d e is there = same_Some (plain_decl means x) d (sym (unify.decl_read means ds Σ m x e is) ∙ there)

-- ---- one declaration while the store grows

all_one : {A : Type 0} (P : A → Type 0) (x : A) → P x → All P (x ∷ [])
all_one P x h zero d l = h
all_one P x h (suc k) d l = absurd (omega arith)

module _ {H : Type 0} (holds : H → Type 0) (means : H → Term) (holds' : H → Type 0) (means' : H → Term) (kept : Keeps holds means holds' means') where
  pub decl_kept : (d : Decl H) → IsDeclOf holds d → plain_decl means' d ≡ plain_decl means d
  decl_kept d h = let both : plain_decl means' d ∷ [] ≡ plain_decl means d ∷ [] = plain_metas_kept holds means holds' means' kept (d ∷ []) (all_one (IsDeclOf holds) d h) in cc

  pub decl_held : (d : Decl H) → IsDeclOf holds d → IsDeclOf holds' d
  decl_held d h = decls_held holds means holds' means' kept (d ∷ []) (all_one (IsDeclOf holds) d h) 0 d (omega arith)

-- what was declared before a further metavariable
pub declared_before : {H : Type 0} (ds : List (Decl H)) (Γ : List (Local H)) (T : H) (k : ℕ) → k < length ds → slice_get (declared Γ T ds) k ≡ slice_get ds k
declared_before [] Γ T k l = absurd (omega arith)
declared_before (d ∷ ds) Γ T zero l = refl
declared_before (d ∷ ds) Γ T (suc k) l = declared_before ds Γ T k (omega arith)
