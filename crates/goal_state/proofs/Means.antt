-- What stored metavariables mean: the same open goals and the same metavariable context as the plain ones, also while the store grows.
use Rattle.std.proofs.Common.{◌≡◌, ℕ, zero, suc, ◌+◌, ◌<◌, List, [], ◌∷◌, map, All, Bool, true, ◌↔◌, Option, Some, None, option_map, is_none, slice_get, length, refl, sym, ap, ap₂, ◌∙◌, arith}
use Rattle.std.proofs.lemmas.Option.{same_Some}
use Rattle.ld_trees.specs.Term.{Term, count, Terms, none, ◌▹◌}
use Rattle.ld_rules.specs.Environment.{Ctx}
use Rattle.ld_terms.specs.Views.{Keeps, terms_of, terms_onto}
use Rattle.ld_terms.specs.declared.globals.Local.{Local}
use Rattle.ld_terms.specs.declared.globals.Decl.{Decl as StoredDecl}
use Rattle.conversion.specs.Globals.{AreLocals, IsDeclOf, IsOptional, context_of}
use Rattle.meta_trees.specs.MetaContext.{Decl, Metas, decl}
use Rattle.meta_context.specs.Plain.{plain_locals, rules_ctx}
use Rattle.meta_context.specs.Declaring.{IsOpen}
use Rattle.meta_context.specs.Stored.{decl_of, metas_of}
use Rattle.meta_context.proofs.PlainItems.{context_again}
use Rattle.goal_state.specs.State.{plain_decl, plain_metas, rules_metas, lacks_value, is_open}
use Rattle.goal_state.proofs.Lists.{get_map}

decl_at : Ctx → Term → Option Term → Decl
decl_at Γ T o = record { ctx = Γ; ty = T; value = o }

same_decls : (Γ Δ : Ctx) (T U : Term) (o p : Option Term) → Γ ≡ Δ → T ≡ U → o ≡ p → decl_at Γ T o ≡ decl_at Δ U p
same_decls Γ Δ T U o p e f g = ap (λ x. decl_at x T o) e ∙ ap (λ x. decl_at Δ x o) f ∙ ap (λ x. decl_at Δ U x) g

-- the declaration of a number
pub decl_found : {H : Type 0} (means : H → Term) (ds : List (StoredDecl H)) (m : ℕ) → decl m (metas_of means ds) ≡ option_map (decl_of means) (slice_get ds m)
decl_found means [] m = refl
decl_found means (d ∷ ds) zero = refl
decl_found means (d ∷ ds) (suc m) = decl_found means ds m

module _ {H : Type 0} (means : H → Term) where
  none_again : (o : Option H) → is_none (option_map means o) ≡ is_none o
  none_again None = refl
  none_again (Some h) = refl

  lacks_again : (o : Option (StoredDecl H)) → lacks_value (option_map (plain_decl means) o) ≡ lacks_value o
  lacks_again None = refl
  lacks_again (Some d) = none_again d.value

  pub open_again : (ds : List (StoredDecl H)) (m : ℕ) → is_open (plain_metas means ds) m ≡ is_open ds m
  open_again ds m = ap lacks_value (get_map (plain_decl means) ds m) ∙ lacks_again (slice_get ds m)

  value_again : (o : Option H) → option_map (λ (t : Term). t) (option_map means o) ≡ option_map means o
  value_again None = refl
  value_again (Some h) = refl

  decl_again : (d : StoredDecl H) → decl_of (λ t. t) (plain_decl means d) ≡ decl_of means d
  unfolding decl_at
  decl_again d = same_decls (rules_ctx (plain_locals means d.ctx)) (context_of means d.ctx) (means d.ty) (means d.ty) _ _ (sym (context_again means d.ctx)) refl (value_again d.value)

  pub metas_again : (ds : List (StoredDecl H)) → rules_metas (plain_metas means ds) ≡ metas_of means ds
  metas_again [] = refl
  metas_again (d ∷ ds) = ap₂ (λ (x : Decl) (xs : Metas). x ∷ xs) (decl_again d) (metas_again ds)

-- the test of open goals decides what an open goal is
pub open_is : {H : Type 0} (ds : List (StoredDecl H)) (m : ℕ) → (is_open ds m ≡ true) ↔ IsOpen ds m
open_is ds m = decided (slice_get ds m) where
  without : {H : Type 0} (o : Option H) → is_none o ≡ true → o ≡ None
  without None e = refl
  without (Some h) e = absurd cc

  decided : {H : Type 0} (o : Option (StoredDecl H)) → (lacks_value o ≡ true) ↔ ((d : StoredDecl H) × (o ≡ Some d) × (d.value ≡ None))
  decided None = (λ e. absurd cc, λ x. let e = x.1 in absurd cc)
  decided (Some d) = (λ e. (d, refl, without d.value e), λ x. let q : d ≡ x.0 = same_Some _ _ x.1 in ap (λ d. is_none d.value) q ∙ ap is_none x.2)

-- ---- while the store grows

same_plain_decls : (ps qs : List (Local Term)) (t u : Term) (b c : Option Term) → ps ≡ qs → t ≡ u → b ≡ c
    → (let x : StoredDecl Term = record { ctx = ps; ty = t; value = b } in let y : StoredDecl Term = record { ctx = qs; ty = u; value = c } in x ≡ y)
same_plain_decls ps qs t u b c p q r = λ i. record { ctx = p i; ty = q i; value = r i }

tail_all : {X : Type 0} (P : X → Type 0) (x : X) (xs : List X) → All P (x ∷ xs) → All P xs
tail_all P x xs a i d l = a (suc i) d (omega arith)

module _ {H : Type 0} (holds : H → Type 0) (means : H → Term) (holds' : H → Type 0) (means' : H → Term) (kept : Keeps holds means holds' means') where
  types_kept : (ls : List (Local H)) → AreLocals holds ls → map (λ l. means' l.ty) ls ≡ map (λ l. means l.ty) ls
  types_kept [] a = refl
  types_kept (l ∷ ls) a = ap₂ ◌∷◌ (kept l.ty (a 0 l (omega arith))).1 (types_kept ls (tail_all (λ x. holds x.ty) l ls a))

  optional_kept : (o : Option H) → IsOptional holds o → option_map means' o ≡ option_map means o
  optional_kept None h = refl
  optional_kept (Some x) h = ap (λ (t : Term). Some t) (kept x h).1

  decl_kept : (d : StoredDecl H) → IsDeclOf holds d → decl_of means' d ≡ decl_of means d
  unfolding decl_at
  decl_kept d h = same_decls (context_of means' d.ctx) (context_of means d.ctx) (means' d.ty) (means d.ty) _ _ (ap terms_of (types_kept d.ctx h.ctx)) (kept d.ty h.ty).1 (optional_kept d.value h.value)

  pub metas_kept : (ds : List (StoredDecl H)) → All (IsDeclOf holds) ds → metas_of means' ds ≡ metas_of means ds
  metas_kept [] a = refl
  metas_kept (d ∷ ds) a = ap₂ (λ (x : Decl) (xs : Metas). x ∷ xs) (decl_kept d (a 0 d (omega arith))) (metas_kept ds (tail_all (IsDeclOf holds) d ds a))

  locals_kept : (ls : List (Local H)) → AreLocals holds ls → plain_locals means' ls ≡ plain_locals means ls
  locals_kept [] a = refl
  locals_kept (l ∷ ls) a = ap₂ (λ (t : Term) (ls : List (Local Term)). let x : Local Term = record { name = l.name; ty = t } in x ∷ ls) (kept l.ty (a 0 l (omega arith))).1 (locals_kept ls (tail_all (λ l. holds l.ty) l ls a))

  plain_decl_kept : (d : StoredDecl H) → IsDeclOf holds d → plain_decl means' d ≡ plain_decl means d
  plain_decl_kept d h = same_plain_decls (plain_locals means' d.ctx) (plain_locals means d.ctx) (means' d.ty) (means d.ty) (option_map means' d.value) (option_map means d.value) (locals_kept d.ctx h.ctx) (kept d.ty h.ty).1 (optional_kept d.value h.value)

  pub plain_metas_kept : (ds : List (StoredDecl H)) → All (IsDeclOf holds) ds → plain_metas means' ds ≡ plain_metas means ds
  plain_metas_kept [] a = refl
  plain_metas_kept (d ∷ ds) a = ap₂ (λ (x : StoredDecl Term) (xs : List (StoredDecl Term)). x ∷ xs) (plain_decl_kept d (a 0 d (omega arith))) (plain_metas_kept ds (tail_all (IsDeclOf holds) d ds a))

  optional_held : (o : Option H) → IsOptional holds o → IsOptional holds' o
  optional_held None h = tt
  optional_held (Some x) h = (kept x h).0

  decl_held : (d : StoredDecl H) → IsDeclOf holds d → IsDeclOf holds' d
  decl_held d h = record { ctx = λ k e l. (kept _ (h.ctx k e l)).0; ty = (kept d.ty h.ty).0; value = optional_held d.value h.value }

  pub decls_held : (ds : List (StoredDecl H)) → All (IsDeclOf holds) ds → All (IsDeclOf holds') ds
  decls_held ds a k d l = decl_held _ (a k d l)

-- ---- how many entries a context has

count_onto : (us : Terms) (xs : List Term) → count (terms_onto us xs) ≡ length xs + count us
count_onto us [] = omega arith
count_onto us (x ∷ xs) = omega (arith, count_onto (us ▹ x) xs)

pub count_of_terms : (xs : List Term) → count (terms_of xs) ≡ length xs
count_of_terms xs = omega (arith, count_onto none xs)

entries_counted : {H : Type 0} (means : H → Term) (ls : List (Local H)) → length (map (λ l. means l.ty) ls) ≡ length ls
entries_counted means [] = refl
entries_counted means (l ∷ ls) = ap suc (entries_counted means ls)

pub count_of_context : {H : Type 0} (means : H → Term) (ls : List (Local H)) → count (context_of means ls) ≡ length ls
count_of_context means ls = count_of_terms (map (λ l. means l.ty) ls) ∙ entries_counted means ls
