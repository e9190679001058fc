-- What stored items, metavariables and contexts mean, also while the store grows.
use Rattle.std.proofs.Common.{◌≡◌, ℕ, zero, suc, ◌+◌, ◌<◌, List, [], ◌∷◌, ◌++◌, length, All, Some, None, option_map, refl, sym, ap, ap₂, ◌∙◌, arith, subst}
use Rattle.std.specs.Prelude.{slice_get}
use Rattle.std.proofs.lemmas.List.{map-append, length-append, length-map}
use Rattle.std.proofs.lemmas.Option.{slice_get-map}
use Rattle.ld_trees.specs.Term.{Term}
use Rattle.ld_terms.specs.Names.{IsEntryName}
use Rattle.ld_terms.specs.Views.{Keeps}
use Rattle.ld_terms.specs.declared.globals.Local.{Local}
use Rattle.ld_terms.specs.declared.globals.Item.{Item}
use Rattle.ld_terms.specs.declared.globals.Decl.{Decl}
use Rattle.term_syntax.specs.Lex.{Text}
use Rattle.term_syntax.specs.Printing.{Names}
use Rattle.term_syntax.specs.ReadsBack.{NamedFrom, IsContext}
use Rattle.conversion.specs.Globals.{AreGlobalsOf, AreLocals, IsDeclOf, context_of, env_of}
use Rattle.meta_trees.specs.Whole.{whole}
use Rattle.meta_context.specs.Declaring.{declared, assigned, unassigned, with_value}
use Rattle.meta_context.specs.Entered.{names_of}
use Rattle.meta_context.specs.Plain.{plain_local, plain_locals, plain_items, rules_ctx, rules_env}
use Rattle.meta_context.proofs.PlainItems.{context_again, env_again}
use Rattle.meta_context.proofs.Stored.{env_is_whole}
use Rattle.goal_state.specs.State.{plain_decl, plain_metas}
use Rattle.goal_state.proofs.Following.{items_kept}
use Rattle.goal_state.proofs.Means.{metas_again, plain_metas_kept}
use Rattle.unification.specs.Metavariables.{reach}
use Rattle.pattern_unify.specs.Answers.{AreRead}

tail_all : {A : Type 0} (P : A → Type 0) (x : A) (xs : List A) → All P (x ∷ xs) → All P xs
tail_all P x xs a k d l = a (suc k) d (omega arith)

module _ {H : Type 0} (means : H → Term) where
  pub length_again : (ls : List (Local H)) → length (plain_locals means ls) ≡ length ls
  length_again [] = refl
  length_again (l ∷ ls) = ap suc (length_again ls)

  pub metas_length : (ds : List (Decl H)) → length (plain_metas means ds) ≡ length ds
  metas_length [] = refl
  metas_length (d ∷ ds) = ap suc (metas_length ds)

  -- the environment that the engines read
  pub reach_again : (is : List (Item H)) (ds : List (Decl H)) → env_of means is ds ≡ reach (rules_env (plain_items means is)) (plain_metas means ds)
  reach_again is ds = env_is_whole means is ds ∙ ap₂ whole (sym (metas_again means ds)) (env_again means is) ∙ sym (env_is_whole (λ t. t) (plain_items means is) (plain_metas means ds))

  pub read_reach : (is : List (Item H)) (ds : List (Decl H)) (Δ : List (Item Term)) (Σ : List (Decl Term)) → AreRead means is ds Δ Σ → env_of means is ds ≡ reach (rules_env Δ) Σ
  read_reach is ds Δ Σ r = reach_again is ds ∙ ap₂ (λ (Δ : List (Item Term)) (Σ : List (Decl Term)). reach (rules_env Δ) Σ) r.items_are r.metas_are

  pub read_ctx : (ctx : List (Local H)) (Γ : List (Local Term)) → plain_locals means ctx ≡ Γ → context_of means ctx ≡ rules_ctx Γ
  read_ctx ctx Γ e = context_again means ctx ∙ ap rules_ctx e

  pub read_length : (ctx : List (Local H)) (Γ : List (Local Term)) → plain_locals means ctx ≡ Γ → length ctx ≡ length Γ
  read_length ctx Γ e = sym (length_again ctx) ∙ ap (λ ls. length ls) e

  pub read_count : (ds : List (Decl H)) (Σ : List (Decl Term)) → plain_metas means ds ≡ Σ → length ds ≡ length Σ
  read_count ds Σ e = sym (metas_length ds) ∙ ap (λ xs. length xs) e

  -- one more entry, one more metavariable, and one with a value
  pub locals_more : (ctx ctx' : List (Local H)) (x : List ℕ) (ty : H) → ctx' ≡ ctx ++ record { name = x; ty = ty } ∷ [] → plain_locals means ctx' ≡ plain_locals means ctx ++ record { name = x; ty = means ty } ∷ []
  locals_more ctx ctx' x ty e =
      let l : Local H = record { name = x; ty = ty } in
      ap (plain_locals means) e ∙ map-append (plain_local means) ctx (l ∷ [])

  pub metas_more : (ctx : List (Local H)) (ty : H) (ds : List (Decl H)) → plain_metas means (declared ctx ty ds) ≡ declared (plain_locals means ctx) (means ty) (plain_metas means ds)
  metas_more ctx ty ds = map-append (plain_decl means) ds (unassigned ctx ty ∷ [])

  pub metas_assigned : (m : ℕ) (v : H) (ds : List (Decl H)) → plain_metas means (assigned m v ds) ≡ assigned m (means v) (plain_metas means ds)
  metas_assigned m v [] = refl
  metas_assigned zero v (d ∷ ds) = refl
  metas_assigned (suc m) v (d ∷ ds) = ap (λ xs. plain_decl means d ∷ xs) (metas_assigned m v ds)

  -- a declaration that is found, and none
  pub decl_read : (ds : List (Decl H)) (Σ : List (Decl Term)) (m : ℕ) (x : Decl H) → plain_metas means ds ≡ Σ → slice_get ds m ≡ Some x → slice_get Σ m ≡ Some (plain_decl means x)
  decl_read ds Σ m x e is = ap (λ xs. slice_get xs m) (sym e) ∙ slice_get-map (plain_decl means) ds m ∙ ap (option_map (plain_decl means)) is

  pub decl_missed : (ds : List (Decl H)) (Σ : List (Decl Term)) (m : ℕ) → plain_metas means ds ≡ Σ → slice_get ds m ≡ None → slice_get Σ m ≡ None
  decl_missed ds Σ m e is = ap (λ xs. slice_get xs m) (sym e) ∙ slice_get-map (plain_decl means) ds m ∙ ap (option_map (plain_decl means)) is

-- ---- while the store grows

module _ {H : Type 0} (holds : H → Type 0) (means : H → Term) (holds' : H → Type 0) (means' : H → Term) (kept : Keeps holds means holds' means') where
  pub locals_kept : (ls : List (Local H)) → AreLocals holds ls → plain_locals means' ls ≡ plain_locals means ls
  locals_kept [] a = refl
  locals_kept (l ∷ ls) a = ap₂ (λ (t : Term) (ls : List (Local Term)). let x : Local Term = record { name = l.name; ty = t } in x ∷ ls) (kept l.ty (a 0 l (omega arith))).1 (locals_kept ls (tail_all (λ l. holds l.ty) l ls a))

  pub locals_held : (ls : List (Local H)) → AreLocals holds ls → AreLocals holds' ls
  locals_held ls a k d l = (kept _ (a k d l)).0

  -- items, and metavariables that a call has come to
  pub read_next : {items : List (Item H)} {metas : List (Decl H)} {Δ : List (Item Term)} {Σ : List (Decl Term)} (more : List (Decl H)) → AreGlobalsOf holds items metas → AreRead means items metas Δ Σ → AreRead means' items more Δ (plain_metas means' more)
  read_next {items = items} more g r = record { items_are = items_kept holds means holds' means' kept items g.items_held ∙ r.items_are; metas_are = refl }

  pub read_kept : (items : List (Item H)) (metas : List (Decl H)) (Δ : List (Item Term)) (Σ : List (Decl Term)) → AreGlobalsOf holds items metas → AreRead means items metas Δ Σ → AreRead means' items metas Δ Σ
  read_kept items metas Δ Σ a r = record { items_are = items_kept holds means holds' means' kept items a.items_held ∙ r.items_are; metas_are = plain_metas_kept holds means holds' means' kept metas a.metas_held ∙ r.metas_are }

pub all_push : {A : Type 0} (P : A → Type 0) (xs : List A) (x : A) → All P xs → P x → All P (xs ++ x ∷ [])
all_push P [] x a h zero d lt = h
all_push P [] x a h (suc k) d lt = absurd (omega arith)
all_push P (y ∷ ys) x a h zero d lt = a 0 y (omega arith)
all_push P (y ∷ ys) x a h (suc k) d lt = all_push P ys x (λ j e l. a (suc j) e (omega arith)) h k d (omega arith)

all_cons : {A : Type 0} (P : A → Type 0) (x : A) (xs : List A) → P x → All P xs → All P (x ∷ xs)
all_cons P x xs h a zero d l = h
all_cons P x xs h a (suc k) d l = a k d (omega arith)

pub assigned_held : {H : Type 0} (holds : H → Type 0) (m : ℕ) (v : H) (ds : List (Decl H)) → All (IsDeclOf holds) ds → holds v → All (IsDeclOf holds) (assigned m v ds)
assigned_held holds m v [] a h = a
assigned_held holds zero v (d ∷ ds) a h = let x = a 0 d (omega arith) in all_cons (IsDeclOf holds) (with_value v d) ds (record { ctx = x.ctx; ty = x.ty; value = h }) (tail_all (IsDeclOf holds) d ds a)
assigned_held holds (suc m) v (d ∷ ds) a h = all_cons (IsDeclOf holds) d (assigned m v ds) (a 0 d (omega arith)) (assigned_held holds m v ds (tail_all (IsDeclOf holds) d ds a) h)

-- ---- names of a context

named_more : (k : ℕ) (names : Names) (name : Text) → NamedFrom k names → IsEntryName (k + length names) name → NamedFrom k (names ++ name ∷ [])
named_more k [] name h is = (subst (λ n. IsEntryName n name) (omega arith) is, tt)
named_more k (x ∷ names) name h is = (h.0, named_more (k + 1) names name h.1 (subst (λ n. IsEntryName n name) (omega arith) is))

pub names_more : {H : Type 0} (ctx ctx' : List (Local H)) (l : Local H) → ctx' ≡ ctx ++ l ∷ [] → IsContext (names_of ctx) → IsEntryName (length ctx) l.name → length ctx < 999998999 → IsContext (names_of ctx')
names_more ctx ctx' l e c named few =
    let whole : names_of ctx' ≡ names_of ctx ++ l.name ∷ [] = ap names_of e ∙ map-append (λ l. l.name) ctx (l ∷ []) in
    let count : length (names_of ctx) ≡ length ctx = length-map ctx (λ l. l.name) in
    let context : IsContext (names_of ctx ++ l.name ∷ []) = record {
      named = named_more 0 (names_of ctx) l.name c.named (subst (λ n. IsEntryName n l.name) (omega (arith, count)) named);
      few = omega (arith, count, length-append (names_of ctx) (l.name ∷ []));
    } in
    subst IsContext (sym whole) context

pub room : {H : Type 0} (ctx : List (Local H)) → IsContext (names_of ctx) → length ctx < 999999000
room ctx c = let count : length (names_of ctx) ≡ length ctx = length-map ctx (λ l. l.name) in let few = c.few in omega arith
