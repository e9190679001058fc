-- Words for the private calls of the kernel's check, each of which stands for one part of a definition of inference.
use Rattle.std.specs.Prelude.{◌≡◌, ◌≢◌, ◌≤◌, ℕ, List, [], ◌∷◌, map, All, take, nat_eq, Option, Some, None, option_map}
use Rattle.ld_trees.specs.Term.{Head, Term, Srt, Pi, Con, Terms, none, ◌▹◌, count, same}
use Rattle.ld_trees.specs.Substitution.{subst_all}
use Rattle.ld_rules.specs.Environment.{Ctx, Env, item_of}
use Rattle.ld_terms.specs.Views.{Keeps, terms_of}
use Rattle.ld_terms.specs.declared.globals.Decl.{Decl}
use Rattle.ld_terms.specs.declared.globals.Item.{Item}
use Rattle.ld_terms.specs.declared.globals.Local.{Local}
use Rattle.conversion.specs.Globals.{env_of, context_of}
use Rattle.conversion.specs.Spines.{BothHeld}
use Rattle.conversion.specs.Runs.{Outcome, Run, Gave, go_on, NotType, ReductIllTyped, pure, refuse, choose, or_refuse, ◌>>=◌, ◌>>◌}
use Rattle.kernel_check.specs.Inference.{infer, infer_sort, infer_all, sort_in, product_form, fit}

-- what the globals and a list of types mean, as an environment and a context
pub record IsRead {H : Type 0} (means : H → Term) (items : List (Item H)) (metas : List (Decl H)) (types : List H) (Δ : Env) (Γ : Ctx) : Type 0 where
  pub env : env_of means items metas ≡ Δ
  pub context : terms_of (map means types) ≡ Γ

-- the sort of a term whose type is T, as a term
abbrev pub sort_term_in : Env → Ctx → Term → Term → Run Term
sort_term_in Δ Γ t T = sort_in Δ Γ t T >>= (λ s. pure (Srt s))

-- ---- applications

-- the type of f applied to a, where F is the type of f
abbrev pub applied_type : Env → Ctx → Term → Term → Term → Run Term
applied_type Δ Γ f a F = do
  (A, B) ← product_form Δ (infer Δ) Γ f F
  A' ← infer Δ Γ a
  fit Δ Γ A' A
  pure (subst_all (none ▹ a) B)

-- what the type of a head gives for the applications around it: functions with their arguments, of which the last is next to the head
abbrev pub along : Env → Ctx → List (Term × Term) → Outcome Term → Outcome Term
along Δ Γ [] o = o
along Δ Γ (p ∷ ps) o = go_on (along Δ Γ ps o) (applied_type Δ Γ p.0 p.1)

abbrev pub pair_trees : {H : Type 0} → (H → Term) → List (H × H) → List (Term × Term)
pair_trees means ps = map (λ p. (means p.0, means p.1)) ps

-- after some turns the type of the head has become that of an application, around which others wait
pub record AreApplied {H : Type 0} (holds : H → Type 0) (means : H → Term) (holds' : H → Type 0) (means' : H → Term) (items : List (Item H)) (metas : List (Decl H)) (types types' : List H) (all waiting : List (H × H)) (head found : H) (n n' : ℕ) : Type 0 where
  pub kept : Keeps holds means holds' means'
  pub less : n' ≤ n
  pub same : types' ≡ types
  pub found_held : holds' found
  pub waiting_held : All (BothHeld holds) waiting
  pub value : (Δ : Env) (Γ : Ctx) → IsRead means items metas types Δ Γ → along Δ Γ (pair_trees means all) (Gave (means head) n) ≡ along Δ Γ (pair_trees means waiting) (Gave (means' found) n')

-- ---- products

-- whether a reduct is its type or has a sort
abbrev pub reduct_checked : Env → Ctx → Term → Term → Run (Unit {0})
reduct_checked Δ Γ F P = choose (same F P) (pure tt) (or_refuse (infer_sort Δ Γ P) (ReductIllTyped (count Γ) F P) >> pure tt)

-- the domain and the codomain of a product
abbrev pub AreParts : {H : Type 0} → (H → Term) → Term → Option (H × H) → Type 0
AreParts means t (Some p) = t ≡ Pi (means p.0) (means p.1)
AreParts means t None = (A B : Term) → t ≢ Pi A B

-- ---- constants and metavariables

-- the parameters and the type of a term that is a constant or a metavariable, if it is there
abbrev pub signature : Env → Term → Option (Ctx × Term)
signature Δ (Con h us) = option_map (λ d. (d.params, d.ty)) (item_of h Δ)
signature Δ _ = None

-- a constant or a metavariable that is there with these parameters and this type
abbrev pub instance_type : Env → Ctx → Head → Terms → Ctx → Term → Run Term
instance_type Δ Γ h us ps T = choose (nat_eq (count us) (count ps)) (infer_all Δ (infer Δ) Γ us ps >> pure (subst_all us T)) (refuse (NotType (count Γ) (Con h us)))

-- after so many turns that many arguments have been converted
pub record AreConverted {H : Type 0} (holds : H → Type 0) (means : H → Term) (holds' : H → Type 0) (means' : H → Term) (items : List (Item H)) (metas : List (Decl H)) (types types' args : List H) (params : List (Local H)) (n n' k : ℕ) : Type 0 where
  pub kept : Keeps holds means holds' means'
  pub less : n' ≤ n
  pub same : types' ≡ types
  pub value : (Δ : Env) (Γ : Ctx) → IsRead means items metas types Δ Γ → infer_all Δ (infer Δ) Γ (terms_of (map means (take k args))) (context_of means (take k params)) n ≡ Gave tt n'
