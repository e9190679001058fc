-- The laws of metavariable contexts that this crate proves. Each holds for all environments, contexts and terms.
use Rattle.std.specs.Prelude.{◌≡◌, ◌↔◌, ◌⊎◌, ℕ, ◌≤◌, List, [], Some, None, true, false, length}
use Rattle.ld_trees.specs.Term.{Sort, Term, Srt, Meta, Terms, none, ◌▹◌, count}
use Rattle.ld_trees.specs.Substitution.{subst_all}
use Rattle.ld_rules.specs.Environment.{Ctx, Env}
use Rattle.ld_rules.specs.Reduction.{Equal}
use Rattle.ld_rules.specs.Derivation.{Derives}
use Rattle.ld_rules.specs.Legality.{IsLegal, IsLegalEnvironment}
use Rattle.ld_trees.specs.Scoping.{Scoped}
use Rattle.conversion.specs.Runs.{Gave}
use Rattle.conversion.specs.WeakHead.{whnf}
use Rattle.conversion.specs.Conversion.{conv}
use Rattle.kernel_check.specs.Inference.{infer, infer_sort}
use Rattle.meta_trees.specs.MetaContext.{Decl, Metas, decl, assign, declare, Keeps}
use Rattle.meta_trees.specs.Dependencies.{occurs, Depends, depends}
use Rattle.meta_laws.specs.Cut.{order, items, cut, IsOrdered, IsCutOrder}
use Rattle.meta_trees.specs.Whole.{whole}
use Rattle.meta_laws.specs.Legality.{HasNoMetas, IsLegalMetas}
use Rattle.meta_laws.specs.Unfolding.{unfold_metas, unfold_all_metas, value_of_root, AreAssigned, IsSolved}

-- the order of a cut is the one list of exactly the declared dependencies, each after its own, the least possible number first
abbrev pub OrderIsUnique : Type 0
OrderIsUnique = (Δ : Env) (Σ : Metas) (X : Terms) → IsLegalMetas Δ Σ → IsCutOrder Σ X (order Σ X) × ((L : List ℕ) → IsCutOrder Σ X L → L ≡ order Σ X)

-- no metavariable is legal over each legal environment of constants
abbrev pub EmptyIsLegal : Type 0
EmptyIsLegal = (Δ : Env) → HasNoMetas Δ → IsLegalEnvironment Δ → IsLegalMetas Δ []

-- the items of each ordered list of metavariables are a legal environment
abbrev pub OrdersAreLegal : Type 0
OrdersAreLegal = (Δ : Env) (Σ : Metas) (L : List ℕ) → IsLegalMetas Δ Σ → IsOrdered Σ L → IsLegalEnvironment (items Σ L Δ)

-- each cut is a legal environment
abbrev pub CutsAreLegal : Type 0
CutsAreLegal = (Δ : Env) (Σ : Metas) (X : Terms) → IsLegalMetas Δ Σ → IsLegalEnvironment (cut Σ Δ X)

-- a derivation in one cut holds in each cut with its dependencies, also where metavariables are declared and assigned
abbrev pub CutsGrow : Type 0
CutsGrow = (Δ : Env) (Σ Σ' : Metas) (X Y : Terms) (Γ : Ctx) (M B : Term) → IsLegalMetas Δ Σ → IsLegalMetas Δ Σ' → Keeps Σ Σ' → ((k : ℕ) → Depends Σ' X k → Depends Σ' Y k) → Derives (cut Σ Δ X) Γ M B → Derives (cut Σ' Δ Y) Γ M B

-- and so do equalities
abbrev pub EqualityGrows : Type 0
EqualityGrows = (Δ : Env) (Σ Σ' : Metas) (X Y : Terms) (a b : Term) → IsLegalMetas Δ Σ → IsLegalMetas Δ Σ' → Keeps Σ Σ' → ((k : ℕ) → Depends Σ' X k → Depends Σ' Y k) → Equal (cut Σ Δ X) a b → Equal (cut Σ' Δ Y) a b

-- an assigned metavariable is equal to its value with the arguments put in
abbrev pub ValuesAreEqual : Type 0
ValuesAreEqual = (Δ : Env) (Σ : Metas) (m : ℕ) (d : Decl) (us : Terms) (v : Term) → IsLegalMetas Δ Σ → decl m Σ ≡ Some d → d.value ≡ Some v → count us ≡ count d.ctx → Equal (cut Σ Δ (none ▹ Meta m us)) (Meta m us) (subst_all us v)

-- what a judgement in a cut speaks of are dependencies
abbrev pub JudgementsAreOfDependencies : Type 0
JudgementsAreOfDependencies = (Δ : Env) (Σ : Metas) (X : Terms) (Γ : Ctx) (M B : Term) (k : ℕ) → IsLegalMetas Δ Σ → Derives (cut Σ Δ X) Γ M B → Depends Σ (Γ ▹ M ▹ B) k → Depends Σ X k

-- each metavariable context keeps itself, and what keeps one that keeps another keeps the other
abbrev pub KeepingIsPreorder : Type 0
KeepingIsPreorder = ((Σ : Metas) → Keeps Σ Σ) × ((Σ Σ' Σ'' : Metas) → Keeps Σ Σ' → Keeps Σ' Σ'' → Keeps Σ Σ'')

-- the central law: a value of m's type that doesn't depend on m keeps legality
abbrev pub AssigningKeepsLegality : Type 0
AssigningKeepsLegality = (Δ : Env) (Σ : Metas) (m : ℕ) (d : Decl) (v : Term) → IsLegalMetas Δ Σ → decl m Σ ≡ Some d → d.value ≡ None → Derives (cut Σ Δ (d.ctx ▹ d.ty ▹ v)) d.ctx v d.ty → ¬ Depends Σ (none ▹ v) m → IsLegalMetas Δ (assign m v Σ) × Keeps Σ (assign m v Σ)

-- the next number is declared with a type that has a sort
abbrev pub DeclaringKeepsLegality : Type 0
DeclaringKeepsLegality = (Δ : Env) (Σ : Metas) (Γ : Ctx) (T : Term) (s : Sort) → IsLegalMetas Δ Σ → Derives (cut Σ Δ (Γ ▹ T)) Γ T (Srt s) → IsLegalMetas Δ (declare Γ T Σ) × Keeps Σ (declare Γ T Σ)

-- a derivation needs the dependencies alone: where it holds in some cut, it holds in each cut with the dependencies of the judgement
abbrev pub DependenciesSuffice : Type 0
DependenciesSuffice = (Δ : Env) (Σ : Metas) (X Y : Terms) (Γ : Ctx) (M B : Term) → IsLegalMetas Δ Σ → ((k : ℕ) → Depends Σ (Γ ▹ M ▹ B) k → Depends Σ X k) → Derives (cut Σ Δ Y) Γ M B → Derives (cut Σ Δ X) Γ M B

-- and so does an equality, where the cut with the dependencies of the two terms is a smaller one
abbrev pub EqualityNeedsDependencies : Type 0
EqualityNeedsDependencies = (Δ : Env) (Σ : Metas) (X Y : Terms) (a b : Term) → IsLegalMetas Δ Σ → ((k : ℕ) → Depends Σ X k → Depends Σ Y k) → ((k : ℕ) → Depends Σ (none ▹ a ▹ b) k → Depends Σ X k) → Equal (cut Σ Δ Y) a b → Equal (cut Σ Δ X) a b

-- the context of each metavariable is legal where the environment is cut to the dependencies of that context
abbrev pub ContextsAreLegal : Type 0
ContextsAreLegal = (Δ : Env) (Σ : Metas) (m : ℕ) (d : Decl) → IsLegalMetas Δ Σ → decl m Σ ≡ Some d → IsLegal (cut Σ Δ d.ctx) d.ctx

-- a dependency that assigning v to m adds goes by way of m and v
abbrev pub AssigningAddsDependencies : Type 0
AssigningAddsDependencies = (Σ : Metas) (m : ℕ) (d : Decl) (v : Term) (X : Terms) (k : ℕ) → decl m Σ ≡ Some d → d.value ≡ None → Depends (assign m v Σ) X k → Depends Σ X k ⊎ (Depends Σ X m × Depends Σ (none ▹ v) k)

-- where the declarations of the dependencies stay as they were, the dependencies stay
abbrev pub DependenciesStay : Type 0
DependenciesStay = (Σ Σ' : Metas) (X : Terms) (k : ℕ) → ((j : ℕ) → Depends Σ X j → decl j Σ ≡ decl j Σ') → Depends Σ X k ↔ Depends Σ' X k

-- where the dependencies of a term stay as they were, the term unfolded stays
abbrev pub FootprintStays : Type 0
FootprintStays = (Δ : Env) (Σ Σ' : Metas) (t : Term) → IsLegalMetas Δ Σ → length Σ ≤ length Σ' → ((k : ℕ) → Depends Σ (none ▹ t) k → decl k Σ ≡ decl k Σ') → unfold_metas Σ' t ≡ unfold_metas Σ t

-- an assigned metavariable is unfolded to its unfolded value with the unfolded arguments put in
abbrev pub UnfoldingIsFixed : Type 0
UnfoldingIsFixed = (Δ : Env) (Σ : Metas) (m : ℕ) (d : Decl) (us : Terms) (v : Term) → IsLegalMetas Δ Σ → decl m Σ ≡ Some d → d.value ≡ Some v → count us ≡ count d.ctx → unfold_metas Σ (Meta m us) ≡ subst_all (unfold_all_metas Σ us) (unfold_metas Σ v)

-- where every dependency has a value, a derivation unfolded holds in the environment alone
abbrev pub UnfoldingRemovesMetas : Type 0
UnfoldingRemovesMetas = (Δ : Env) (Σ : Metas) (X : Terms) (Γ : Ctx) (M B : Term) → IsLegalMetas Δ Σ → AreAssigned Σ X → Derives (cut Σ Δ X) Γ M B → Derives Δ (unfold_all_metas Σ Γ) (unfold_metas Σ M) (unfold_metas Σ B)

-- where every dependency of metavariable 0 has a value, the value of the root is closed, has no metavariable, and has the type of
-- metavariable 0 in the environment and the empty context alone
abbrev pub RootIsProved : Type 0
RootIsProved = (Δ : Env) (Σ : Metas) (d : Decl) → IsLegalMetas Δ Σ → decl 0 Σ ≡ Some d → d.ctx ≡ none → AreAssigned Σ (none ▹ Meta 0 none) → Derives Δ none (value_of_root Σ) d.ty × Scoped 0 (value_of_root Σ) × ((k : ℕ) → occurs k (value_of_root Σ) ≡ false)

-- the same of a solved state
abbrev pub SolvedIsProved : Type 0
SolvedIsProved = (Δ : Env) (Σ : Metas) (d : Decl) → IsLegalMetas Δ Σ → IsSolved Σ → decl 0 Σ ≡ Some d → d.ctx ≡ none → Derives Δ none (value_of_root Σ) d.ty × Scoped 0 (value_of_root Σ) × ((k : ℕ) → occurs k (value_of_root Σ) ≡ false)

-- ---- the engines, which find every metavariable

-- where the context is legal in the cut to the dependencies of context and term, the type that is inferred is derived in that cut
abbrev pub InferenceIsDerived : Type 0
InferenceIsDerived = (Δ : Env) (Σ : Metas) (Γ : Ctx) (t T : Term) (n left : ℕ) → IsLegalMetas Δ Σ → IsLegal (cut Σ Δ (Γ ▹ t)) Γ → infer (whole Σ Δ) Γ t n ≡ Gave T left → Derives (cut Σ Δ (Γ ▹ t)) Γ t T

-- and so is the sort
abbrev pub SortIsDerived : Type 0
SortIsDerived = (Δ : Env) (Σ : Metas) (Γ : Ctx) (t : Term) (s : Sort) (n left : ℕ) → IsLegalMetas Δ Σ → IsLegal (cut Σ Δ (Γ ▹ t)) Γ → infer_sort (whole Σ Δ) Γ t n ≡ Gave s left → Derives (cut Σ Δ (Γ ▹ t)) Γ t (Srt s)

-- a Yes of conversion means that the terms are βδ-equal in the cut to their own dependencies
abbrev pub YesIsEqualInTheCut : Type 0
YesIsEqualInTheCut = (Δ : Env) (Σ : Metas) (a b : Term) (n left : ℕ) → IsLegalMetas Δ Σ → conv (whole Σ Δ) a b n ≡ Gave true left → Equal (cut Σ Δ (none ▹ a ▹ b)) a b

-- a weak head form is βδ-equal to its term in the cut to the term's dependencies, and depends on no other metavariable
abbrev pub WeakHeadFormIsEqualInTheCut : Type 0
WeakHeadFormIsEqualInTheCut = (Δ : Env) (Σ : Metas) (t t' : Term) (n left : ℕ) → IsLegalMetas Δ Σ → whnf (whole Σ Δ) t n ≡ Gave t' left → Equal (cut Σ Δ (none ▹ t)) t t' × ((k : ℕ) → Depends Σ (none ▹ t') k → Depends Σ (none ▹ t) k)

-- an inferred type depends on no other metavariable than the context and the term
abbrev pub InferredTypesDependOnNoMore : Type 0
InferredTypesDependOnNoMore = (Δ : Env) (Σ : Metas) (Γ : Ctx) (t T : Term) (n left k : ℕ) → IsLegalMetas Δ Σ → infer (whole Σ Δ) Γ t n ≡ Gave T left → Depends Σ (none ▹ T) k → Depends Σ (Γ ▹ t) k

-- the next number is declared over a context that is legal in its own cut, with a type whose sort is inferred
abbrev pub DeclaringIsSound : Type 0
DeclaringIsSound = (Δ : Env) (Σ : Metas) (Γ : Ctx) (T : Term) (s : Sort) (n left : ℕ) → IsLegalMetas Δ Σ → IsLegal (cut Σ Δ Γ) Γ → infer_sort (whole Σ Δ) Γ T n ≡ Gave s left → IsLegalMetas Δ (declare Γ T Σ) × Keeps Σ (declare Γ T Σ)

-- a context that is legal in its own cut is extended by a type whose sort is inferred
abbrev pub ExtendingIsSound : Type 0
ExtendingIsSound = (Δ : Env) (Σ : Metas) (Γ : Ctx) (A : Term) (s : Sort) (n left : ℕ) → IsLegalMetas Δ Σ → IsLegal (cut Σ Δ Γ) Γ → infer_sort (whole Σ Δ) Γ A n ≡ Gave s left → IsLegal (cut Σ Δ (Γ ▹ A)) (Γ ▹ A)

-- m may get a value whose type is inferred, where that type is then βδ-equal to m's in a metavariable context that keeps the first
abbrev pub SettlingKeepsLegality : Type 0
SettlingKeepsLegality = (Δ : Env) (Σ Σ' : Metas) (m : ℕ) (d : Decl) (v T : Term) (n left : ℕ) → IsLegalMetas Δ Σ → IsLegalMetas Δ Σ' → Keeps Σ Σ' → decl m Σ ≡ Some d → decl m Σ' ≡ Some d → d.value ≡ None → infer (whole Σ Δ) d.ctx v n ≡ Gave T left → Equal (cut Σ' Δ (none ▹ T ▹ d.ty)) T d.ty → ¬ Depends Σ' (none ▹ v) m → IsLegalMetas Δ (assign m v Σ') × Keeps Σ' (assign m v Σ')
