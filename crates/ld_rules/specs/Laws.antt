-- The laws of the calculus that this crate proves. Each holds for all environments, contexts and terms.
use Rattle.std.specs.Prelude.{◌≡◌, ◌≢◌, ◌↔◌, ℕ, Contains, Some, None, ◌∷◌}
use Rattle.ld_trees.specs.Term.{Sort, Head, Term, Srt, Var, App, Lam, Pi, Con, Terms, none, ◌▹◌, count}
use Rattle.ld_trees.specs.Substitution.{rename, subst, instantiate, subst_all}
use Rattle.ld_rules.specs.Environment.{Ctx, Env, Item, item_of, type_at}
use Rattle.ld_rules.specs.Reduction.{Equal, EqualAll}
use Rattle.ld_rules.specs.Derivation.{Derives, Fits}
use Rattle.ld_rules.specs.Legality.{IsLegal, IsLegalEnvironment, IsValid, MayBeAdded}
use Rattle.ld_rules.specs.Scoping.{ContextScoped, Known, AllKnown, IsScoped}
use Rattle.ld_rules.specs.ScopedItems.{AreScoped, EachHead, IsNameIn}
use Rattle.ld_rules.specs.Extension.{Extends, KeepsEntries, Substitutes}
use Rattle.ld_rules.specs.Expansion.{Bodies, BodiesScoped, expand, expand_all, body_of, Expands}

-- the environment and the context of a judgement are legal
abbrev pub JudgementsAreLegal : Type 0
JudgementsAreLegal = (Δ : Env) (Γ : Ctx) (M B : Term) → Derives Δ Γ M B → IsLegalEnvironment Δ × IsLegal Δ Γ

-- what a judgement speaks of is scoped
abbrev pub JudgementsAreScoped : Type 0
JudgementsAreScoped = (Δ : Env) (Γ : Ctx) (M B : Term) → Derives Δ Γ M B → ContextScoped Γ × AllKnown Δ Γ × IsScoped Δ Γ M × IsScoped Δ Γ B

-- the items of a legal environment and the entries of a legal context are scoped
abbrev pub LegalIsScoped : Type 0
LegalIsScoped = (Δ : Env) (Γ : Ctx) → IsLegal Δ Γ → AreScoped Δ Γ

-- each constant of a term whose constants are known has the name of an item
abbrev pub KnownNamesAreOfItems : Type 0
KnownNamesAreOfItems = (Δ : Env) (t : Term) → Known Δ t → EachHead (IsNameIn Δ) t

-- in a legal context each variable has its type
abbrev pub EntriesHaveTypes : Type 0
EntriesHaveTypes = (Δ : Env) (Γ : Ctx) (i : ℕ) (T : Term) → IsLegal Δ Γ → type_at Γ i ≡ Some T → Derives Δ Γ (Var i) T

-- a name is new exactly where no item has it
abbrev pub NamesAreNew : Type 0
NamesAreNew = (Δ : Env) (h : Head) → (item_of h Δ ≡ None) ↔ ((d : Item) → Contains Δ d → d.name ≢ h)

-- in a legal environment an item is found by a name exactly where it is in the environment and has that name
abbrev pub ItemsAreFound : Type 0
ItemsAreFound = (Δ : Env) (h : Head) (d : Item) → IsLegalEnvironment Δ → (item_of h Δ ≡ Some d) ↔ (Contains Δ d × (d.name ≡ h))

-- in a legal environment each item has legal parameters, a valid type, and where it has a body a body of that type
abbrev pub ItemsHaveTypes : Type 0
ItemsHaveTypes = (Δ : Env) (h : Head) (d : Item) → IsLegalEnvironment Δ → item_of h Δ ≡ Some d → IsLegal Δ d.params × IsValid Δ d.params d.ty × ((M : Term) → d.body ≡ Some M → Derives Δ d.params M d.ty)

-- the premise of inst in the words of the table: one argument per parameter, each of the type of its parameter with all arguments put in
abbrev pub ArgumentsFitParameters : Type 0
ArgumentsFitParameters = (Δ : Env) (Γ ps : Ctx) (us : Terms) → Fits Δ Γ us ps ↔ ((count us ≡ count ps) × ((i : ℕ) (P : Term) → type_at ps i ≡ Some P → Derives Δ Γ (instantiate us i) (subst_all us P)))

-- terms with βδ-equal parts are βδ-equal
abbrev pub EqualityIsCongruence : Type 0
EqualityIsCongruence = (Δ : Env) →
    ((f g a b : Term) → Equal Δ f g → Equal Δ a b → Equal Δ (App f a) (App g b))
    × ((A B M N : Term) → Equal Δ A B → Equal Δ M N → Equal Δ (Lam A M) (Lam B N))
    × ((A B M N : Term) → Equal Δ A B → Equal Δ M N → Equal Δ (Pi A M) (Pi B N))
    × ((h : Head) (us vs : Terms) → EqualAll Δ us vs → Equal Δ (Con h us) (Con h vs))

-- terms that are βδ-equal in a legal environment are so after a substitution, and in each environment that has its items
abbrev pub EqualityIsKept : Type 0
EqualityIsKept = (E Δ : Env) (s : ℕ → Term) (a b : Term) → IsLegalEnvironment E → Extends E Δ → Equal E a b → Equal Δ (subst s a) (subst s b)

-- thinning: a derivation holds in each legal context that has the entries, wherever they stand in it
abbrev pub Thinning : Type 0
Thinning = (Δ : Env) (Γ Γ' : Ctx) (r : ℕ → ℕ) (M B : Term) → Derives Δ Γ M B → IsLegal Δ Γ' → KeepsEntries Γ Γ' r → Derives Δ Γ' (rename r M) (rename r B)

-- substitution: in place of each entry a term of its type
abbrev pub Substitution : Type 0
Substitution = (Δ : Env) (Γ Γ' : Ctx) (s : ℕ → Term) (M B : Term) → Derives Δ Γ M B → IsLegal Δ Γ' → Substitutes Δ Γ Γ' s → Derives Δ Γ' (subst s M) (subst s B)

-- one argument put in for the last entry
abbrev pub SubstitutionOfOne : Type 0
SubstitutionOfOne = (Δ : Env) (Γ : Ctx) (A M B N : Term) → Derives Δ (Γ ▹ A) M B → Derives Δ Γ N A → Derives Δ Γ (subst_all (none ▹ N) M) (subst_all (none ▹ N) B)

-- arguments put in for all parameters
abbrev pub SubstitutionOfAll : Type 0
SubstitutionOfAll = (Δ : Env) (Γ ps : Ctx) (us : Terms) (M B : Term) → Derives Δ ps M B → IsLegal Δ Γ → Fits Δ Γ us ps → Derives Δ Γ (subst_all us M) (subst_all us B)

-- a derivation in one environment holds in each legal environment that has its items, a primitive perhaps replaced by a definition
abbrev pub ChangeOfEnvironment : Type 0
ChangeOfEnvironment = (E Δ : Env) (Γ : Ctx) (M B : Term) → Derives E Γ M B → Extends E Δ → IsLegalEnvironment Δ → Derives Δ Γ M B

-- validity of types
abbrev pub TypesAreValid : Type 0
TypesAreValid = (Δ : Env) (Γ : Ctx) (M B : Term) → Derives Δ Γ M B → IsValid Δ Γ B

-- generation for products
abbrev pub GenerationForProducts : Type 0
GenerationForProducts = (Δ : Env) (Γ : Ctx) (A B T : Term) → Derives Δ Γ (Pi A B) T → (s : Sort) × (z : Sort) × Derives Δ Γ A (Srt s) × Derives Δ (Γ ▹ A) B (Srt z) × Equal Δ (Srt z) T

-- an environment with one more item is legal exactly where it was legal before and the item may be added
abbrev pub AddingIsExact : Type 0
AddingIsExact = (Δ : Env) (d : Item) → IsLegalEnvironment (d ∷ Δ) ↔ (IsLegalEnvironment Δ × MayBeAdded Δ d)

-- an item whose judgement was derived in a smaller environment
abbrev pub AddingFromBelow : Type 0
AddingFromBelow = (E Δ : Env) (d : Item) → IsLegalEnvironment Δ → Extends E Δ → MayBeAdded E d → item_of d.name Δ ≡ None → IsLegalEnvironment (d ∷ Δ)

-- removal of definitions: a derivation holds in an environment without some items, each use of them replaced by a term of its type
abbrev pub RemovalOfDefinitions : Type 0
RemovalOfDefinitions = (V : Bodies) (E Δ : Env) (Γ : Ctx) (M B : Term) → BodiesScoped V → IsLegalEnvironment Δ → Expands V E Δ → Derives E Γ M B → Derives Δ (expand_all V Γ) (expand V M) (expand V B)

-- removal of the last definition, each use of it replaced by its body
abbrev pub RemovalOfLast : Type 0
RemovalOfLast = (Δ : Env) (d : Item) (N : Term) (Γ : Ctx) (M B : Term) → d.body ≡ Some N → Derives (d ∷ Δ) Γ M B → Derives Δ (expand_all (body_of d) Γ) (expand (body_of d) M) (expand (body_of d) B)
