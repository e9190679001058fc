-- Product form, inference and sort, with units of fuel: the kernel's check of a term.
use Rattle.std.specs.Prelude.{ℕ, zero, suc, nat_eq, Option, Some, None}
use Rattle.ld_trees.specs.Term.{Sort, star, square, Head, Term, Srt, Square, Var, App, Lam, Pi, Con, Terms, none, ◌▹◌, count, same}
use Rattle.ld_trees.specs.Substitution.{subst_all}
use Rattle.ld_rules.specs.Environment.{Ctx, Env, Item, item_of, type_at}
use Rattle.conversion.specs.Runs.{NotType, NotFunction, Mismatch, ReductIllTyped, OutOfFuel, Run, pure, refuse, spend, ◌>>=◌, ◌>>◌, or_refuse, choose}
use Rattle.conversion.specs.WeakHead.{whnf}
use Rattle.conversion.specs.Conversion.{conv}

-- a call that may infer
abbrev pub Infers : Type 0
Infers = Ctx → Term → Run Term

-- ---- the sort of a term

-- its type at weak head form has to be `*`
abbrev pub star_or : Ctx → Term → Term → Run Sort
star_or Γ t (Srt star) = pure star
star_or Γ t _ = refuse (NotType (count Γ) t)

abbrev pub sort_in : Env → Ctx → Term → Term → Run Sort
sort_in Δ Γ t (Srt s) = pure s
sort_in Δ Γ t T = do
  T' ← whnf Δ T
  star_or Γ t T'

-- infer its type, and bring it to weak head form unless it is a sort
abbrev pub sort_of : Env → Infers → Ctx → Term → Run Sort
sort_of Δ infer Γ t = do
  T ← infer Γ t
  sort_in Δ Γ t T

-- ---- the product form of the type F of a function f

-- a weak head form that differs from F has to have a sort
abbrev pub checked_product : Env → Infers → Ctx → Term → Term → Term → Run (Term × Term)
checked_product Δ infer Γ f F (Pi A B) = choose (same F (Pi A B)) (pure (A, B)) do
  or_refuse (sort_of Δ infer Γ (Pi A B)) (ReductIllTyped (count Γ) F (Pi A B))
  pure (A, B)
checked_product Δ infer Γ f F _ = refuse (NotFunction (count Γ) f F)

abbrev pub product_form : Env → Infers → Ctx → Term → Term → Run (Term × Term)
product_form Δ infer Γ f F = do
  F' ← whnf Δ F
  checked_product Δ infer Γ f F F'

-- ---- inference

-- a type that was found is converted with the one that is wanted
abbrev pub fit : Env → Ctx → Term → Term → Run (Unit {0})
fit Δ Γ found wanted = do
  equal ← conv Δ found wanted
  choose equal (pure tt) (refuse (Mismatch (count Γ) found wanted))

-- a variable outside its context has no type
abbrev pub or_not_type : Ctx → Term → Option Term → Run Term
or_not_type Γ t (Some T) = pure T
or_not_type Γ t None = refuse (NotType (count Γ) t)

-- the product, unless the body's type is `□`
abbrev pub lam_type : Ctx → Term → Term → Run Term
lam_type Γ A (Srt square) = refuse (NotType (suc (count Γ)) Square)
lam_type Γ A B = pure (Pi A B)

-- each argument from left to right: its type is converted with the declared one with the earlier arguments put in
abbrev pub infer_all : Env → Infers → Ctx → Terms → Terms → Run (Unit {0})
infer_all Δ infer Γ (us ▹ u) (ps ▹ P) = do
  infer_all Δ infer Γ us ps
  U ← infer Γ u
  fit Δ Γ U (subst_all us P)
infer_all Δ infer Γ _ _ = pure tt

-- a constant or a metavariable; one that isn't there, or has another number of arguments, has no type
abbrev pub infer_item : Env → Infers → Ctx → Head → Terms → Option Item → Run Term
infer_item Δ infer Γ h us None = refuse (NotType (count Γ) (Con h us))
infer_item Δ infer Γ h us (Some d) = choose (nat_eq (count us) (count d.params)) (infer_all Δ infer Γ us d.params >> pure (subst_all us d.ty)) (refuse (NotType (count Γ) (Con h us)))

-- inference of a term, in terms of the inference of others
abbrev pub infer_case : Env → Infers → Ctx → Term → Run Term
infer_case Δ infer Γ (Srt star) = pure Square
infer_case Δ infer Γ (Srt square) = refuse (NotType (count Γ) Square)
infer_case Δ infer Γ (Var i) = or_not_type Γ (Var i) (type_at Γ i)
infer_case Δ infer Γ (App f a) = do
  F ← infer Γ f
  (A, B) ← product_form Δ infer Γ f F
  A' ← infer Γ a
  fit Δ Γ A' A
  pure (subst_all (none ▹ a) B)
infer_case Δ infer Γ (Lam A M) = do
  sort_of Δ infer Γ A
  B ← infer (Γ ▹ A) M
  lam_type Γ A B
infer_case Δ infer Γ (Pi A B) = do
  sort_of Δ infer Γ A
  s ← sort_of Δ infer (Γ ▹ A) B
  pure (Srt s)
infer_case Δ infer Γ (Con h us) = infer_item Δ infer Γ h us (item_of h Δ)

-- Inference at most so many levels deep: one unit, and then the term's case. Each level spends a unit, so the units at hand bound the levels.
abbrev pub infer_deep : Env → ℕ → Infers
infer_deep Δ zero Γ t = λ n. OutOfFuel
infer_deep Δ (suc g) Γ t = spend >> infer_case Δ (λ G u. infer_deep Δ g G u) Γ t

abbrev pub infer : Env → Infers
infer Δ Γ t n = infer_deep Δ n Γ t n

abbrev pub infer_sort : Env → Ctx → Term → Run Sort
infer_sort Δ Γ t = sort_of Δ (infer Δ) Γ t
